use Rattle.std.proofs.Common.{Some, sym, ap, ◌∙◌}
use Rattle.yq_core.{specs.Scalars.is_quoted, specs.Trees.scalar_node, proofs.BorrowedTexts.{plain_scalar, quoted_scalar}}
use Rattle.yq_inline.specs.BorrowedForms.{borrows_front, front_node}
use Rattle.yq_inline.proofs.forms.leading_scalar.Goals as goal

pub returns-then-is_quoted : goal.returns-then-is_quoted
returns-then-is_quoted c =
    let quoted = ap is_quoted (sym c.as_bytes.ensures.value) ∙ (sym c.is_quoted.ensures ∙ c.if-is_quoted.true) in
    let borrows = sym (ap borrows_front c.in-Ok.ensures.read) ∙ c.requires in
    ap front_node c.in-Ok.ensures.read ∙ ap (λ s. Some (scalar_node s)) (sym (quoted_scalar c.in-Ok.piece.now c.between_quotes.result.now quoted (c.in-Ok.ensures.quoted quoted) borrows c.between_quotes.ensures))

pub returns : goal.returns
returns c =
    let quoted = ap is_quoted (sym c.as_bytes.ensures.value) ∙ (sym c.is_quoted.ensures ∙ c.if-is_quoted.false) in
    let borrows = sym (ap borrows_front c.in-Ok.ensures.read) ∙ c.requires in
    ap front_node c.in-Ok.ensures.read ∙ (ap (λ s. Some (scalar_node s)) (sym (plain_scalar c.in-Ok.piece.now quoted borrows)) ∙ ap Some (sym c.plain_kind.ensures))
