use Rattle.std.{proofs.Common.{Bool, cond, eqb, refl, sym, ap, ◌∙◌}, specs.List.list_any}
use Rattle.yq_core.{specs.Nodes.begins_with, specs.Scalars.is_quoted, specs.Borrowed.borrows_text as lent}
use Rattle.yq_inline.proofs.BorrowedPieces.{borrows_quoted}
use Rattle.yq_inline.proofs.borrows.borrows_text.Goals as goal

pub returns-then-is_quoted_line : goal.returns-then-is_quoted_line
returns-then-is_quoted_line c = sym (ap lent (sym c.as_bytes.ensures.value) ∙ c.if-is_quoted_line.ensures refl)

pub returns-then-begins_escaped : goal.returns-then-begins_escaped
returns-then-begins_escaped c = sym (c.if-begins_escaped.ensures refl)

pub returns : goal.returns
returns c =
    borrows_quoted c.args.piece.now c.borrowed_text.result.now c.holds_escape.result (sym c.holds_break.ensures ∙ c.if-holds_break.false)
    (ap is_quoted (sym c.as_bytes-2.ensures.value) ∙ (sym c.is_quoted.ensures ∙ c.if-not-is_quoted.false)) c.borrowed_text.ensures
    (c.holds_escape.ensures ∙ ap (λ (x : Bool). list_any (λ b. eqb b (cond x 92 39)) c.borrowed_text.result.now) (c.first_is-is_double.ensures ∙ ap (begins_with 34) c.as_bytes-3.ensures.value))
