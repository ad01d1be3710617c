use Rattle.std.proofs.Common.{sym, ap, ◌∙◌}
use Rattle.yq_core.{specs.Borrowed.borrows_text, specs.Scalars.is_quoted}
use Rattle.yq_rows.proofs.QuotedFronts.{borrows_both}
use Rattle.yq_rows.proofs.words.borrows_quoted.Goals as goal

pub returns-then-is_quoted : goal.returns-then-is_quoted
returns-then-is_quoted c = λ yes.
    borrows_both c.args.piece.now (ap is_quoted (sym c.as_bytes.ensures.value) ∙ (sym c.is_quoted.ensures ∙ c.if-is_quoted.true))
    (ap borrows_text (sym c.as_bytes-then-is_quoted.ensures.value) ∙ c.is_quoted_line.ensures yes)
