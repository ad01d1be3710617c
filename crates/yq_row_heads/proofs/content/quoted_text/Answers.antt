use Rattle.std.proofs.Common.{◌∙◌, refl, sym, ap}
use Rattle.yq_core.{specs.Borrowed.borrows_text, proofs.BorrowedTexts.inner_means}
use Rattle.yq_row_heads.proofs.content.quoted_text.Goals as goal

pub returns-then-is_quoted_line : goal.returns-then-is_quoted_line
returns-then-is_quoted_line c =
    c.between_quotes.ensures ∙ inner_means c.args.piece.now c.requires.quoted c.requires.scalar (ap borrows_text (sym c.as_bytes.ensures.value) ∙ c.if-is_quoted_line.ensures refl)
