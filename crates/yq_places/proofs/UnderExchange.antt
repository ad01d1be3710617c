-- The lines of rows after other rows.
use Rattle.std.proofs.Common.{◌≡◌, List, [], ◌∷◌, ◌++◌, refl, sym, ap, ◌∙◌, append_assoc}
use Rattle.yq_row_table.specs.Rows.{Row}
use Rattle.yq_outline.{specs.Lines.{row_lines, lines_of_rows}, specs.Outline.Line}

pub lines_append : (a b : List Row) → lines_of_rows (a ++ b) ≡ lines_of_rows a ++ lines_of_rows b
lines_append [] b = refl
lines_append (r ∷ a) b = ap (λ (ls : List Line). row_lines r ++ ls) (lines_append a b) ∙ sym (append_assoc (row_lines r) (lines_of_rows a) (lines_of_rows b))
