-- The rows under an item or entry, and their lines, where what is written after its mark is replaced by another content.
use Rattle.std.proofs.Common.{◌≡◌, ℕ, suc, ◌+◌, List, [], ◌∷◌, ◌++◌, length, true, sym, ap, ◌∙◌, append_assoc, length-append, rules}
use mathlib.Core.List.{head-eq_of_cons-eq, tail-eq_of_cons-eq}
use Rattle.yq_core.specs.Paths.{Step}
use Rattle.yq_outline.{specs.Comments.head_comment, specs.Group.level_or, specs.Outline.{Line, flatten, IsEven}}
use Rattle.yq_outline.{specs.Places.{lines_before, lines_after}, proofs.Decides.flatten-group, specs.Lines.{mark_line, lines_of_rows}}
use Rattle.yq_row_table.{specs.Grammar.is_entry, specs.Rows.{Content, Row, mark_column, Part}}
use Rattle.yq_documents.specs.Reading.{part_outline}
use Rattle.yq_edit_rules.{specs.Moved.dash_lines, specs.Unders.HasUnder, proofs.AppendLaws.around}
use Rattle.yq_edit_rules.proofs.LineLaws.{above_mark, dashes_count, mark_after}
use Rattle.yq_edit_rules.proofs.PlacedLaws.{found_is_entry, rows_in_parts, same_parts, whole_line}

-- the line of a row's mark, with a content
abbrev pub line_with : Row → Content → Line
line_with r c = mark_line (above_mark (head_comment r.gap) r.dashes) (mark_column r) r.mark c

-- the lines of its dashes
abbrev pub dashes_of : Row → List Line
dashes_of r = dash_lines (head_comment r.gap) r.column r.dashes

-- the lines of the rows that go, and of the one that comes
pub gone_lines : (r : Row) (under : List Row) → lines_of_rows (r ∷ under) ≡ dashes_of r ++ (line_with r r.content ∷ lines_of_rows under)
gone_lines r under = ap (λ (ls : List Line). ls ++ lines_of_rows under) (mark_after (head_comment r.gap) r.column r.dashes r.mark r.content) ∙ append_assoc (dashes_of r) (line_with r r.content ∷ []) (lines_of_rows under)

-- ---- the lines under the row

module _ (p : Part) (s : Step) (ss : List Step) (front : List Row) (r : Row) (under back : List Row) (w : HasUnder p s ss front r under back) (even : IsEven (level_or 0 (part_outline p)) (part_outline p)) where
  before_are : length (lines_of_rows front) + length (dashes_of r) ≡ length (lines_before w.found.place)
  before_are = ap (λ (n : ℕ). length (lines_of_rows front) + n) (dashes_count (head_comment r.gap) r.column r.dashes) ∙ w.number

  old_lines : lines_of_rows p.rows ≡ (lines_of_rows front ++ dashes_of r) ++ ((line_with r r.content ∷ lines_of_rows under) ++ lines_of_rows back)
  old_lines =
      ap lines_of_rows w.rows_are ∙ (rows_in_parts front (r ∷ under) back
      ∙ (ap (λ (ls : List Line). lines_of_rows front ++ (ls ++ lines_of_rows back)) (gone_lines r under) ∙ sym (around (lines_of_rows front) (dashes_of r) (line_with r r.content ∷ lines_of_rows under) (lines_of_rows back))))

  parts : (lines_of_rows front ++ dashes_of r ≡ lines_before w.found.place) × (line_with r r.content ∷ lines_of_rows under ≡ w.found.line ∷ flatten w.found.under) × (lines_of_rows back ≡ flatten w.found.after ++ lines_after w.found.place)
  parts =
      same_parts (lines_of_rows front ++ dashes_of r) (line_with r r.content ∷ lines_of_rows under) (lines_of_rows back) (lines_before w.found.place)
      (w.found.line ∷ flatten w.found.under) (flatten w.found.after ++ lines_after w.found.place)
      (sym old_lines ∙ (sym (flatten-group (lines_of_rows p.rows)) ∙ whole_line (part_outline p) s ss [] w.found w.is)) (length-append (lines_of_rows front) (dashes_of r) ∙ before_are) (ap suc w.count)

  pub line_is : line_with r r.content ≡ w.found.line
  line_is = head-eq_of_cons-eq parts.1

  pub under_is : lines_of_rows under ≡ flatten w.found.under
  under_is = tail-eq_of_cons-eq parts.1

  pub is_mark : is_entry r.mark ≡ true
  is_mark = search (rules, line_is, found_is_entry)
