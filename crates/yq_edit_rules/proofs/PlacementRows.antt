-- The rows of an item or entry that are found are those of the line to which steps lead, with the lines under it.
use Rattle.std.proofs.lemmas.Grind.{common_steps}
use Rattle.std.proofs.Common.{◌≡◌, ◌≤◌, true, ℕ, zero, suc, ◌+◌, List, [], ◌∷◌, ◌++◌, take, drop, length, map, Option, Some, option_map}
use Rattle.std.{proofs.Common.{sym, ap, ◌∙◌, subst, arith, length-append, rules}, proofs.lemmas.List.take-append-drop}
use Rattle.std.{proofs.lemmas.Option.{none-some, same_Some}, specs.List.slice_get, specs.Str.is_utf8}
use Rattle.yq_core.{specs.Answers.◌>>=◌, specs.Paths.Step, proofs.Bools.{bind_some, guard_then}}
use Rattle.yq_outline.{specs.Comments.head_comment, specs.Ends.{IsEndOf, lines_end, line_at_steps}, specs.Group.{group, is_fine}}
use Rattle.yq_outline.{specs.Outline.{Line, flatten, level}, specs.Places.{FoundLine, find, lines_before}, proofs.LineEnds.end_agrees}
use Rattle.yq_outline.{specs.Lines.{lines_of_rows, row_lines}, specs.RowWalk.{deeper_rows, line_level}}
use Rattle.yq_outline.{proofs.WalkEnds.{ends_at, lines_upto}, proofs.WalkLevels.{RowsAgree, IsLineOf, RowAgrees, level_is, line_in}}
use Rattle.yq_outline.proofs.WalkRows.{rows_agree}
use Rattle.yq_row_table.{specs.Rows.{Row, Cut, cut_text}, specs.View.slices, specs.Grammar.unlimited}
use Rattle.yq_row_table.proofs.splices.ContentPlaces.{count_front, rows_around}
use Rattle.yq_documents.{specs.Documents.document_parts, specs.Reading.read_at, specs.LinesInRows.{RowLine, row_line, row_line_of}}
use Rattle.yq_documents.{proofs.PartRows.each, proofs.ReadLaws.text_takes}
use Rattle.yq_places.{specs.PlacedRows.{PlacedPart, PlacedRow, placed_document, placed_row, row_of_path}, proofs.DashLaws.line_within}
use Rattle.yq_places.{proofs.PrintedTexts.map_some, proofs.RowPathLaws.document_fine, proofs.RowLineSpans.steps_row}
use Rattle.yq_places.{proofs.UnderCounts.end_is, specs.Placements.{RowsOfEntry, entry_rows_at, rows_of_entry, under_count}}
use Rattle.yq_edit_rules.{specs.DocumentRows.{IsDocumentPart, after_document}, specs.PlacedParts.IsDocumentAt, proofs.LineLaws.row_count}
use Rattle.yq_edit_rules.{proofs.PartLaws.{document_known, part_rows}, proofs.PathLaws.row_line_number}
use Rattle.yq_edit_rules.{proofs.PlacedPartLaws.document_is_there_at, specs.PlacementLaws.{RowsAreFound, HasItsRows}}

row_agrees_at : (rs : List Row) (i : ℕ) (r : Row) → RowsAgree rs → slice_get rs i ≡ Some r → RowAgrees r
row_agrees_at [] i r h e = absurd (cc)
row_agrees_at (x ∷ rs) zero r h e = subst RowAgrees (same_Some _ _ e) h.0
row_agrees_at (x ∷ rs) (suc i) r h e = row_agrees_at rs i r h.1 e

module _ (n : ℕ) (s : Step) (ss : List Step) (c : Cut) (read : read_at (cut_text c) ≡ Some c) (d : PlacedPart) (at : placed_document n c ≡ Some d) (x : RowLine) (printed_line : row_line_of (s ∷ ss) d.part.rows ≡ Some x) where
  abbrev rs : List Row
  rs = d.part.rows

  abbrev under : ℕ
  under = under_count x (drop (suc x.before) d.part.rows)

  is_located : IsDocumentAt c n d
  is_located = document_is_there_at c n d at

  old : IsDocumentPart (cut_text c) c n d.part
  old = record { read = read; there = is_located.there }

  fine : is_fine (group (lines_of_rows d.part.rows)) ≡ true
  unfolding read_at
  fine = document_fine d.part (each (document_parts c) (text_takes (cut_text c) c (guard_then (is_utf8 (cut_text c)) read).1).1 n d.part is_located.there)

  row : slice_get d.part.rows x.before ≡ Some x.row
  row = steps_row (line_at_steps (s ∷ ss) (lines_of_rows d.part.rows)) d.part.rows x printed_line

  within : x.line ≤ length x.row.dashes
  within =
      let w : PlacedRow = placed_row d x in
      line_within n (s ∷ ss) c w (ap (λ (o : Option PlacedPart). o >>= λ q. option_map (placed_row q) (row_line_of (s ∷ ss) q.part.rows)) at ∙ ap (option_map (placed_row d)) printed_line)

  -- its number
  numbered : (m : ℕ) × (line_at_steps (s ∷ ss) (lines_of_rows d.part.rows) ≡ Some m) × (row_line m d.part.rows ≡ Some x)
  numbered = bind_some (line_at_steps (s ∷ ss) (lines_of_rows d.part.rows)) printed_line

  found : (f : FoundLine) × (find s ss (group (lines_of_rows d.part.rows)) ≡ Some (f, [])) × (length (lines_before f.place) ≡ numbered.0)
  found = search (rules, none-some, same_Some, numbered.1)

  rows_are : d.part.rows ≡ take x.before d.part.rows ++ (x.row ∷ drop (suc x.before) d.part.rows)
  rows_are = rows_around d.part.rows x.before x.row row

  number : length (lines_of_rows (take x.before d.part.rows)) + x.line ≡ length (lines_before found.0.place)
  number = sym (found.2 ∙ row_line_number d.part.rows (take x.before d.part.rows) (drop (suc x.before) d.part.rows) numbered.0 x numbered.2 rows_are (count_front d.part.rows x.before x.row row))

  -- the lines under it
  row_agrees : RowsAgree d.part.rows
  row_agrees = rows_agree unlimited d.part.rows d.part.end (after_document n c) (part_rows (cut_text c) c n d.part old (document_known (cut_text c) c n d.part old).cut)

  line : (l : Line) × (slice_get (row_lines x.row) x.line ≡ Some l) × IsLineOf x.row.column x.row.dashes x.row.mark x.row.content x.line l
  line = line_in (head_comment x.row.gap) x.row.column x.row.dashes x.row.mark x.row.content x.line within

  deep : level line.0 ≡ line_level x.line (slices x.row)
  deep = level_is x.row x.line line.0 (row_agrees_at d.part.rows x.before x.row row_agrees row) within line.2

  abbrev stop : ℕ → ℕ
  stop k = length (lines_of_rows (take (suc x.before + deeper_rows k (map slices (drop (suc x.before) d.part.rows))) d.part.rows))

  ends : IsEndOf (lines_of_rows d.part.rows) (length (lines_of_rows (take x.before d.part.rows)) + x.line) (stop (line_level x.line (slices x.row)))
  ends =
      subst (λ k. IsEndOf (lines_of_rows d.part.rows) (length (lines_of_rows (take x.before d.part.rows)) + x.line) (stop k)) deep
      (ends_at d.part.rows x.before x.line x.row line.0 row_agrees row within line.1)

  counted : length (lines_of_rows (x.row ∷ take under (drop (suc x.before) d.part.rows))) ≡ x.line + suc (length (flatten found.0.under))
  counted =
      let a : ℕ = length (lines_of_rows (take x.before d.part.rows)) + x.line in
      let agrees : stop (line_level x.line (slices x.row)) ≡ lines_end a (lines_of_rows d.part.rows) =
      end_agrees (lines_of_rows d.part.rows) a (stop (line_level x.line (slices x.row))) (let first = ends.0 in let last = ends.1 in omega (arith, first, last)) ends in
      let end : lines_end a (lines_of_rows d.part.rows) ≡ suc (length (lines_before found.0.place)) + length (flatten found.0.under) =
      ap (λ k. lines_end k (lines_of_rows d.part.rows)) number ∙ (end_is (lines_of_rows d.part.rows) s ss [] found.0 found.1 fine).1 in
      let upto = lines_upto d.part.rows x.before under x.row row in
      omega (arith, agrees, end, upto, number, row_count x.row, length-append (row_lines x.row) (lines_of_rows (take under (drop (suc x.before) d.part.rows))))

  there : HasItsRows n s ss c (entry_rows_at d x)
  there = grind (arith, common_steps, old, found, rows_are, take-append-drop, end_is, is_located, number, counted)

pub rows_located : RowsAreFound
rows_located n s ss c e read is =
    let d = bind_some (placed_document n c) is in
    let x = map_some (row_line_of (s ∷ ss) d.0.part.rows) d.2 in
    subst (HasItsRows n s ss c) x.2 (there n s ss c read d.0 d.1 x.0 x.1)

-- The line of the key or dash of rows is one of those of the first row.
pub entry_within : (n : ℕ) (s : Step) (ss : List Step) (c : Cut) (e : RowsOfEntry) → rows_of_entry n (s ∷ ss) c ≡ Some e → e.line ≤ length e.row.dashes
entry_within n s ss c e is =
    let d = bind_some (placed_document n c) is in
    let x = map_some (row_line_of (s ∷ ss) d.0.part.rows) d.2 in
    let row : row_of_path n (s ∷ ss) c ≡ Some (placed_row d.0 x.0) = search (rules, x, d) in
    subst (λ (q : RowsOfEntry). q.line ≤ length q.row.dashes) x.2 (line_within n (s ∷ ss) c (placed_row d.0 x.0) row)
