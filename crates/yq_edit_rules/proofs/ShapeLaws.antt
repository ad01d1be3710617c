-- Rows of the same shapes: where paths lead among their lines, and what these have room for.
use Rattle.std.proofs.Common.{◌≡◌, refl, ℕ, suc, ◌-◌, nat_lt, eqb, Bool, false, cond, List, [], ◌∷◌, ◌++◌, length, map, Option, Some, None}
use Rattle.std.{proofs.Common.{sym, ap, ◌∙◌, rules}, proofs.lemmas.List.map-append}
use Rattle.yq_core.{specs.Answers.◌>>=◌, specs.Paths.Step}
use Rattle.yq_outline.{specs.Comments.head_comment, specs.Ends.line_at_steps, specs.Lines.{row_lines, lines_of_rows}, specs.Outline.Line}
use Rattle.yq_row_table.specs.Rows.{Row, Part}
use Rattle.yq_documents.{specs.Ready.begins_no_node, specs.LinesInRows.{RowLine, row_line, row_line_has_room}}
use Rattle.yq_places.proofs.StrippedLines.{from_strip, line_strip, shape_lines, stripped}
use Rattle.yq_edit_rules.specs.Rooms.{RowShape, row_shape, EqualRoom, ShapesAgree}
use Rattle.yq_documents.specs.declared.path.Part as places

-- ---- rows by their shapes

abbrev pub shapes_lines : List RowShape → List Line
shapes_lines [] = []
shapes_lines (s ∷ ss) = shape_lines s.column s.dashes s.mark s.headed ++ shapes_lines ss

pub rows_strip : (rs : List Row) → map stripped (lines_of_rows rs) ≡ shapes_lines (map row_shape rs)
rows_strip [] = refl
rows_strip (r ∷ rs) = map-append stripped (row_lines r) (lines_of_rows rs) ∙ (λ i. from_strip (head_comment r.gap) r.column r.dashes r.mark r.content i ++ rows_strip rs i)

pub line_by_shape : (p q : Part) → map row_shape q.rows ≡ map row_shape p.rows → (steps : List Step) → line_at_steps steps (lines_of_rows q.rows) ≡ line_at_steps steps (lines_of_rows p.rows)
line_by_shape p q h steps =
    sym (line_strip steps (lines_of_rows q.rows))
    ∙ (ap (line_at_steps steps) (rows_strip q.rows ∙ (ap shapes_lines h ∙ sym (rows_strip p.rows))) ∙ line_strip steps (lines_of_rows p.rows))

-- what a line of rows has room for, by how many of its row's lines come before it, and how many dashes the row has
abbrev numbers_have_room : places.Part → ℕ × ℕ → Bool
numbers_have_room places.TheVariants.Content x = false
numbers_have_room places.TheVariants.Entry x = false
numbers_have_room places.TheVariants.HeadComment x = eqb x.0 0
numbers_have_room places.TheVariants.LineComment x = eqb x.0 x.1

abbrev have_room : places.Part → Option (ℕ × ℕ) → Bool
have_room part None = false
have_room part (Some x) = numbers_have_room part x

abbrev shape_row_line : ℕ → List RowShape → Option (ℕ × ℕ)
shape_row_line n [] = None
shape_row_line n (s ∷ ss) = cond (nat_lt (length s.dashes) n) (shape_row_line (n - suc (length s.dashes)) ss) (Some (n, length s.dashes))

abbrev numbers_of : Option RowLine → Option (ℕ × ℕ)
numbers_of None = None
numbers_of (Some s) = Some (s.line, length s.row.dashes)

row_line_numbers : (n : ℕ) (rs : List Row) → numbers_of (row_line n rs) ≡ shape_row_line n (map row_shape rs)
row_line_numbers n [] = refl
row_line_numbers n (r ∷ rs) = search (rules, row_line_numbers (n - suc (length r.dashes)) rs)

room_numbers : (part : places.Part) (o : Option RowLine) → row_line_has_room part o ≡ have_room part (numbers_of o)
room_numbers part o = search rules

line_room : (part : places.Part) (o : Option ℕ) (rs ss : List Row) → map row_shape ss ≡ map row_shape rs → row_line_has_room part (o >>= λ n. row_line n ss) ≡ row_line_has_room part (o >>= λ n. row_line n rs)
line_room part None rs ss h = refl
line_room part (Some n) rs ss h = search (rules, room_numbers, row_line_numbers)

equal_rooms : (p q : Part) → map row_shape q.rows ≡ map row_shape p.rows → EqualRoom p q
equal_rooms p q h part steps = ap (λ o. row_line_has_room part (o >>= λ n. row_line n q.rows)) (line_by_shape p q h steps) ∙ line_room part (line_at_steps steps (lines_of_rows p.rows)) p.rows q.rows h

begins_strip : (ls : List Line) → begins_no_node (map stripped ls) ≡ begins_no_node ls
begins_strip ls = search rules

pub shapes_are_alike : ShapesAgree
shapes_are_alike p q h = (
  equal_rooms p q h,
  sym (begins_strip (lines_of_rows q.rows)) ∙ (ap begins_no_node (rows_strip q.rows ∙ (ap shapes_lines h ∙ sym (rows_strip p.rows))) ∙ begins_strip (lines_of_rows p.rows)),
)
