-- The rows of items and entries, as the code counts them.
use Rattle.std.proofs.Common.{rules, ◌≡◌, ℕ, suc, ◌+◌, ◌-◌, ◌≤◌, List, [], ◌∷◌, length, map, take, drop, Option, Some, None, option_map}
use Rattle.std.{proofs.Common.{refl, sym, ap, ◌∙◌, arith, length-take-le}, proofs.lemmas.List.{length-map, take-append-drop}}
use Rattle.std.{proofs.lemmas.Option.{slice_get_within, none-some}, specs.List.slice_get}
use Rattle.yq_outline.{proofs.EndsLaws.drop_at, specs.Ends.line_at_steps, specs.Lines.lines_of_rows, specs.Extents.lines_before_mark}
use Rattle.yq_outline.specs.RowWalk.{HasRows, IsLine, deeper_rows, line_level, line_number}
use Rattle.yq_outline.{specs.declared.line_position.Position.Position, specs.declared.line_position.Stretch.Stretch}
use Rattle.yq_outline.{proofs.WalkRows.following_rows, proofs.WalkPositions.located}
use Rattle.yq_core.{specs.Answers.◌>>=◌, specs.Paths.Step, proofs.Bools.bind_some}
use Rattle.yq_row_table.{specs.Grammar.IsCut, specs.Rows.{Row, Part, Cut}, specs.View.{Slices, slices, RowsView, rows_view}}
use Rattle.yq_documents.{specs.Documents.document_parts, specs.Reading.cut_of}
use Rattle.yq_documents.specs.LinesInRows.{RowLine, document_row, row_line, row_line_of}
use Rattle.yq_places.specs.PlacedRows.{PlacedPart, placed_document}
use Rattle.yq_places.specs.Placements.{RowsOfEntry, entry_rows_at, rows_of_entry, under_count}
use Rattle.yq_places.specs.PlacementReading.{IsEntryIn, PlacementCounts, numbers_at, numbers_of_entry, as_numbers}
use Rattle.yq_places.{proofs.EntryPlaceLaws.row_line_is, proofs.PlacedPartLaws.{map_some, part_is_there, placed_is}}
use Rattle.yq_places.{proofs.RowLineSpans.steps_row, proofs.WalkDocuments.row_line_number}
use Rattle.yq_places.specs.declared.places.rows_of_entry.RowsOfEntry as declared

-- ---- where steps lead in a document

pub none_along : (first : ℕ) (rs : List Row) (steps : List Step) → None ≡ line_at_steps steps (lines_of_rows rs) → None ≡ option_map (numbers_of_entry first rs) (row_line_of steps rs)
none_along first rs steps e = ap (λ (o : Option ℕ). option_map (numbers_of_entry first rs) (o >>= λ n. row_line n rs)) e

pub entry_row_agrees : (s : RowsView) (d : Stretch) (h : HasRows s d) (q : Position) → IsLine s d q → (steps : List Step) (level dashes end : ℕ) → ((x : Slices) → slice_get s.rows q.row ≡ Some x → level ≡ line_level q.line x) →
    ((x : Slices) → slice_get s.rows q.row ≡ Some x → dashes ≡ lines_before_mark x) → end ≡ (q.row + 1) + deeper_rows level (take (d.end - (q.row + 1)) (drop (q.row + 1) s.rows)) →
    Some (line_number d h.rows q) ≡ line_at_steps steps (lines_of_rows h.rows) → Some (q.row, q.line, dashes, end) ≡ option_map (numbers_of_entry d.first h.rows) (row_line_of steps h.rows)
entry_row_agrees s d h q at steps level dashes end level_is dashes_are end_is line =
    let l = located s d h q at in
    let i : ℕ = q.row - d.first in
    let x : RowLine = record { before = i; row = l.row; line = q.line } in
    let next : (q.row + 1) - d.first ≡ suc i = omega (arith, at.from) in
    let rest : take (d.end - (q.row + 1)) (drop (q.row + 1) s.rows) ≡ map slices (drop (suc i) h.rows) =
    following_rows s d h (q.row + 1) (omega (arith, at.from)) (omega (arith, at.upto)) ∙ ap (λ (k : ℕ). map slices (drop k h.rows)) next in
    let count : dashes ≡ length l.row.dashes = dashes_are (slices l.row) l.pieces ∙ l.row_agrees.counted in
    let under : deeper_rows level (take (d.end - (q.row + 1)) (drop (q.row + 1) s.rows)) ≡ under_count x (drop (suc i) h.rows) = (λ j. deeper_rows (level_is (slices l.row) l.pieces j) (rest j)) in
    search (rules, row_line_number, arith)

-- ---- where steps lead in a text

fewer : (n : ℕ) (ss : List Slices) → deeper_rows n ss ≤ length ss
fewer n [] = omega arith
fewer n (s ∷ ss) = search (rules, arith, fewer n ss)

-- The rows of an item or entry that the code has found.
pub record FoundEntry (t : List ℕ) (s : RowsView) (n : ℕ) (steps : List Step) (m : declared.RowsOfEntry) : Type 0 where
  pub entry : RowsOfEntry
  pub is : IsEntryIn t s entry m
  pub place : rows_of_entry n steps (cut_of t) ≡ Some entry
  pub row : m.row ≡ document_row n (cut_of t) + length entry.front

pub entry_found : (t : List ℕ) (s : RowsView) (n : ℕ) (steps : List Step) (m : declared.RowsOfEntry) → IsCut t (cut_of t) → s ≡ rows_view (cut_of t) → Some (as_numbers m) ≡ numbers_at n steps (cut_of t) → FoundEntry t s n steps m
entry_found t s n steps m cut is e =
    let c : Cut = cut_of t in
    let k : ℕ = document_row n c in
    let p = bind_some (slice_get (document_parts c) n) (sym e) in
    let x = map_some (numbers_of_entry k p.0.rows) (row_line_of steps p.0.rows) (as_numbers m) p.2 in
    let d = placed_is n c p.0 p.1 in
    let rs : List Row = d.0.part.rows in
    let q : RowLine = x.0 in
    let line_in_row : row_line_of steps rs ≡ Some q = ap (λ (y : Part). row_line_of steps y.rows) d.2 ∙ x.1 in
    let count : ℕ = under_count q (drop (suc q.before) rs) in
    let same : numbers_of_entry k rs q ≡ as_numbers m = ap (λ (y : Part). numbers_of_entry k y.rows q) d.2 ∙ x.2 in
    let row : slice_get rs q.before ≡ Some q.row = steps_row (line_at_steps steps (lines_of_rows rs)) rs q line_in_row in
    let within = slice_get_within rs q.before q.row row in
    let next : q.before + 1 ≡ suc q.before = omega arith in
    let back : List Row = drop (suc q.before) rs in
    let fits : count ≤ length back = omega (arith, fewer (line_level q.line (slices q.row)) (map slices back), length-map back slices) in
    let front : length (take q.before rs) ≡ q.before = length-take-le q.before rs (omega (arith, within)) in
    let rest : drop q.before rs ≡ q.row ∷ back = drop_at rs q.before q.row row ∙ ap (λ (j : ℕ). q.row ∷ drop j rs) next in
    let row_is : k + q.before ≡ m.row = ap (λ (y : PlacementCounts). y.0) same in
    let end_is : k + q.before + 1 + count ≡ m.end = ap (λ (y : PlacementCounts). y.3) same in
    record {
      entry = entry_rows_at d.0 q;
      is = search (rules, arith, take-append-drop, row_line_is);
      row = omega (arith, row_is, front);
      place = ap (λ (o : Option PlacedPart). o >>= λ y. option_map (entry_rows_at y) (row_line_of steps y.part.rows)) d.1 ∙ ap (option_map (entry_rows_at d.0)) line_in_row;
    }

pub no_entry : (n : ℕ) (steps : List Step) (c : Cut) → None ≡ numbers_at n steps c → rows_of_entry n steps c ≡ None
no_entry n steps c e = go (placed_document n c) refl
  where
    at_row_line : (d : PlacedPart) (o : Option RowLine) → slice_get (document_parts c) n ≡ Some d.part → row_line_of steps d.part.rows ≡ o → option_map (entry_rows_at d) o ≡ None
    at_row_line d o there is = search (rules, none-some)

    go : (o : Option PlacedPart) → placed_document n c ≡ o → (o >>= λ y. option_map (entry_rows_at y) (row_line_of steps y.part.rows)) ≡ None
    go None is = refl
    go (Some d) is = at_row_line d (row_line_of steps d.part.rows) (part_is_there n c d is).there refl
