-- The row of a key or dash whose line is its last one, as the code finds it by a walk.
use Rattle.std.proofs.Common.{rules, ◌≡◌, ℕ, ◌+◌, ◌-◌, ◌<◌, Bool, true, false, not, ◌&&◌, List, [], length, take, drop, Option, Some, None}
use Rattle.std.{proofs.Common.{option_map, refl, sym, ap, ◌∙◌, arith, length-append}, proofs.lemmas.Bool.{and_parts, false≢true}}
use Rattle.std.{proofs.lemmas.Option.{none-some, same_Some, slice_get_within}, specs.List.slice_get}
use Rattle.yq_core.{specs.Answers.◌>>=◌, specs.Paths.Step, specs.Text.is_empty}
use Rattle.yq_row_table.{specs.Grammar.IsCut, specs.Rows.{Content, Block, Row, Cut}, specs.RowStarts.row_start, specs.Seams.is_block}
use Rattle.yq_row_table.specs.View.{Slices, slices, content_cut, rows_of, RowsView, rows_view}
use Rattle.yq_outline.{proofs.PathLines.last_line, proofs.WalkPositions.located}
use Rattle.yq_outline.{specs.Extents.{front_length, head_place, lines_before_mark}, specs.Lines.lines_of_rows}
use Rattle.yq_outline.specs.RowWalk.{HasRows, deeper_rows, line_level, line_number, stretch_view}
use Rattle.yq_outline.{specs.declared.line_position.Position.Position, specs.declared.line_position.Stretch.Stretch}
use Rattle.yq_documents.{specs.LinesInRows.row_line_of, specs.Reading.{all_documents, cut_of}, specs.RowReading.is_block_head}
use Rattle.yq_documents.proofs.HeadLaws.{block_marks}
use Rattle.yq_places.{specs.PlacedRows.{PlacedPart, placed_document}, specs.RowWalk.document_row_range}
use Rattle.yq_places.specs.Placements.{RowsOfEntry, entry_rows_at, held, rows_of_entry}
use Rattle.yq_places.{specs.PlacementReading.{AreRowsOf, numbers_of_entry}, specs.PlacementViews.{IsHeldRow, IsLastOf}}
use Rattle.yq_places.{specs.declared.places.held_row.HeldRow.HeldRow, proofs.EntryNumbers.{FoundEntry, entry_found, entry_row_agrees}}
use Rattle.yq_places.{proofs.EntryRowLaws.{first_at, head_ends, pieces_at}, proofs.HeldTexts.line_is, proofs.RowHeads.slices_are}
use Rattle.yq_places.{proofs.StartLaws.head_is, proofs.WalkDocuments.place_found}
use Rattle.yq_row_walk.specs.Walk.{IsLineAt}

-- what the code tells of a row in which a line is the last one
pub last_of : (c : Cut) (s : RowsView) (q : Position) (r : Row) (x : HeldRow) (y : Slices) → s ≡ rows_view c → slice_get s.rows q.row ≡ Some y → slice_get (rows_of c) q.row ≡ Some r →
    x.row ≡ q.row → q.line ≡ lines_before_mark y → x.start ≡ row_start q.row s + front_length y → x.head.now ≡ y.head → x.tail.now ≡ y.tail → x.inline ≡ (not (is_empty x.head.now) && not (is_block_head x.head.now)) → IsLastOf c q r x
last_of c s q r x y is there at row last start head tail inline =
    let same : y ≡ slices r = slices_are c s q.row y r is there at in
    let begins : x.start ≡ row_start q.row (rows_view c) + front_length (slices r) = start ∙ λ i. row_start q.row (is i) + front_length (same i) in
    let own : x.head.now ≡ (slices r).head = head ∙ ap (λ (z : Slices). z.head) same in
    search (rules, row, last, same, start, begins, head_is, head, own, tail, inline)

-- a content whose head doesn't begin as a block scalar's is none
no_block_head : (x : Content) → is_block_head (content_cut x).3 ≡ false → is_block x ≡ false
no_block_head (Block space anchor b) is = absurd (false≢true (sym is ∙ block_marks b.style b.indicators))
no_block_head _ is = refl

pub not_so : (b : Bool) → not b ≡ true → b ≡ false
not_so true e = absurd (false≢true e)
not_so false e = refl

-- the row of a line to which steps lead
pub line_in : (s : RowsView) (d : Stretch) (steps : List Step) (q : Position) → HasRows s d → IsLineAt s d steps q → (y : Slices) × ((slice_get s.rows q.row ≡ Some y) × (q.row < length s.rows))
line_in s d steps q h at =
    let l = located s d h q at.line in (slices l.row, (l.pieces, slice_get_within s.rows q.row (slices l.row) l.pieces))

-- the rows of the item or entry to whose line steps lead
line_found : (t : List ℕ) (s : RowsView) (n : ℕ) (d : Stretch) (steps : List Step) (q : Position) (y : Slices) → IsCut t (cut_of t) →
    s ≡ rows_view (cut_of t) → Some (stretch_view d) ≡ document_row_range n (cut_of t) → all_documents (cut_of t) ≡ true →
    IsLineAt s d steps q → slice_get s.rows q.row ≡ Some y →
    FoundEntry t s n steps (record { row = q.row; line = q.line; dashes = lines_before_mark y; end = (q.row + 1) + deeper_rows (line_level q.line y) (take (d.end - (q.row + 1)) (drop (q.row + 1) s.rows)) })
line_found t s n d steps q y cut is known sound at there =
    let level : ℕ = line_level q.line y in
    let end : ℕ = (q.row + 1) + deeper_rows level (take (d.end - (q.row + 1)) (drop (q.row + 1) s.rows)) in
    entry_found t s n steps (record { row = q.row; line = q.line; dashes = lines_before_mark y; end = end }) cut is
    (place_found t s (cut_of t) n d (Some (q.row, q.line, lines_before_mark y, end)) (λ k cut rows. option_map (numbers_of_entry k rows) (row_line_of steps rows)) cut is known sound
    (λ k. entry_row_agrees s d k.document.are_there q at.line steps level (lines_before_mark y) end
    (λ z e. ap (line_level q.line) (same_Some _ _ (sym there ∙ e))) (λ z e. ap lines_before_mark (same_Some _ _ (sym there ∙ e))) refl
    (last_line steps [] (lines_of_rows k.document.are_there.rows) (line_number d k.document.are_there.rows q) (sym (at.leads k.document)) refl)))

-- where what the key or dash of rows holds begins
module _ (t : List ℕ) (s : RowsView) (e : RowsOfEntry) (row end : ℕ) (h : AreRowsOf t s e row end) where
  abbrev begins : RowsView → Slices → ℕ
  begins v x = row_start row v + front_length x

  abbrev place : ℕ × ℕ
  place = (begins s (slices e.row), begins s (slices e.row) + length (slices e.row).head)

  place_is : (c : Cut) → s ≡ rows_view c → (r : Row) → slice_get (rows_of c) row ≡ Some r → place ≡ head_place row c r
  place_is c is r at =
      let same : slices e.row ≡ slices r = slices_are c s row (slices e.row) r is (pieces_at t s e row end h) at in
      (λ i. (begins (is i) (same i), begins (is i) (same i) + length (same i).head)) ∙ sym (head_is c row r at)

  start_is : (head_place row (cut_of t) e.row).0 ≡ length (held e).before + length (held e).space
  start_is =
      let x : Slices = slices e.row in
      omega (
        arith,
        ap (λ (p : ℕ × ℕ). p.0) (place_is (cut_of t) h.rows_view_is e.row (first_at t s e row end h).there),
        head_ends t s e row end h place place_is,
        ap length (line_is e.row),
        length-append {A = ℕ},
      )

-- the row of the line that a walk has found is that of the item or entry to which the steps lead
pub held_row_is : (t : List ℕ) (s : RowsView) (n : ℕ) (d : Stretch) (steps : List Step) (q : Position) (x : HeldRow) → IsCut t (cut_of t) →
    s ≡ rows_view (cut_of t) → Some (stretch_view d) ≡ document_row_range n (cut_of t) → all_documents (cut_of t) ≡ true →
    IsLineAt s d steps q → (y : Slices) → slice_get s.rows q.row ≡ Some y → ((c : Cut) → s ≡ rows_view c → (r : Row) → slice_get (rows_of c) q.row ≡ Some r → IsLastOf c q r x) → IsHeldRow n steps (cut_of t) x
held_row_is t s n d steps q x cut is known sound at y there says =
    let f = line_found t s n d steps q y cut is known sound at there in
    let e : RowsOfEntry = f.entry in
    let end : ℕ = (q.row + 1) + deeper_rows (line_level q.line y) (take (d.end - (q.row + 1)) (drop (q.row + 1) s.rows)) in
    let h : AreRowsOf t s e q.row end = f.is.rows in
    let l : IsLastOf (cut_of t) q e.row x = says (cut_of t) is e.row (first_at t s e q.row end h).there in
    let same : y ≡ slices e.row = same_Some _ _ (sym there ∙ pieces_at t s e q.row end h) in
    record {
      entry = e;
      found = f.place;
      last = sym f.is.line ∙ (l.last ∙ (ap lines_before_mark (sym same) ∙ f.is.dashes));
      row = l.row ∙ f.row;
      start = l.start ∙ start_is t s e q.row end h;
      head = l.head;
      tail = l.tail;
      inline = λ yes. search (rules, and_parts, l.inline, no_block_head, e.row.content, not_so);
    }

-- the root has no rows of an item or entry
pub no_root_rows : (n : ℕ) (c : Cut) (e : RowsOfEntry) → rows_of_entry n [] c ≡ Some e → ⊥
no_root_rows n c e is = go (placed_document n c) is
  where
    go : (o : Option PlacedPart) → (o >>= λ d. option_map (entry_rows_at d) (row_line_of [] d.part.rows)) ≡ Some e → ⊥
    go None h = none-some _ h
    go (Some d) h = none-some _ h
