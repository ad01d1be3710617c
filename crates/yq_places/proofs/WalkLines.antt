-- Lines of a document from one up to another one, and their place.
use Rattle.std.proofs.Common.{rules, ◌≡◌, ℕ, suc, ◌+◌, ◌-◌, ◌<◌, List, length, take, Option, Some, sym, ap, ◌∙◌, arith}
use Rattle.std.specs.List.{slice_get}
use Rattle.yq_core.specs.Answers.{◌>>=◌}
use Rattle.yq_row_table.{specs.Rows.{Row, Cut}, specs.View.{Slices, slices, rows_of, RowsView}}
use Rattle.yq_outline.{specs.Lines.lines_of_rows, specs.Extents.row_start, specs.RowWalk.{HasRows, IsLine, AreLinesTo, line_number}}
use Rattle.yq_outline.{specs.declared.line_position.Position.Position, specs.declared.line_position.Stretch.Stretch}
use Rattle.yq_outline.{proofs.WalkEnds.lines_upto, proofs.WalkPositions.{located, position_line}}
use Rattle.yq_documents.specs.LinesInRows.{RowLine, row_line}
use Rattle.yq_places.{specs.EntryReading.{before_line, through_row, lines_place, line_begin}, specs.RowWalk.InCut}
use Rattle.yq_places.{proofs.StartLaws.line_begins, proofs.WalkDocuments.row_line_number, proofs.WalkNodes.{row_in_cut, row_line_is}}

-- the line before the first one of a row is the last one of the row before
module _ (s : RowsView) (d : Stretch) (h : HasRows s d) (q : Position) where
  abbrev row_before : Position
  row_before = record { row = q.row - 1; line = 0 }

  pub last_row_line : (at : IsLine s d row_before) → d.first < q.row → q.line ≡ 0 →
      row_line (line_number d h.rows q - 1) h.rows ≡ Some
      (record { before = (q.row - 1) - d.first; row = (located s d h row_before at).row; line = length (located s d h row_before at).row.dashes })
  last_row_line at less first =
      let l = located s d h row_before at in
      let i : ℕ = (q.row - 1) - d.first in
      let next : q.row - d.first ≡ suc i + 0 = omega (arith, less) in
      let number : line_number d h.rows q - 1 ≡ length (lines_of_rows (take i h.rows)) + length l.row.dashes = search (rules, arith, lines_upto) in
      ap (λ (n : ℕ). row_line n h.rows) number ∙ row_line_number h.rows i (length l.row.dashes) l.row l.there (omega arith)

pub lines_view : (s : RowsView) (d : Stretch) (c : Cut) (k : InCut s d c) (p q : Position) (start end : ℕ) → AreLinesTo s d p q → p.row < q.row →
    ((x : Slices) → slice_get s.rows p.row ≡ Some x → start ≡ line_begin (row_start p.row s) x p.line) →
    ((r : Row) → slice_get (rows_of c) (q.row - 1) ≡ Some r → end ≡ length (through_row (q.row - 1) r c)) →
    ◌≡◌ {A = Option (ℕ × ℕ)} (Some (start, end)) (lines_place d.first c k.document.are_there.rows (line_number d k.document.are_there.rows p) (line_number d k.document.are_there.rows q - 1))
lines_view s d c k p q start end a less agrees_start agrees_end =
    let rs : List Row = k.document.are_there.rows in
    let at : IsLine s d p = position_line s d p a.begin (omega (arith, less, a.stop.upto)) in
    let l = located s d k.document.are_there p at in
    let z : Position = record { row = q.row - 1; line = 0 } in
    let last : IsLine s d z = record { from = omega (arith, less, a.begin.from); upto = omega (arith, less, a.stop.upto); line = λ x e. omega arith } in
    let m = located s d k.document.are_there z last in
    let from : p.row ≡ d.first + (p.row - d.first) = omega (arith, at.from) in
    let to : q.row - 1 ≡ d.first + ((q.row - 1) - d.first) = omega (arith, last.from) in
    let begin : start ≡ length (before_line p.row p.line l.row c) =
    agrees_start (slices l.row) l.pieces ∙ ((λ i. line_begin (row_start p.row (k.rows i)) (slices l.row) p.line) ∙ line_begins c p.row p.line l.row (row_in_cut s d c k p at) l.within) in
    let finish : end ≡ length (through_row (q.row - 1) m.row c) = agrees_end m.row (row_in_cut s d c k z last) in
    (λ i. Some ((begin ∙ ap (λ (n : ℕ). length (before_line n p.line l.row c)) from) i, (finish ∙ ap (λ (n : ℕ). length (through_row n m.row c)) to) i))
    ∙ sym (ap (λ (o : Option RowLine). o >>= λ x. row_line (line_number d rs q - 1) rs >>= λ y. Some (length (before_line (d.first + x.before) x.line x.row c), length (through_row (d.first + y.before) y.row c))) (row_line_is s d c k p at)
    ∙ ap (λ (o : Option RowLine). o >>= λ y. Some (length (before_line (d.first + (p.row - d.first)) p.line l.row c), length (through_row (d.first + y.before) y.row c)))
    (last_row_line s d k.document.are_there q last (omega (arith, less, a.begin.from)) a.first))
