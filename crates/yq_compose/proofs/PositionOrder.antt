-- In which order lines are by their rows.
use Rattle.std.proofs.Common.{rules, ◌≡◌, ◌⊎◌, inl, inr, ℕ, suc, ◌+◌, ◌-◌, ◌<◌, ◌≤◌, true, length, take, Some, sym, ap, ◌∙◌, arith, refl}
use Rattle.std.{proofs.Common.drop, proofs.lemmas.Bool.{cases_lt, false≢true}, proofs.lemmas.Option.{same_Some, slice_get_within}}
use Rattle.std.{specs.List.slice_get, specs.Prelude.is_some}
use Rattle.yq_outline.{specs.Ends.IsEndOf, specs.Outline.Line, proofs.LineEnds.end_agrees, specs.Lines.lines_of_rows}
use Rattle.yq_outline.{specs.Extents.lines_before_mark, specs.RowWalk.{HasRows, IsLine, IsPosition, deeper_rows, line_level, line_number}}
use Rattle.yq_outline.{specs.declared.line_position.Position.Position, specs.declared.line_position.Stretch.Stretch}
use Rattle.yq_outline.{proofs.WalkEnds.lines_upto, proofs.WalkPositions.{after_agrees, located, position_line}}
use Rattle.yq_row_table.specs.View.{slices, RowsView}

-- a later line is of no earlier row
pub row_order : (s : RowsView) (d : Stretch) (h : HasRows s d) (q e : Position) → IsLine s d q → IsPosition s d e → line_number d h.rows q < line_number d h.rows e → q.row ≤ e.row
row_order s d h q e at to less = go (cases_lt e.row q.row)
  where
    go : (e.row < q.row) ⊎ (q.row ≤ e.row) → q.row ≤ e.row
    go (inl before) =
        let k = located s d h e (position_line s d e to (omega (arith, before, at.upto))) in
        let i : ℕ = e.row - d.first in
        let n : ℕ = (q.row - d.first) - suc i in
        let same : q.row - d.first ≡ suc i + n = omega (arith, before, at.from, to.from) in
        absurd (omega (arith, less, k.within, lines_upto h.rows i n k.row k.there, ap (λ (m : ℕ). length (lines_of_rows (take m h.rows))) same))
    go (inr after) = after

-- a line after the last one of a row is of a later row
pub row_later : (s : RowsView) (d : Stretch) (h : HasRows s d) (q e : Position) (at : IsLine s d q) → IsPosition s d e → line_number d h.rows q < line_number d h.rows e → q.line ≡ length (located s d h q at).row.dashes → q.row < e.row
row_later s d h q e at to less last = go (cases_lt q.row e.row)
  where
    go : (q.row < e.row) ⊎ (e.row ≤ q.row) → q.row < e.row
    go (inl later) = later
    go (inr other) =
        let k = located s d h q at in
        let same : q.row ≡ e.row = omega (arith, other, row_order s d h q e at to less) in
        let counted : lines_before_mark (slices k.row) ≡ length k.row.dashes = k.row_agrees.counted in
        let there : slice_get s.rows e.row ≡ Some (slices k.row) = ap (slice_get s.rows) (sym same) ∙ k.pieces in
        absurd (omega (arith, less, last, counted, to.line (slices k.row) there, ap (λ (m : ℕ). length (lines_of_rows (take (m - d.first) h.rows))) same))

-- a line with a head is the last one of its row
pub head_last : (s : RowsView) (d : Stretch) (h : HasRows s d) (q : Position) (at : IsLine s d q) (l : Line) →
    slice_get (lines_of_rows h.rows) (line_number d h.rows q) ≡ Some l → true ≡ is_some l.head → q.line ≡ length (located s d h q at).row.dashes
head_last s d h q at l is some = search (rules, cases_lt, located, same_Some, false≢true)

-- a line under which there are none is the last one of its row
pub last_alone : (s : RowsView) (d : Stretch) (h : HasRows s d) (q e : Position) (at : IsLine s d q) → line_number d h.rows e ≡ line_number d h.rows q + 1 → IsEndOf (lines_of_rows h.rows) (line_number d h.rows q) (line_number d h.rows e) →
    q.line ≡ length (located s d h q at).row.dashes
last_alone s d h q e at next ends =
    let k = located s d h q at in
    let ls = lines_of_rows h.rows in
    let a : ℕ = line_number d h.rows q in
    let n : ℕ = line_level q.line (slices k.row) in
    let m : ℕ = deeper_rows n (take (d.end - (q.row + 1)) (drop (q.row + 1) s.rows)) in
    let b : ℕ = line_number d h.rows (record { row = (q.row + 1) + m; line = 0 }) in
    let agrees : IsEndOf ls a b = after_agrees s d h q (record { row = (q.row + 1) + m; line = 0 }) n at (λ x there. ap (line_level q.line) (same_Some _ _ (sym k.pieces ∙ there))) refl refl in
    let within : a < length ls = slice_get_within ls a k.line k.is in
    let same : b ≡ line_number d h.rows e = end_agrees ls a b within agrees ∙ sym (end_agrees ls a (line_number d h.rows e) within ends) in
    let upto : ((q.row + 1) + m) - d.first ≡ suc (q.row - d.first) + m = omega (arith, at.from) in
    omega (arith, k.within, same, next, lines_upto h.rows (q.row - d.first) m k.row k.there, ap (λ (j : ℕ). length (lines_of_rows (take j h.rows))) upto)
