-- The positions that checks give, after lines and those under them.
use Rattle.std.proofs.Common.{rules, ◌≡◌, ◌⊎◌, inl, inr, ℕ, suc, ◌+◌, ◌<◌, true, false, drop, sym, ap, ◌∙◌, subst, arith}
use Rattle.std.{proofs.lemmas.Bool.false≢true, specs.Prelude.is_some}
use Rattle.yq_outline.{specs.Ends.{IsEndOf, deeper_count, has_no_lines, part}, specs.Outline.level, proofs.EndsLaws.deeper_line}
use Rattle.yq_outline.{proofs.LineEnds.end_counted, specs.Lines.lines_of_rows}
use Rattle.yq_outline.specs.RowWalk.{HasRows, IsLine, IsPosition, OfLine, OfLines, line_number, lines_stop}
use Rattle.yq_outline.{specs.declared.line_position.Position.Position, specs.declared.line_position.Stretch.Stretch}
use Rattle.yq_outline.{proofs.StopLaws.stop_step, proofs.WalkPositions.located}
use Rattle.yq_row_table.specs.View.{RowsView}
use Rattle.yq_compose.{specs.Checking.{GivesStop, GivesEnd}, proofs.PositionOrder.{head_last, last_alone, row_later, row_order}}
use Rattle.yq_compose.proofs.StopLaws.{count_none, count_one}

-- where none are deeper, the position itself
pub gives_none : (s : RowsView) (d : Stretch) (q : Position) (floor : ℕ) → IsPosition s d q → OfLines s d (λ ls n. has_no_lines (part ls (n q) floor) ≡ true) → GivesStop s d q floor q
gives_none s d q floor at h5 = search (rules, count_none, false≢true)

-- after a node alone, the next line
pub gives_bare : (s : RowsView) (d : Stretch) (q e : Position) (floor : ℕ) → IsLine s d q → IsPosition s d e → OfLines s d (λ ls n. n e ≡ n q + 1) → OfLine s d q (λ l. true ≡ is_some l.head) →
    OfLines s d (λ ls n. has_no_lines (part ls (n q) floor) ≡ false) → OfLines s d (λ ls n. has_no_lines (part ls (n e) floor) ≡ true) → GivesStop s d q floor e
gives_bare s d q e floor at to next some deep none = record {
  position = to;
  number = λ h.
      let k = located s d h q at in
      let ls = lines_of_rows h.rows in
      count_one ls (line_number d h.rows q) (line_number d h.rows e) floor k.line k.is (deeper_line ls (line_number d h.rows q) floor k.line k.is (deep h)) (next h) (none h);
  later = λ h _.
      let k = located s d h q at in
      row_later s d h q e at to (omega (arith, next h)) (head_last s d h q at k.line k.is (some h k.line k.is));
}

-- where the lines end that are under a line
following_end : (s : RowsView) (d : Stretch) (q e f : Position) (floor : ℕ) → IsLine s d q → OfLines s d (λ ls n. n e ≡ n q + 1) → OfLine s d q (λ l. floor ≡ level l) → GivesStop s d e floor f → OfLines s d (λ ls n. IsEndOf ls (n q) (n f))
following_end s d q e f floor at next lev g h =
    let k = located s d h q at in
    let ls = lines_of_rows h.rows in
    let a : ℕ = line_number d h.rows q in
    let b : ℕ = line_number d h.rows e in
    let past : suc a ≡ b = omega (arith, next h) in
    let same : level k.line ≡ floor = sym (lev h k.line k.is) in
    let count : deeper_count (level k.line) (drop (suc a) ls) ≡ deeper_count floor (drop b ls) = λ i. deeper_count (same i) (drop (past i) ls) in
    let stop : suc a + deeper_count (level k.line) (drop (suc a) ls) ≡ line_number d h.rows f = omega (arith, count, past, g.number h) in
    subst (IsEndOf ls a) stop (end_counted ls a k.line k.is)

-- after a line and those under it, what is after these
pub gives_end : (s : RowsView) (d : Stretch) (q e f : Position) (floor : ℕ) → HasRows s d → IsLine s d q → IsPosition s d e → OfLines s d (λ ls n. n e ≡ n q + 1) → OfLine s d q (λ l. floor ≡ level l) →
    OfLines s d (λ ls n. has_no_lines (part ls (n e) floor) ≡ false) → GivesStop s d e floor f → GivesEnd s d q f
gives_end s d q e f floor rows at to next lev deep g = record {
  position = g.position;
  end = following_end s d q e f floor at next lev g;
  later = omega (arith, row_order s d rows q e at to (omega (arith, next rows)), g.later rows (deep rows));
}

-- after a line under which there are none, the next line
pub gives_alone : (s : RowsView) (d : Stretch) (q e : Position) (floor : ℕ) → HasRows s d → IsLine s d q → IsPosition s d e → OfLines s d (λ ls n. n e ≡ n q + 1) → OfLine s d q (λ l. floor ≡ level l) →
    OfLines s d (λ ls n. has_no_lines (part ls (n e) floor) ≡ true) → GivesEnd s d q e
gives_alone s d q e floor rows at to next lev none =
    let ends = following_end s d q e e floor at next lev (gives_none s d e floor to none) in
    record {
      position = to;
      end = ends;
      later = row_later s d rows q e at to (omega (arith, next rows)) (last_alone s d rows q e at (next rows) (ends rows));
    }

-- after all lines of a collection, where no more are deeper
pub gives_all : (s : RowsView) (d : Stretch) (q e : Position) (floor : ℕ) → IsPosition s d e → OfLines s d (λ ls n. lines_stop (n q) floor ls ≡ lines_stop (n e) floor ls) → (e ≡ q) ⊎ (q.row < e.row) →
    OfLines s d (λ ls n. has_no_lines (part ls (n e) floor) ≡ true) → GivesStop s d q floor e
gives_all s d q e floor to same moved h8 = search (rules, count_none, false≢true)

-- one more line of a collection is passed
pub stop_same : (s : RowsView) (d : Stretch) (h : HasRows s d) (q e f : Position) (floor : ℕ) (at : IsLine s d e) →
    lines_stop (line_number d h.rows q) floor (lines_of_rows h.rows) ≡ lines_stop (line_number d h.rows e) floor (lines_of_rows h.rows) →
    has_no_lines (part (lines_of_rows h.rows) (line_number d h.rows e) floor) ≡ false → GivesEnd s d e f → lines_stop (line_number d h.rows q) floor (lines_of_rows h.rows) ≡ lines_stop (line_number d h.rows f) floor (lines_of_rows h.rows)
stop_same s d h q e f floor at same deep g =
    let k = located s d h e at in
    let ls = lines_of_rows h.rows in
    same ∙ stop_step ls (line_number d h.rows e) floor (line_number d h.rows f) k.line k.is (deeper_line ls (line_number d h.rows e) floor k.line k.is deep) (g.end h)

pub moved_on : (q e f : Position) → (e ≡ q) ⊎ (q.row < e.row) → e.row < f.row → (f ≡ q) ⊎ (q.row < f.row)
moved_on q e f (inl is) less = inr (omega (arith, less, ap (λ (x : Position). x.row) is))
moved_on q e f (inr far) less = inr (omega (arith, far, less))
