-- Lines of a document, each with how deep it is.
use Rattle.std.proofs.Common.{rules, ◌≡◌, ℕ, ◌+◌, ◌*◌, ◌%◌, ◌≤◌, eqb, List, Option, Some, None, true, false, not, refl, sym, ap, ◌∙◌, arith}
use Rattle.std.{proofs.lemmas.Bool.{eq-eqb, eqb-true, false≢true, le-ltb, ne_eqb, not-false}, proofs.lemmas.Option.same_Some}
use Rattle.std.{specs.List.slice_get, specs.Prelude.is_some}
use denote.Bor.{Bor}
use Rattle.yq_outline.{specs.Outline.{LineMark, Bare, Key, Dash, Line, key_of, level, rank}, specs.Positions.has_no_mark}
use Rattle.yq_outline.{specs.Lines.lines_of_rows, specs.RowWalk.{HasRows, IsLine, IsPosition, line_level, line_number, line_rank}}
use Rattle.yq_outline.{specs.declared.line_position.Position.Position, specs.declared.line_position.Stretch.Stretch}
use Rattle.yq_outline.{proofs.WalkMarks.{item_agrees, key_here}, proofs.WalkPositions.{deeper_agrees, end_agrees, line_position, located}}
use Rattle.yq_core.{specs.Paths.is_item, specs.Scalars.scalar_content}
use Rattle.yq_row_table.specs.View.{Slices, slices, RowsView}
use Rattle.yq_documents.specs.declared.decoded.Decoded.{Decoded}
use Rattle.yq_compose.{specs.Ahead.IsAhead, specs.Checking.IsReached, proofs.LineLevelLaws.level_agrees}

-- the end, and a line
pub reached_end : (ms : List Decoded) (s : RowsView) (d : Stretch) (q : Position) (left : Bor (List Decoded)) → IsAhead ms q.row left.now →
    IsPosition s d q → d.end ≤ q.row → IsReached ms s d (record { position = q; level = 0; decoded = left })
reached_end ms s d q left ahead at past = record {
  position = at;
  some = λ p. absurd (omega (arith, p));
  agrees = λ p. absurd (omega (arith, p, past));
  deeper = λ floor h. le-ltb floor 0 (omega arith) ∙ end_agrees s d h q floor at past;
  decoded = ahead;
}

pub reached_line : (ms : List Decoded) (s : RowsView) (d : Stretch) (q : Position) (left : Bor (List Decoded)) → IsAhead ms q.row left.now →
    IsLine s d q → (n : ℕ) → ((x : Slices) → slice_get s.rows q.row ≡ Some x → n ≡ line_level q.line x) →
    IsReached ms s d (record { position = q; level = n; decoded = left })
reached_line ms s d q left ahead at n agrees = search (rules, line_position, level_agrees, deeper_agrees)

-- what a line begins with is given by how deep it is
bare_mark : (column n : ℕ) (m : LineMark) → n ≡ 3 * column + rank m → eqb (n % 3) 1 ≡ has_no_mark m
bare_mark column n Bare e = eq-eqb (n % 3) 1 (omega (arith, e))
bare_mark column n (Key k) e = ne_eqb (n % 3) 1 (λ same. omega (arith, e, same))
bare_mark column n Dash e = ne_eqb (n % 3) 1 (λ same. omega (arith, e, same))

key_mark : (column n : ℕ) (m : LineMark) → n ≡ 3 * column + rank m → eqb (n % 3) 2 ≡ is_some (key_of m)
key_mark column n Bare e = ne_eqb (n % 3) 2 (λ same. omega (arith, e, same))
key_mark column n (Key k) e = eq-eqb (n % 3) 2 (omega (arith, e))
key_mark column n Dash e = ne_eqb (n % 3) 2 (λ same. omega (arith, e, same))

pub bare_at : (n : ℕ) (l : Line) → n ≡ level l → eqb (n % 3) 1 ≡ has_no_mark l.mark
unfolding level
bare_at n l e = bare_mark l.column n l.mark e

pub key_at : (n : ℕ) (l : Line) → n ≡ level l → eqb (n % 3) 2 ≡ is_some (key_of l.mark)
unfolding level
key_at n l e = key_mark l.column n l.mark e

pub none_of : (o : Option (List ℕ)) → false ≡ is_some o → None ≡ o
none_of None e = refl
none_of (Some a) e = absurd (false≢true e)

-- the key of a line that has one
ranked : (n : ℕ) (o : Option (List ℕ)) → not (eqb n 2) ≡ is_item o → true ≡ is_some o → n ≡ 2
ranked n None e some = absurd (false≢true (sym some))
ranked n (Some a) e some = eqb-true n 2 (not-false (eqb n 2) e)

pub key_some : (s : RowsView) (d : Stretch) (h : HasRows s d) (q : Position) (at : IsLine s d q) (l : Line) →
    slice_get (lines_of_rows h.rows) (line_number d h.rows q) ≡ Some l → true ≡ is_some (key_of l.mark) →
    Some (scalar_content (slices (located s d h q at).row).key) ≡ key_of l.mark
key_some s d h q at l is some =
    let k = located s d h q at in
    let n : ℕ = line_rank q.line (slices k.row) in
    let agrees : (x : Slices) → slice_get s.rows q.row ≡ Some x → n ≡ line_rank q.line x = λ x e. ap (line_rank q.line) (same_Some _ _ (sym k.pieces ∙ e)) in
    key_here s d h q at l is n agrees (ranked n (key_of l.mark) (item_agrees s d h q at l is n agrees) some)
