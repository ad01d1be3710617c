-- What a line begins with, by how deep it is.
use Rattle.std.{proofs.Common.{◌≡◌, ℕ, ◌+◌, ◌*◌, ◌%◌, eqb, Some, not, sym, ap, ◌∙◌, arith}, proofs.lemmas.Bool.{eq-eqb, ne_eqb}}
use Rattle.std.{proofs.lemmas.Option.same_Some, specs.List.slice_get}
use Rattle.yq_core.specs.Paths.{is_item}
use Rattle.yq_outline.{specs.Outline.{LineMark, Bare, Key, Dash, Line, key_of, level, rank}, specs.Positions.has_no_mark}
use Rattle.yq_outline.{specs.RowWalk.{HasRows, IsLine, line_level, line_number}, specs.Lines.lines_of_rows, proofs.WalkPositions.located}
use Rattle.yq_outline.{specs.declared.line_position.Position.Position, specs.declared.line_position.Stretch.Stretch}
use Rattle.yq_row_table.specs.View.{Slices, slices, RowsView}

item_mark : (column n : ℕ) (m : LineMark) → n ≡ 3 * column + rank m → not (eqb (n % 3) 2) ≡ is_item (key_of m)
item_mark column n Bare e = ap not (ne_eqb (n % 3) 2 (λ same. omega (arith, e, same)))
item_mark column n (Key k) e = ap not (eq-eqb (n % 3) 2 (omega (arith, e)))
item_mark column n Dash e = ap not (ne_eqb (n % 3) 2 (λ same. omega (arith, e, same)))

pub item_at : (n : ℕ) (l : Line) → n ≡ level l → not (eqb (n % 3) 2) ≡ is_item (key_of l.mark)
unfolding level
item_at n l e = item_mark l.column n l.mark e

bare_mark : (column n : ℕ) (m : LineMark) → n ≡ 3 * column + rank m → eqb (n % 3) 1 ≡ has_no_mark m
bare_mark column n Bare e = eq-eqb (n % 3) 1 (omega (arith, e))
bare_mark column n (Key k) e = ne_eqb (n % 3) 1 (λ same. omega (arith, e, same))
bare_mark column n Dash e = ne_eqb (n % 3) 1 (λ same. omega (arith, e, same))

pub bare_at : (n : ℕ) (l : Line) → n ≡ level l → eqb (n % 3) 1 ≡ has_no_mark l.mark
unfolding level
bare_at n l e = bare_mark l.column n l.mark e

-- by how deep its row says it is
pub level_of_line : (s : RowsView) (d : Stretch) (h : HasRows s d) (q : Position) (at : IsLine s d q) (l : Line) → slice_get (lines_of_rows h.rows) (line_number d h.rows q) ≡ Some l →
    (n : ℕ) → ((x : Slices) → slice_get s.rows q.row ≡ Some x → n ≡ line_level q.line x) → n ≡ level l
level_of_line s d h q at l is n agrees =
    let k = located s d h q at in
    agrees (slices k.row) k.pieces ∙ (sym k.level_agrees ∙ ap level (same_Some _ _ (sym k.is ∙ is)))
