-- How deep the lines of a row are, by how deep the row begins.
use Rattle.std.proofs.Common.{◌≡◌, ℕ, List, [], ◌∷◌, length, Some, refl, arith, ◌+◌, ◌-◌, ◌*◌, ◌≤◌, Bool, true, false, not, cond, ltb}
use Rattle.std.{proofs.Common.rules, proofs.lemmas.Bool.lt-ltb, proofs.lemmas.Option.{slice_get-map, same_Some}, specs.List.slice_get}
use Rattle.yq_core.specs.Text.{is_empty}
use Rattle.yq_row_table.{specs.RowStarts.row_level, specs.Rows.{RowMark, Bare, Dash, Key, Row, dashes_text}}
use Rattle.yq_row_table.specs.View.{Slices, slices, last_dash, RowsView}
use Rattle.yq_outline.{specs.Extents.{dash_at, IsRowsView}, specs.RowWalk.{line_level, line_rank}}

-- a row without dashes, or one that begins with a dash
bare_level : (s : Slices) → s.dashes ≡ [] → row_level s ≡ line_level 0 s
unfolding dash_at
bare_level s none = rw none (omega arith)

dash_level : (s : Slices) (t : List ℕ) → s.dashes ≡ 45 ∷ t → row_level s ≡ line_level 0 s
unfolding dash_at
dash_level s t begins = rw (begins, lt-ltb 0 (length {A = ℕ} (45 ∷ t)) (omega arith)) (omega arith)

pub first_level : (r : Row) → row_level (slices r) ≡ line_level 0 (slices r)
first_level r = go r.dashes r.mark refl where
  go : (ns : List ℕ) (m : RowMark) → (slices r).dashes ≡ dashes_text ns (last_dash m) → row_level (slices r) ≡ line_level 0 (slices r)
  go [] Bare e = bare_level (slices r) e
  go [] Dash e = dash_level (slices r) [] e
  go [] (Key key colon) e = bare_level (slices r) e
  go (n ∷ ns) m e = dash_level (slices r) _ e

pub view_level : (s : RowsView) (i : ℕ) (x : Slices) → IsRowsView s → slice_get s.rows i ≡ Some x → row_level x ≡ line_level 0 x
view_level s i x h there = search (rules, slice_get-map, same_Some, first_level)

-- what the first line of a row begins with
pub first_rank : (s : RowsView) (i : ℕ) (x : Slices) → IsRowsView s → slice_get s.rows i ≡ Some x → (a b : Bool) → a ≡ not (is_empty x.dashes) → b ≡ not (is_empty x.colon) → cond a 3 (cond b 2 1) ≡ line_rank 0 x
first_rank s i x h there a b dashes colon =
    let level = view_level s i x h there in
    search (rules, level)

-- a row begins no deeper than its column's dash
pub level_most : (x : Slices) → row_level x ≤ 3 * x.column + 3
level_most x = search rules

-- a line of a row without dashes
pub bare_level_at : (x : Slices) (k : ℕ) → false ≡ not (is_empty x.dashes) → row_level x ≡ line_level k x
unfolding dash_at
bare_level_at x k none = search rules

-- a line of a row with dashes
abbrev rank_by : ℕ → List ℕ → Bool → ℕ
rank_by k t colon = cond (ltb (dash_at k t) (length t)) 3 (cond colon 2 1)

dash_first : (x : Slices) → true ≡ not (is_empty x.dashes) → row_level x ≡ 3 * x.column + 3
dash_first x = search rules

pub dashed_level : (x : Slices) (k first : ℕ) (t : List ℕ) (colon : Bool) → first ≡ row_level x → t ≡ x.dashes → colon ≡ not (is_empty x.colon) → true ≡ not (is_empty x.dashes) →
    ((first + 3 * dash_at k t) - 3) + rank_by k t colon ≡ line_level k x
dashed_level x k first t colon level same is some = search (rules, dash_first)
