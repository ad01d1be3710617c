-- Reading (own; you may skip it): where what a row spells is in its text, by the pieces of rows.
use Rattle.std.{specs.List.{sum_by, count_by}, specs.Prelude.{ℕ, suc, ◌+◌, ◌-◌, ◌≤◌, ◌≡◌, ◌==◌, List, [], ◌∷◌, ◌++◌, length, if◌then◌else◌}}
use Rattle.yq_row_table.{specs.Exchange.before_content, specs.Offsets.row_length, specs.Rows.{Row, Cut, cut_text}}
use Rattle.yq_row_table.specs.View.{Slices, slices, RowsView, rows_view}
use Rattle.yq_text.specs.Limit.{text_limit}
use Rattle.yq_core.specs.Text.{is_empty}
pub use Rattle.yq_row_table.specs.RowStarts.{bound_length, front_length, passed_length, row_start}

-- The place of a row's head: after the text before the row's content, white space, an anchor and the white space after that.
abbrev pub head_place : ℕ → Cut → Row → ℕ × ℕ
head_place i c r =
    let s = slices r in
    let start = length (before_content i c ++ (s.space ++ (s.anchor ++ s.apart))) in (start, start + length s.head)

-- how long all pieces of a cut are
abbrev pub view_length : RowsView → ℕ
view_length s = sum_by row_length s.rows + sum_by bound_length s.bounds

-- how many dashes are in a text
abbrev pub dash_count : List ℕ → ℕ
dash_count t = count_by (λ b. b == 45) t

-- how many lines of a row come before its last one: one for each dash but for a mark that is a dash
abbrev pub lines_before_mark : Slices → ℕ
lines_before_mark s = if is_empty s.colon then dash_count s.dashes - 1 else dash_count s.dashes

-- These are the pieces of a cut, whose text is not too long.
pub record IsRowsView (s : RowsView) : Type 0 where
  pub cut : Cut
  pub is : s ≡ rows_view cut
  pub size : length (cut_text cut) ≤ text_limit

-- how far it is in a text to the dash before which k others are, or to the end
unfoldable pub dash_at : ℕ → List ℕ → ℕ
dash_at k [] = 0
dash_at k (b ∷ bs) = if b == 45 then (if k == 0 then 0 else suc (dash_at (k - 1) bs)) else suc (dash_at k bs)
