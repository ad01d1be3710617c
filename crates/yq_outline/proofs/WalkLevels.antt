-- How deep the lines of rows are, by the pieces of rows.
use Rattle.std.proofs.Common.{◌≡◌, ◌⊎◌, ℕ, zero, suc, ◌+◌, ◌%◌, ◌<◌, ◌≤◌, true, false, List, [], ◌∷◌, length, take, replicate, Some, None}
use Rattle.std.proofs.Common.{refl, arith, length-append, rules, inl, inr, ◌++◌, ap, ◌&&◌}
use Rattle.std.proofs.lemmas.Bool.{cases_lt, lt-ltb, le-ltb, cond-true, cond-false, ne_eqb}
use Rattle.std.{proofs.lemmas.List.{length-replicate, take_all}, specs.List.slice_get, specs.Prelude.is_none}
use Rattle.yq_core.{specs.Scalars.is_quoted, specs.Paths.is_item, specs.Plain.holds_break, specs.Quoted.IsQuotedText, specs.Text.is_empty}
use Rattle.yq_core.specs.Anchors.{anchor_names}
use Rattle.yq_outline.{specs.Outline.{Dash, Line, key_of, level, rank}, specs.LinesReading.{is_free, have_one_anchor_each}}
use Rattle.yq_outline.specs.Names.{head_names, line_names}
use Rattle.yq_outline.specs.Lines.{head_of, line_mark, mark_line, dash_line, lines_from, content_anchor, row_lines}
use Rattle.yq_outline.{specs.Extents.{dash_at, lines_before_mark}, specs.RowWalk.{line_rank, line_level}}
use Rattle.yq_row_table.{specs.Rows.{Content, Row, dashes_text, RowMark}, specs.View.{Slices, slices, last_dash, colon_of, content_cut}}
use Rattle.yq_row_table.specs.Rows as rows
use Rattle.yq_outline.specs.Comments as comments

-- ---- how far it is to the dashes of a row

-- how far it is to a dash
past_spaces : (k n : ℕ) (t : List ℕ) → dash_at k (replicate n 32 ++ t) ≡ n + dash_at k t
unfolding dash_at
past_spaces k zero t = omega arith
past_spaces k (suc n) t = let step : dash_at k (replicate (suc n) 32 ++ t) ≡ suc (dash_at k (replicate n 32 ++ t)) = refl in omega (arith, step, past_spaces k n t)

pub to_dash : (k : ℕ) (ns t : List ℕ) → k ≤ length ns → t ≡ [] ⊎ ((u : List ℕ) × (t ≡ 45 ∷ u)) → dash_at k (dashes_text ns t) ≡ length (dashes_text (take k ns) [])
unfolding dash_at
to_dash zero [] t h (inl e) = ap (dash_at 0) e
to_dash zero [] t h (inr e) = ap (dash_at 0) e.1
to_dash (suc k) [] t h e = absurd (omega (arith, h))
to_dash zero (n ∷ ns) t h e = refl
to_dash (suc k) (n ∷ ns) t h e = search (rules, length-replicate, cond-false, ne_eqb, past_spaces, length-append, to_dash k ns t (omega (arith, h)) e)

pub last_is : (m : RowMark) → last_dash m ≡ [] ⊎ ((u : List ℕ) × (last_dash m ≡ 45 ∷ u))
last_is m = search rules

-- ---- how deep the lines of rows are, by the pieces of rows

-- What is asked of a row, for its pieces to tell its lines.
pub record RowAgrees (r : Row) : Type 0 where
  pub counted : lines_before_mark (slices r) ≡ length r.dashes
  pub colon : is_empty (colon_of r.mark) ≡ is_item (key_of (line_mark r.mark))
  pub head : is_empty (content_cut r.content).3 ≡ is_none (head_of r.content)
  pub quoted : is_quoted (slices r).key ≡ true → IsQuotedText (slices r).key
  pub line : holds_break (slices r).key ≡ false

-- the same of all rows
abbrev pub RowsAgree : List Row → Type 0
RowsAgree [] = Unit {0}
RowsAgree (r ∷ rs) = RowAgrees r × RowsAgree rs

-- Line k of a row from a column on.
pub record IsLineOf (column : ℕ) (ns : List ℕ) (m : rows.RowMark) (c : Content) (k : ℕ) (l : Line) : Type 0 where
  pub column_is : l.column ≡ column + length (dashes_text (take k ns) [])
  pub dash : k < length ns → (l.mark ≡ Dash) × (l.head ≡ None)
  pub mark : k ≡ length ns → (l.mark ≡ line_mark m) × (l.head ≡ head_of c)

pub line_in : (above : List (List ℕ)) (column : ℕ) (ns : List ℕ) (m : rows.RowMark) (c : Content) (k : ℕ) → k ≤ length ns → (l : Line) × (slice_get (lines_from above column ns m c) k ≡ Some l) × IsLineOf column ns m c k l
line_in above column [] m c zero h = (mark_line above column m c, refl, record { column_is = omega arith; dash = λ p. absurd (omega (arith, p)); mark = λ e. (refl, refl) })
line_in above column [] m c (suc k) h = absurd (omega (arith, h))
line_in above column (n ∷ ns) m c zero h = (dash_line above column, refl, record { column_is = omega arith; dash = λ p. (refl, refl); mark = λ e. absurd (omega (arith, e)) })
line_in above column (n ∷ ns) m c (suc k) h = search (rules, length-replicate, length-append, line_in [] (suc (column + n)) ns m c k (omega (arith, h)))

-- a dash comes before what follows it
dash_before : (k : ℕ) (ns t : List ℕ) → k < length ns → length (dashes_text (take k ns) []) < length (dashes_text ns t)
dash_before k [] t h = absurd (omega (arith, h))
dash_before zero (n ∷ ns) t h = omega arith
dash_before (suc k) (n ∷ ns) t h = omega (arith, dash_before k ns t (omega (arith, h)), length-append {A = ℕ})

dash_after : (ns : List ℕ) → length (dashes_text ns (45 ∷ [])) ≡ suc (length (dashes_text ns []))
dash_after [] = refl
dash_after (n ∷ ns) = omega (arith, dash_after ns, length-append (replicate n 32) (dashes_text ns (45 ∷ [])), length-append (replicate n 32) (dashes_text ns []))

-- the rank of a line of a row
pub rank_is : (r : Row) (k : ℕ) (l : Line) → RowAgrees r → k ≤ length r.dashes → IsLineOf r.column r.dashes r.mark r.content k l → rank l.mark ≡ line_rank k (slices r)
rank_is r k l t h is = go (to_dash k r.dashes (last_dash r.mark) h (last_is r.mark)) (cases_lt k (length r.dashes))
  where
    go : dash_at k (slices r).dashes ≡ length (dashes_text (take k r.dashes) []) → (k < length r.dashes) ⊎ (length r.dashes ≤ k) → rank l.mark ≡ line_rank k (slices r)
    go h1 h2 = search (rules, cond-true, lt-ltb, dash_before, take_all, cond-false, le-ltb, dash_after)

-- the level of a line of a row
pub level_is : (r : Row) (k : ℕ) (l : Line) → RowAgrees r → k ≤ length r.dashes → IsLineOf r.column r.dashes r.mark r.content k l → level l ≡ line_level k (slices r)
unfolding level
level_is r k l t h is = search (rules, to_dash, last_is, rank_is)

-- what a line of a row begins with, by how deep it is
pub rank_of_level : (k : ℕ) (x : Slices) (n : ℕ) → n ≡ line_level k x → (n % 3 ≡ 0 → 3 ≡ line_rank k x) × ((n % 3 ≡ 0 → ⊥) → n % 3 ≡ line_rank k x)
rank_of_level k x n e = search rules

-- ---- what is asked of the anchors and names of all lines of rows, row by row

-- a row's anchor comes before the row's last line's node, and no other one does
free_from : (above : List (List ℕ)) (column : ℕ) (ns : List ℕ) (m : rows.RowMark) (c : Content) (ls : List Line) →
    have_one_anchor_each (lines_from above column ns m c ++ ls) ≡ (is_free (content_anchor c) ls && have_one_anchor_each ls)
free_from above column [] m c ls = refl
free_from above column (n ∷ ns) m c ls = free_from [] (suc (column + n)) ns m c ls

pub free_row : (r : Row) (ls : List Line) → have_one_anchor_each (row_lines r ++ ls) ≡ (is_free (content_anchor r.content) ls && have_one_anchor_each ls)
free_row r ls = free_from (comments.head_comment r.gap) r.column r.dashes r.mark r.content ls

-- the names in a row: its anchor, and those in its head
names_from : (above : List (List ℕ)) (column : ℕ) (ns : List ℕ) (m : rows.RowMark) (c : Content) (ls : List Line) →
    line_names (lines_from above column ns m c ++ ls) ≡ anchor_names (content_anchor c) (head_names (head_of c) ++ line_names ls)
names_from above column [] m c ls = refl
names_from above column (n ∷ ns) m c ls = names_from [] (suc (column + n)) ns m c ls

pub names_row : (r : Row) (ls : List Line) → line_names (row_lines r ++ ls) ≡ anchor_names (content_anchor r.content) (head_names (head_of r.content) ++ line_names ls)
names_row r ls = names_from (comments.head_comment r.gap) r.column r.dashes r.mark r.content ls
