-- Lines of a document by their rows and by their numbers.
use Rattle.std.proofs.Common.{◌≡◌, ℕ, zero, suc, ◌+◌, ◌-◌, ◌<◌, ◌≤◌, ltb, true, false, not, List, [], ◌∷◌, length, map, take, drop, Option}
use Rattle.std.proofs.Common.{Some, refl, sym, ap, ◌∙◌, subst, arith, rules, None, option_and_then, ◌⊎◌, inl, cond}
use Rattle.std.proofs.lemmas.Bool.{false≢true, cases_lt, cond-true, cond-false, lt-ltb, le-ltb, eq-eqb, ne_eqb}
use Rattle.std.{proofs.lemmas.List.take_all, proofs.lemmas.Option.same_Some, specs.List.slice_get, specs.Prelude.is_some}
use Rattle.yq_outline.{specs.Ends.{IsEndOf, has_no_lines, part, line_at_steps, reached}, specs.Outline.{Line, level}}
use Rattle.yq_outline.{specs.Positions.if_head, proofs.EndsLaws.deeper_at, specs.Lines.{row_lines, lines_of_rows}}
use Rattle.yq_outline.specs.Extents.{lines_before_mark}
use Rattle.yq_outline.specs.RowWalk.{line_level, deeper_rows, HasRows, IsPosition, IsLine, line_number, lines_stop, level_count}
use Rattle.yq_outline.{specs.RowWalk.AreRowsDeep, specs.declared.line_position.Position.Position}
use Rattle.yq_outline.{specs.declared.line_position.Stretch.Stretch, proofs.WalkEnds.{line_of_row, lines_upto, ends_at, stops_at}}
use Rattle.yq_outline.proofs.WalkLevels.{RowAgrees, RowsAgree, IsLineOf, line_in, level_is}
use Rattle.yq_outline.proofs.WalkRows.{following_rows, rows_length, row_of, rows_agree}
use Rattle.yq_core.{specs.Paths.Step, specs.Tree.Node}
use Rattle.yq_row_table.{specs.Rows.Row, specs.View.{Slices, slices, RowsView}}
use Rattle.yq_outline.specs.Comments as comments

row_agrees_at : (rs : List Row) (i : ℕ) (r : Row) → RowsAgree rs → slice_get rs i ≡ Some r → RowAgrees r
row_agrees_at [] i r t e = absurd (cc)
row_agrees_at (x ∷ rs) zero r t e = subst RowAgrees (same_Some _ _ e) t.0
row_agrees_at (x ∷ rs) (suc i) r t e = row_agrees_at rs i r t.1 e

-- A line of a document, with its row and what is known of it.
pub record Located (s : RowsView) (d : Stretch) (h : HasRows s d) (q : Position) : Type 0 where
  pub row : Row
  pub line : Line
  pub there : slice_get h.rows (q.row - d.first) ≡ Some row
  pub pieces : slice_get s.rows q.row ≡ Some (slices row)
  pub row_agrees : RowAgrees row
  pub within : q.line ≤ length row.dashes
  pub in_row : slice_get (row_lines row) q.line ≡ Some line
  pub is : slice_get (lines_of_rows h.rows) (line_number d h.rows q) ≡ Some line
  pub agrees : IsLineOf row.column row.dashes row.mark row.content q.line line
  pub level_agrees : level line ≡ line_level q.line (slices row)

pub has_row : (ss : List Slices) (i : ℕ) → i < length ss → (x : Slices) × (slice_get ss i ≡ Some x)
has_row [] i h = absurd (omega (arith, h))
has_row (x ∷ ss) zero h = (x, refl)
has_row (x ∷ ss) (suc i) h = has_row ss i (omega (arith, h))

pub located : (s : RowsView) (d : Stretch) (h : HasRows s d) (q : Position) → IsLine s d q → Located s d h q
located s d h q at =
    let x = has_row s.rows q.row (omega (arith, at.upto, h.within)) in
    let r = row_of s d h q.row x.0 at.from at.upto x.1 in
    let t : RowAgrees r.0 = row_agrees_at h.rows (q.row - d.first) r.0 (rows_agree h.limit h.rows h.end h.rest h.valid) r.1 in
    let counted : lines_before_mark x.0 ≡ length r.0.dashes = ap lines_before_mark (sym r.2) ∙ t.counted in
    let within : q.line ≤ length r.0.dashes = omega (arith, at.line x.0 x.1, counted) in
    let l = line_in (comments.head_comment r.0.gap) r.0.column r.0.dashes r.0.mark r.0.content q.line within in
    search (rules, line_of_row, level_is, x, r, t, within, l)

-- whether a line is deeper than a level
pub deeper_agrees : (s : RowsView) (d : Stretch) (h : HasRows s d) (q : Position) (n floor : ℕ) → IsLine s d q → ((x : Slices) → slice_get s.rows q.row ≡ Some x → n ≡ line_level q.line x) →
    ltb floor n ≡ not (has_no_lines (part (lines_of_rows h.rows) (line_number d h.rows q) floor))
deeper_agrees s d h q n floor at agrees =
    let l = located s d h q at in
    let same : n ≡ level l.line = agrees (slices l.row) l.pieces ∙ sym l.level_agrees in
    ap (ltb floor) same ∙ deeper_at (lines_of_rows h.rows) (line_number d h.rows q) floor l.line l.is

-- after the last row there is none
pub end_number : (s : RowsView) (d : Stretch) (h : HasRows s d) (q : Position) → IsPosition s d q → d.end ≤ q.row → line_number d h.rows q ≡ length (lines_of_rows h.rows)
end_number s d h q at past =
    let last : q.row ≡ d.end = omega (arith, at.upto, past) in
    let all : take (q.row - d.first) h.rows ≡ h.rows = take_all (q.row - d.first) h.rows (omega (arith, rows_length s d h, last)) in
    omega (arith, at.last last, ap (λ (rs : List Row). length (lines_of_rows rs)) all)

pub end_agrees : (s : RowsView) (d : Stretch) (h : HasRows s d) (q : Position) (floor : ℕ) → IsPosition s d q → d.end ≤ q.row → false ≡ not (has_no_lines (part (lines_of_rows h.rows) (line_number d h.rows q) floor))
end_agrees s d h q floor at past =
    let n = end_number s d h q at past in
    sym (ap (λ (k : ℕ). not (has_no_lines (part (lines_of_rows h.rows) k floor))) n
    ∙ ap (λ (ls : List Line). not (has_no_lines (Rattle.yq_outline.specs.Group.deeper_lines floor (Rattle.yq_outline.specs.Group.group ls))))
    (all (lines_of_rows h.rows)))
  where
    all : (ls : List Line) → drop (length ls) ls ≡ []
    all [] = refl
    all (l ∷ ls) = all ls

-- a line is a position
pub line_position : (s : RowsView) (d : Stretch) (q : Position) → IsLine s d q → IsPosition s d q
line_position s d q at = record { from = at.from; upto = omega (arith, at.upto); line = at.line; last = λ e. absurd (omega (arith, e, at.upto)) }

-- a position before the end is a line
pub position_line : (s : RowsView) (d : Stretch) (q : Position) → IsPosition s d q → q.row < d.end → IsLine s d q
position_line s d q at less = record { from = at.from; upto = less; line = at.line }

-- the number of the first line after rows that begin deeper than a level
rows_upto : (s : RowsView) (d : Stretch) (h : HasRows s d) (q e : Position) (n : ℕ) → IsLine s d q → e.row ≡ (q.row + 1) + deeper_rows n (take (d.end - (q.row + 1)) (drop (q.row + 1) s.rows)) → e.line ≡ 0 →
    length (lines_of_rows (take (suc (q.row - d.first) + deeper_rows n (map slices (drop (suc (q.row - d.first)) h.rows))) h.rows)) ≡ line_number d h.rows e
rows_upto s d h q e n at row none =
    let i : ℕ = q.row - d.first in
    let next : (q.row + 1) - d.first ≡ suc i = omega (arith, at.from) in
    let rest : take (d.end - (q.row + 1)) (drop (q.row + 1) s.rows) ≡ map slices (drop (suc i) h.rows) =
    following_rows s d h (q.row + 1) (omega (arith, at.from)) (omega (arith, at.upto)) ∙ ap (λ (k : ℕ). map slices (drop k h.rows)) next in
    search (rules, i, rest)

-- where the lines under a line end
pub after_agrees : (s : RowsView) (d : Stretch) (h : HasRows s d) (q e : Position) (n : ℕ) → IsLine s d q → ((x : Slices) → slice_get s.rows q.row ≡ Some x → n ≡ line_level q.line x) →
    e.row ≡ (q.row + 1) + deeper_rows n (take (d.end - (q.row + 1)) (drop (q.row + 1) s.rows)) → e.line ≡ 0 → IsEndOf (lines_of_rows h.rows) (line_number d h.rows q) (line_number d h.rows e)
after_agrees s d h q e n at agrees row none =
    let l = located s d h q at in
    let i : ℕ = q.row - d.first in
    let same : level l.line ≡ n = l.level_agrees ∙ sym (agrees (slices l.row) l.pieces) in
    subst (IsEndOf (lines_of_rows h.rows) (line_number d h.rows q)) (ap (λ (m : ℕ). length (lines_of_rows (take (suc i + deeper_rows m (map slices (drop (suc i) h.rows))) h.rows))) same ∙ rows_upto s d h q e n at row none)
    (ends_at h.rows i q.line l.row l.line (rows_agree h.limit h.rows h.end h.rest h.valid) l.there l.within l.in_row)

-- where lines end that are deeper than a level
pub stop_agrees : (s : RowsView) (d : Stretch) (h : HasRows s d) (q e : Position) (n : ℕ) (at : IsLine s d q) → n < level (located s d h q at).line →
    e.row ≡ (q.row + 1) + deeper_rows n (take (d.end - (q.row + 1)) (drop (q.row + 1) s.rows)) → e.line ≡ 0 →
    line_number d h.rows e ≡ lines_stop (line_number d h.rows q) n (lines_of_rows h.rows)
stop_agrees s d h q e n at deep row none =
    let l = located s d h q at in
    sym (rows_upto s d h q e n at row none) ∙ stops_at h.rows (q.row - d.first) q.line l.row l.line (rows_agree h.limit h.rows h.end h.rest h.valid) l.there l.within l.in_row n deep

pub next_row : (s : RowsView) (d : Stretch) (h : HasRows s d) (q e : Position) → IsLine s d q → ((x : Slices) → slice_get s.rows q.row ≡ Some x → lines_before_mark x ≤ q.line) → e.row ≡ q.row + 1 → e.line ≡ 0 →
    line_number d h.rows e ≡ line_number d h.rows q + 1
next_row s d h q e at last row none =
    let l = located s d h q at in
    let i : ℕ = q.row - d.first in
    let next : e.row - d.first ≡ suc i + 0 = omega (arith, row, at.from) in
    let counted : lines_before_mark (slices l.row) ≡ length l.row.dashes = l.row_agrees.counted in
    omega (
      arith,
      none,
      l.within,
      last (slices l.row) l.pieces,
      counted,
      ap (λ (k : ℕ). length (lines_of_rows (take k h.rows))) next,
      lines_upto h.rows i 0 l.row l.there,
    )

-- the first line of a document
pub first_number : (d : Stretch) (rs : List Row) → 0 ≡ line_number d rs (record { row = d.first; line = 0 })
first_number d rs = search rules

-- where a line has a head, and where it has none
pub head_here : (o : Option Node) (x y : Option (ℕ × List Step)) → true ≡ is_some o → if_head o x y ≡ x
head_here o x y h1 = search (rules, false≢true)

pub head_none : (o : Option Node) (x y : Option (ℕ × List Step)) → false ≡ is_some o → if_head o x y ≡ y
head_none o x y h1 = search (rules, false≢true)

-- ---- steps that lead nowhere

-- where steps lead nowhere, no line is
pub no_line : (steps : List Step) (ls : List Line) → None ≡ reached steps ls → None ≡ line_at_steps steps ls
no_line steps ls h1 = search (rules, option_and_then)

-- ---- the rows of items, one after the other

pub get_taken : (ss : List Slices) (n i : ℕ) → i < n → slice_get (take n ss) i ≡ slice_get ss i
get_taken [] zero i h = refl
get_taken (x ∷ ss) zero i h = absurd (omega (arith, h))
get_taken (x ∷ ss) (suc n) (suc i) h = get_taken ss n i (omega (arith, h))
get_taken _ (suc n) _ h = refl

-- rows are counted up to one that is not deeper
pub deeper_upto : (n m : ℕ) (zs : List Slices) (y : Slices) → slice_get zs m ≡ Some y → line_level 0 y ≤ n → deeper_rows n zs ≡ deeper_rows n (take m zs)
deeper_upto n zero [] y e low = refl
deeper_upto n (suc m) [] y e low = refl
deeper_upto n zero (z ∷ zs) y e low = cc (le-ltb n (line_level 0 z) (omega (arith, ap (line_level 0) (same_Some _ _ e))))
deeper_upto n (suc m) (z ∷ zs) y e low = ap (λ (k : ℕ). cond (ltb n (line_level 0 z)) (suc k) 0) (deeper_upto n m zs y e low)

-- Among rows, of which none begins less deep, the first one that begins as deep.
pub record Sibling (n : ℕ) (ys : List Slices) : Type 0 where
  pub before : ℕ
  pub piece : Slices
  pub is : deeper_rows n ys ≡ before
  pub there : slice_get ys before ≡ Some piece
  pub same : line_level 0 piece ≡ n
  pub count : level_count n ys ≡ suc (level_count n (drop (suc before) ys))
  pub deep : AreRowsDeep n (drop (suc before) ys)

pub siblings : (n : ℕ) (ys : List Slices) → AreRowsDeep n ys → ((deeper_rows n ys ≡ length ys) × (level_count n ys ≡ 0)) ⊎ Sibling n ys
siblings n [] h = inl (refl, refl)
siblings n (y ∷ ys) h = go (cases_lt n (line_level 0 y)) (siblings n ys h.1)
  where
    go : (n < line_level 0 y) ⊎ (line_level 0 y ≤ n) → ((deeper_rows n ys ≡ length ys) × (level_count n ys ≡ 0)) ⊎ Sibling n ys → ((deeper_rows n (y ∷ ys) ≡ suc (length ys)) × (level_count n (y ∷ ys) ≡ 0)) ⊎ Sibling n (y ∷ ys)
    go h1 h2 = search (rules, cond-true, lt-ltb, cond-false, ne_eqb, le-ltb, eq-eqb)
