-- Where the lines under a line end, row by row.
use Rattle.std.proofs.Common.{◌≡◌, ℕ, zero, suc, ◌+◌, ◌-◌, ◌*◌, ◌<◌, ◌≤◌, List, [], ◌∷◌, ◌++◌, length, map, take, drop, Some, refl, sym, ap}
use Rattle.std.{proofs.Common.{◌∙◌, subst, arith, append_assoc, length-append, rules}, proofs.Math.Seq.drop-append-add}
use Rattle.std.{proofs.lemmas.Bool.{cases_lt, lt-ltb, le-ltb, cond-true, cond-false}, proofs.lemmas.Option.same_Some, specs.List.slice_get}
use Rattle.yq_outline.{specs.Ends.{IsEndOf, deeper_count}, specs.Outline.{Line, level}, proofs.LineEnds.end_counted}
use Rattle.yq_outline.{proofs.EndsLaws.drop_at, proofs.Values.rank_small}
use Rattle.yq_outline.{specs.Lines.{line_mark, mark_line, dash_line, lines_from, row_lines, lines_of_rows}, proofs.RowLaws.lines_count}
use Rattle.yq_outline.{specs.RowWalk.{line_level, deeper_rows, lines_stop}, proofs.WalkLevels.{RowAgrees, RowsAgree, line_in, level_is}}
use Rattle.yq_row_table.{specs.Rows.{Content, Row}, specs.View.slices}
use Rattle.yq_outline.specs.Comments as comments
use Rattle.yq_row_table.specs.Rows as rows

-- one more line that is deeper, or none
count_more : (n : ℕ) (l : Line) (ls : List Line) → n < level l → deeper_count n (l ∷ ls) ≡ suc (deeper_count n ls)
count_more n l ls h = cond-true _ (suc (deeper_count n ls)) 0 (lt-ltb n (level l) h)

count_stop : (n : ℕ) (l : Line) (ls : List Line) → level l ≤ n → deeper_count n (l ∷ ls) ≡ 0
count_stop n l ls h = cond-false _ (suc (deeper_count n ls)) 0 (le-ltb n (level l) h)

-- the levels of a dash and of a mark
dash_level : (above : List (List ℕ)) (column : ℕ) → level (dash_line above column) ≡ 3 * column + 3
unfolding level
dash_level above column = refl

mark_level : (above : List (List ℕ)) (column : ℕ) (m : rows.RowMark) (c : Content) → 3 * column + 1 ≤ level (mark_line above column m c)
unfolding level
mark_level above column m c = omega (arith, (rank_small (line_mark m)).0)

-- all lines of a row from a column on are deeper than what is left of that column
all_deeper : (n : ℕ) (above : List (List ℕ)) (column : ℕ) (ns : List ℕ) (m : rows.RowMark) (c : Content) (ys : List Line) → n < 3 * column + 1 →
    deeper_count n (lines_from above column ns m c ++ ys) ≡ suc (length ns) + deeper_count n ys
all_deeper n above column [] m c ys h = omega (arith, count_more n (mark_line above column m c) ys (omega (arith, h, mark_level above column m c)))
all_deeper n above column (k ∷ ns) m c ys h = search (rules, count_more, dash_level, all_deeper n [] (suc (column + k)) ns m c ys (omega (arith, h)))

-- the lines of a row whose first one is deeper
first_deeper : (n : ℕ) (above : List (List ℕ)) (column : ℕ) (ns : List ℕ) (m : rows.RowMark) (c : Content) (l : Line) (ys : List Line) → slice_get (lines_from above column ns m c) 0 ≡ Some l → n < level l →
    deeper_count n (lines_from above column ns m c ++ ys) ≡ suc (length ns) + deeper_count n ys
first_deeper n above column [] m c l ys e h = search (rules, same_Some, count_more)
first_deeper n above column (k ∷ ns) m c l ys e h = search (rules, same_Some, count_more, all_deeper, dash_level)

-- none of those whose first one isn't
first_shallow : (n : ℕ) (above : List (List ℕ)) (column : ℕ) (ns : List ℕ) (m : rows.RowMark) (c : Content) (l : Line) (ys : List Line) → slice_get (lines_from above column ns m c) 0 ≡ Some l → level l ≤ n →
    deeper_count n (lines_from above column ns m c ++ ys) ≡ 0
first_shallow n above column [] m c l ys e h = count_stop n (mark_line above column m c) ys (let same : level (mark_line above column m c) ≡ level l = ap level (same_Some _ _ e) in omega (arith, h, same))
first_shallow n above column (k ∷ ns) m c l ys e h = count_stop n (dash_line above column) _ (let same : level (dash_line above column) ≡ level l = ap level (same_Some _ _ e) in omega (arith, h, same))

-- the lines after one of a row are as deep up to the row's end
after_line : (n : ℕ) (above : List (List ℕ)) (column : ℕ) (ns : List ℕ) (m : rows.RowMark) (c : Content) (k : ℕ) (l : Line) (ys : List Line) → k ≤ length ns → slice_get (lines_from above column ns m c) k ≡ Some l → n ≤ level l →
    deeper_count n (drop (suc k) (lines_from above column ns m c ++ ys)) ≡ (length ns - k) + deeper_count n ys
after_line n above column [] m c zero l ys h e deep = omega arith
after_line n above column [] m c (suc k) l ys h e deep = absurd (omega (arith, h))
after_line n above column (x ∷ ns) m c zero l ys h e deep = search (rules, same_Some, all_deeper, dash_level)
after_line n above column (x ∷ ns) m c (suc k) l ys h e deep =
    omega (arith, after_line n [] (suc (column + x)) ns m c k l ys (omega (arith, h)) e deep)

-- the first line of a row
first_line : (r : Row) → RowAgrees r → (l : Line) × (slice_get (row_lines r) 0 ≡ Some l) × (level l ≡ line_level 0 (slices r))
first_line r t =
    let x = line_in (comments.head_comment r.gap) r.column r.dashes r.mark r.content 0 (omega arith) in
    (x.0, x.1, level_is r 0 x.0 t (omega arith) x.2)

-- the lines of the rows that begin deeper
rows_deeper : (n : ℕ) (rs : List Row) → RowsAgree rs → deeper_count n (lines_of_rows rs) ≡ length (lines_of_rows (take (deeper_rows n (map slices rs)) rs))
rows_deeper n [] h = refl
rows_deeper n (r ∷ rs) h =
    search (rules, cases_lt, lines_count, first_line, first_deeper, cond-true, lt-ltb, length-append, cond-false, le-ltb, first_shallow, rows_deeper n rs h.1)

-- the lines of rows, cut at a row
pub lines_cut : (rs : List Row) (i : ℕ) (r : Row) → slice_get rs i ≡ Some r → lines_of_rows rs ≡ lines_of_rows (take i rs) ++ (row_lines r ++ lines_of_rows (drop (suc i) rs))
lines_cut [] i r e = absurd (cc)
lines_cut (x ∷ rs) zero r e = ap (λ (y : Row). row_lines y ++ lines_of_rows rs) (same_Some _ _ e)
lines_cut (x ∷ rs) (suc i) r e = ap (λ (ls : List Line). row_lines x ++ ls) (lines_cut rs i r e) ∙ sym (append_assoc (row_lines x) (lines_of_rows (take i rs)) (row_lines r ++ lines_of_rows (drop (suc i) rs)))

-- how many lines the first rows have, by one row among them
pub lines_upto : (rs : List Row) (i d : ℕ) (r : Row) → slice_get rs i ≡ Some r → length (lines_of_rows (take (suc i + d) rs)) ≡ length (lines_of_rows (take i rs)) + (suc (length r.dashes) + length (lines_of_rows (take d (drop (suc i) rs))))
lines_upto [] i d r e = absurd (cc)
lines_upto (x ∷ rs) zero d r e = search (rules, same_Some, lines_count, length-append)
lines_upto (x ∷ rs) (suc i) d r e =
    let one : suc (suc i) + d ≡ suc (suc i + d) = omega arith in
    search (rules, length-append, lines_upto rs i d r e)

-- the rows after one
rows_agree_drop : (k : ℕ) (rs : List Row) → RowsAgree rs → RowsAgree (drop k rs)
rows_agree_drop (suc k) (r ∷ rs) h = rows_agree_drop k rs h.1
rows_agree_drop _ _ h = h

-- a line of rows
pub line_of_row : (rs : List Row) (i k : ℕ) (r : Row) → slice_get rs i ≡ Some r → k ≤ length r.dashes → slice_get (lines_of_rows rs) (length (lines_of_rows (take i rs)) + k) ≡ slice_get (row_lines r) k
line_of_row rs i k r e h =
    let a : List Line = lines_of_rows (take i rs) in
    let b : List Line = lines_of_rows (drop (suc i) rs) in
    let count : length (row_lines r) ≡ suc (length r.dashes) = lines_count (comments.head_comment r.gap) r.column r.dashes r.mark r.content in
    ap (λ (ls : List Line). slice_get ls (length a + k)) (lines_cut rs i r e) ∙ (after a (row_lines r ++ b) k ∙ front (row_lines r) b k (omega (arith, h, count)))
  where
    after : (xs ys : List Line) (n : ℕ) → slice_get (xs ++ ys) (length xs + n) ≡ slice_get ys n
    after [] ys n = ap (slice_get ys) (omega arith)
    after (x ∷ xs) ys n = let more : suc (length xs) + n ≡ suc (length xs + n) = omega arith in ap (slice_get (x ∷ (xs ++ ys))) more ∙ after xs ys n

    front : (xs ys : List Line) (n : ℕ) → n < length xs → slice_get (xs ++ ys) n ≡ slice_get xs n
    front [] ys n h = absurd (omega (arith, h))
    front (x ∷ xs) ys zero h = refl
    front (x ∷ xs) ys (suc n) h = front xs ys n (omega (arith, h))

-- where lines end that follow one of a row and are deeper than a level: at the first row after its own that doesn't begin deeper
module _ (rs : List Row) (i k : ℕ) (r : Row) (l : Line) (t : RowsAgree rs) (e : slice_get rs i ≡ Some r) (h : k ≤ length r.dashes) (is : slice_get (row_lines r) k ≡ Some l) where
  abbrev at : ℕ
  at = length (lines_of_rows (take i rs)) + k

  followed : (n : ℕ) → n ≤ level l → suc at + deeper_count n (drop (suc at) (lines_of_rows rs)) ≡ length (lines_of_rows (take (suc i + deeper_rows n (map slices (drop (suc i) rs))) rs))
  followed n deep =
      let a : List Line = lines_of_rows (take i rs) in
      let others : List Row = drop (suc i) rs in
      let one : suc at ≡ length a + suc k = omega arith in
      let rest : drop (suc at) (lines_of_rows rs) ≡ drop (suc k) (row_lines r ++ lines_of_rows others) =
      (λ j. drop (one j) (lines_cut rs i r e j)) ∙ drop-append-add a (row_lines r ++ lines_of_rows others) (suc k) in
      search (rules, after_line, rows_deeper, rows_agree_drop, lines_upto, others, rest)

  pub ends_at : IsEndOf (lines_of_rows rs) at (length (lines_of_rows (take (suc i + deeper_rows (level l) (map slices (drop (suc i) rs))) rs)))
  ends_at = subst (IsEndOf (lines_of_rows rs) at) (followed (level l) (omega arith)) (end_counted (lines_of_rows rs) at l (line_of_row rs i k r e h ∙ is))

  pub stops_at : (n : ℕ) → n < level l → length (lines_of_rows (take (suc i + deeper_rows n (map slices (drop (suc i) rs))) rs)) ≡ lines_stop at n (lines_of_rows rs)
  stops_at n deep =
      let next : at + 1 ≡ suc at = omega arith in
      let own : drop at (lines_of_rows rs) ≡ l ∷ drop (suc at) (lines_of_rows rs) = drop_at (lines_of_rows rs) at l (line_of_row rs i k r e h ∙ is) ∙ ap (λ (j : ℕ). l ∷ drop j (lines_of_rows rs)) next in
      omega (arith, followed n (omega (arith, deep)), ap (deeper_count n) own, count_more n l (drop (suc at) (lines_of_rows rs)) deep)
