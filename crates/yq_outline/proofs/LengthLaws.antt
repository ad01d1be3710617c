-- How long rows and the ends of parts are, and what comes before their pieces.
use Rattle.std.proofs.Common.{◌≡◌, ◌⊎◌, inl, inr, ℕ, zero, suc, ◌+◌, ◌-◌, ◌<◌, ◌≤◌, List, [], ◌∷◌, ◌++◌, length, map, take, replicate, Some}
use Rattle.std.proofs.Common.{ap, ◌∙◌, arith, length-append, rules}
use Rattle.std.proofs.lemmas.Bool.{cases_lt, lt-ltb, le-ltb, le-leb, lt-leb, cond-true, cond-false}
use Rattle.std.proofs.lemmas.List.{length-replicate, length-map, map-append, take-append-le}
use Rattle.std.proofs.lemmas.List.Sums.{sum_by-cons, sum_by-append, sum_by_more_le, sum_by-le-sum_by}
use Rattle.std.{proofs.lemmas.Option.{get_or_from_slice_get, slice_get_within, slice_get-map, same_Some}, specs.List.{slice_get, sum_by}}
use Rattle.yq_text.specs.Limit.{text_limit}
use Rattle.yq_row_table.specs.Exchange.{row_front, before_at, before_content}
use Rattle.yq_row_table.specs.Rows.{Row, dashes_text, mark_text, rows_text, Part, part_text, Cut, last, marked, cut_text}
use Rattle.yq_row_table.specs.View.{Slices, slices, last_dash, key_of_mark, colon_of, rows_of, Bound, bounds_from, RowsView, rows_view}
use Rattle.yq_row_table.{proofs.ExchangeLaws.{slice_front, slice_back}, proofs.SliceLaws.print-length, specs.Offsets.row_length}
use Rattle.yq_outline.specs.Extents.{bound_length, passed_length, row_start, front_length, view_length, head_place, IsRowsView}

-- how long rows are
abbrev rows_sum : List Row → ℕ
rows_sum rows = sum_by row_length (map slices rows)

rows-length : (rows : List Row) (rest : List ℕ) → length (rows_text rows rest) ≡ rows_sum rows + length rest
rows-length [] rest = omega arith
rows-length (r ∷ rows) rest = omega (arith, print-length r (rows_text rows rest), sum_by-cons row_length (slices r) (map slices rows), rows-length rows rest)

pub part-length : (p : Part) (rest : List ℕ) → length (part_text p rest) ≡ rows_sum p.rows + (length p.end + length rest)
part-length p rest = omega (arith, rows-length p.rows (p.end ++ rest), length-append p.end rest)

-- all pieces are the text
pieces-length : (n : ℕ) (c : Cut) → length (cut_text c) ≡ rows_sum (rows_of c) + sum_by bound_length (bounds_from n c)
pieces-length n (last p) = search (rules, part-length, sum_by-cons)
pieces-length n (marked p marker c) =
    let b : Bound = record { rows = n + length p.rows; end = p.end; marker = marker } in
    let rows : rows_sum (p.rows ++ rows_of c) ≡ rows_sum p.rows + rows_sum (rows_of c) = simp (map-append, sum_by-append) in
    omega (arith, part-length p (marker ++ cut_text c), length-append marker (cut_text c), rows, sum_by-cons bound_length b (bounds_from (n + length p.rows) c), pieces-length (n + length p.rows) c)

dashes-length : (ns : List ℕ) (t u : List ℕ) (n : ℕ) → length t ≡ length u + n → length (dashes_text ns t) ≡ length (dashes_text ns u) + n
dashes-length [] t u n e = e
dashes-length (k ∷ ns) t u n e = omega (arith, dashes-length ns t u n e, length-append {A = ℕ})

-- how long a row is before its content
abbrev begin_length : Slices → ℕ
begin_length s = length s.gap + s.column + length s.dashes + length s.key + length s.colon

pub front-length : (r : Row) → length (row_front r) ≡ begin_length (slices r)
front-length r =
    let spaces : length (replicate r.column 32) ≡ r.column = length-replicate {A = ℕ} r.column 32 in
    omega (
      arith,
      spaces,
      length-append {A = ℕ},
      dashes-length r.dashes (mark_text r.mark []) (last_dash r.mark) (length (key_of_mark r.mark) + length (colon_of r.mark)) (search (rules, length-append)),
    )

before-length : (i : ℕ) (rows : List Row) (r : Row) → slice_get rows i ≡ Some r → length (before_at i rows) ≡ sum_by row_length (take i (map slices rows)) + begin_length (slices r)
before-length i [] r is = cc
before-length zero (x ∷ rows) r is = search (rules, front-length)
before-length (suc i) (x ∷ rows) r is = search (rules, print-length, sum_by-cons, before-length i rows r is)

-- the ends of later parts are not passed
not_passed : (j : ℕ) (b : Bound) → j < b.rows → passed_length j b ≡ 0
not_passed j b h = cond-false _ _ _ (lt-leb b.rows j h)

is_passed : (j : ℕ) (b : Bound) → b.rows ≤ j → passed_length j b ≡ bound_length b
is_passed j b h = cond-true _ _ _ (le-leb b.rows j h)

none_passed : (j n : ℕ) (c : Cut) → j < n → sum_by (passed_length j) (bounds_from n c) ≡ 0
none_passed j n (last p) less = search (rules, sum_by-cons, not_passed)
none_passed j n (marked p marker c) less = search (rules, sum_by-cons, not_passed, none_passed j (n + length p.rows) c (omega (arith, less)))

take_past : (xs ys : List Slices) (i : ℕ) → length xs ≤ i → take i (xs ++ ys) ≡ xs ++ take (i - length xs) ys
take_past [] ys i h = ap (λ (k : ℕ). take k ys) (omega arith)
take_past (x ∷ xs) ys zero h = absurd (omega (arith, h))
take_past (x ∷ xs) ys (suc i) h = ap (λ (l : List Slices). x ∷ l) (take_past xs ys i (omega (arith, h)) ∙ ap (λ (k : ℕ). xs ++ take k ys) (omega arith))

-- how long the rows before row i are
abbrev rows_first : ℕ → Cut → ℕ
rows_first i c = sum_by row_length (take i (map slices (rows_of c)))

rows_here : (i : ℕ) (a b : List Row) → i < length a → sum_by row_length (take i (map slices (a ++ b))) ≡ sum_by row_length (take i (map slices a))
rows_here i a b h = cc (map-append slices a b, take-append-le i (map slices a) (map slices b) (omega (arith, length-map a slices)))

rows_past : (i : ℕ) (a b : List Row) → length a ≤ i → sum_by row_length (take i (map slices (a ++ b))) ≡ rows_sum a + sum_by row_length (take (i - length a) (map slices b))
rows_past i a b h = search (rules, map-append, take_past, length-map, sum_by-append)

-- how long the text before a content is
content-length : (n i : ℕ) (c : Cut) (r : Row) → slice_get (rows_of c) i ≡ Some r →
    length (before_content i c) ≡ rows_first i c + sum_by (passed_length (n + i)) (bounds_from n c) + begin_length (slices r)
content-length n i (last p) r is = search (rules, before-length, sum_by-cons, not_passed, slice_get_within)
content-length n i (marked p marker c) r is = go (cases_lt i (length p.rows)) (λ there. content-length (n + length p.rows) (i - length p.rows) c r there)
  where
    b : Bound
    b = record { rows = n + length p.rows; end = p.end; marker = marker }

    sum : sum_by (passed_length (n + i)) (bounds_from n (marked p marker c)) ≡ passed_length (n + i) (record { rows = n + length p.rows; end = p.end; marker = marker }) + sum_by (passed_length (n + i)) (bounds_from (n + length p.rows) c)
    sum = sum_by-cons (passed_length (n + i)) (record { rows = n + length p.rows; end = p.end; marker = marker }) (bounds_from (n + length p.rows) c)

    go : (i < length p.rows) ⊎ (length p.rows ≤ i) →
        (slice_get (rows_of c) (i - length p.rows) ≡ Some r →
        length (before_content (i - length p.rows) c) ≡ rows_first (i - length p.rows) c + sum_by
        (passed_length (n + length p.rows + (i - length p.rows))) (bounds_from (n + length p.rows) c) + begin_length (slices r)) →
        length (before_content i (marked p marker c)) ≡ rows_first i (marked p marker c) + sum_by (passed_length (n + i)) (bounds_from n (marked p marker c)) + begin_length (slices r)
    go (inl here) again =
        let text : length (before_content i (marked p marker c)) ≡ length (before_at i p.rows) = ap length (cond-true _ _ _ (lt-ltb i (length p.rows) here)) in
        let none : passed_length (n + i) (record { rows = n + length p.rows; end = p.end; marker = marker }) ≡ 0 = not_passed (n + i) (record { rows = n + length p.rows; end = p.end; marker = marker }) (omega (arith, here)) in
        omega (arith, text, before-length i p.rows r (slice_front p.rows (rows_of c) i r here is), rows_here i p.rows (rows_of c) here, sum, none, none_passed (n + i) (n + length p.rows) c (omega (arith, here)))
    go (inr past) again =
        let text : length (before_content i (marked p marker c)) ≡ length (part_text p (marker ++ before_content (i - length p.rows) c)) = ap length (cond-false _ _ _ (le-ltb i (length p.rows) past)) in
        let all : passed_length (n + i) (record { rows = n + length p.rows; end = p.end; marker = marker }) ≡ length p.end + length marker =
        is_passed (n + i) (record { rows = n + length p.rows; end = p.end; marker = marker }) (omega (arith, past)) in
        let same : n + length p.rows + (i - length p.rows) ≡ n + i = omega (arith, past) in
        let deep : length (before_content (i - length p.rows) c) ≡ rows_first (i - length p.rows) c + sum_by (passed_length (n + i)) (bounds_from (n + length p.rows) c) + begin_length (slices r) =
        again (slice_back p.rows (rows_of c) i r past is) ∙ ap (λ (k : ℕ). rows_first (i - length p.rows) c + sum_by (passed_length k) (bounds_from (n + length p.rows) c) + begin_length (slices r)) same in
        omega (arith, text, part-length p (marker ++ before_content (i - length p.rows) c), length-append marker (before_content (i - length p.rows) c), rows_past i p.rows (rows_of c) past, sum, all, deep)

-- where the head of a row is, by the pieces
head_is : (c : Cut) (i : ℕ) (r : Row) (start end : ℕ) → slice_get (rows_of c) i ≡ Some r → start ≡ row_start i (rows_view c) + front_length (slices r) → end ≡ start + length (slices r).head → (start, end) ≡ head_place i c r
head_is c i r start end is e f =
    let s : Slices = slices r in
    let zero : 0 + i ≡ i = omega arith in
    search (rules, content-length, length-append, s, zero)

-- the same by the sums of the code
pub head_agrees : (s : RowsView) (i start front head : ℕ) (x : Slices) → slice_get s.rows i ≡ Some x → start ≡ row_start i s → front ≡ front_length x → head ≡ length x.head →
    (c : Cut) → s ≡ rows_view c → (r : Row) → slice_get (rows_of c) i ≡ Some r → (start + front, start + front + head) ≡ head_place i c r
head_agrees s i start front head x there start_is front_is head_len c rows_view_is r is = search (rules, same_Some, slice_get-map, head_is)

passed_less : (i : ℕ) (b : Bound) → passed_length i b ≤ bound_length b
passed_less i b = search rules

-- what comes before a row and the row are within the whole
pub row_fits : (s : RowsView) (i : ℕ) (x : Slices) → slice_get s.rows i ≡ Some x → row_start i s + row_length x ≤ view_length s
row_fits s i x is =
    let ends = sum_by-le-sum_by (passed_length i) bound_length s.bounds (passed_less i) in
    let within = slice_get_within s.rows i x is in
    omega (arith, ends, ap row_length (get_or_from_slice_get s.rows i x x is), sum_by_more_le row_length s.rows i x within)

-- a text that is not too long has pieces that are not
pub view_small : (s : RowsView) → IsRowsView s → view_length s ≤ text_limit
view_small s h = omega (arith, ap view_length h.is, pieces-length 0 h.cut, h.size)
