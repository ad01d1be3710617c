-- Where rows begin, by their pieces.
use Rattle.std.proofs.Common.{◌≡◌, ◌⊎◌, ℕ, suc, ◌+◌, ◌-◌, ◌<◌, ◌≤◌, List, [], ◌∷◌, length, take, Some, option_map, refl, ap, ◌∙◌, arith}
use Rattle.std.{proofs.Common.{length-append, rules, sym}, proofs.lemmas.Bool.{cases_lt, lt-ltb, le-ltb, cond-true, cond-false}}
use Rattle.std.{proofs.lemmas.Option.slice_get-map, specs.List.slice_get, proofs.lemmas.List.length-replicate}
use Rattle.yq_row_table.{specs.Exchange.{row_front, before_at, before_content}, specs.Rows.{Row, rows_text, Cut, last, marked}}
use Rattle.yq_row_table.{specs.View.{Slices, slices, rows_of, rows_view}, proofs.ExchangeLaws.{slice_front, slice_back}}
use Rattle.yq_row_table.proofs.SliceLaws.{print-length}
use Rattle.yq_outline.{specs.Extents.{row_start, front_length, head_place}, proofs.LengthLaws.{part-length, front-length, head_agrees}}
use Rattle.yq_outline.proofs.WalkLevels.{last_is, to_dash}
use Rattle.yq_places.{specs.CommentReading.before_row, specs.EntryReading.{before_line, line_begin, row_ending, through_row}}

-- the text before a row's content is that before the row, and the row's front
front_at : (rows : List Row) (i : ℕ) (r : Row) → slice_get rows i ≡ Some r → length (before_at i rows) ≡ length (rows_text (take i rows) []) + length (row_front r)
front_at (x ∷ rows) (suc i) r is = omega (arith, print-length x (before_at i rows), print-length x (rows_text (take i rows) []), front_at rows i r is)
front_at rows i r is = search (rules, arith)

pub front_in : (i : ℕ) (c : Cut) (r : Row) → slice_get (rows_of c) i ≡ Some r → length (before_content i c) ≡ length (before_row i c) + length (row_front r)
front_in i (last p) r is = front_at p.rows i r is
front_in i (marked p marker c) r is = go (cases_lt i (length p.rows)) (λ there. front_in (i - length p.rows) c r there)
  where
    go : (i < length p.rows) ⊎ (length p.rows ≤ i) → (slice_get (rows_of c) (i - length p.rows) ≡ Some r → length (before_content (i - length p.rows) c) ≡ length (before_row (i - length p.rows) c) + length (row_front r)) →
        length (before_content i (marked p marker c)) ≡ length (before_row i (marked p marker c)) + length (row_front r)
    go h1 h2 = search (rules, cond-true, lt-ltb, front_at, slice_front, cond-false, le-ltb, part-length, length-append, slice_back)

-- where a row begins is how long the text before it is
pub start_agrees : (c : Cut) (i : ℕ) (r : Row) → slice_get (rows_of c) i ≡ Some r → row_start i (rows_view c) ≡ length (before_row i c)
start_agrees c i r is =
    let s : Slices = slices r in
    let there : slice_get (rows_view c).rows i ≡ Some s = slice_get-map slices (rows_of c) i ∙ ap (option_map slices) is in
    let agrees = head_agrees (rows_view c) i (row_start i (rows_view c)) (front_length s) (length s.head) s there refl refl refl c refl r is in
    let place : row_start i (rows_view c) + front_length s ≡ (head_place i c r).0 = ap (λ (x : ℕ × ℕ). x.0) agrees in
    omega (arith, place, length-append {A = ℕ}, front_in i c r is, front-length r)

-- ---- where rows and their lines begin, by the pieces of rows

-- where the head of a row is, by where the row begins
pub head_is : (c : Cut) (i : ℕ) (r : Row) → slice_get (rows_of c) i ≡ Some r → head_place i c r ≡ (row_start i (rows_view c) + front_length (slices r), row_start i (rows_view c) + front_length (slices r) + length (slices r).head)
head_is c i r is =
    let s : Slices = slices r in
    let there : slice_get (rows_view c).rows i ≡ Some s = slice_get-map slices (rows_of c) i ∙ ap (option_map slices) is in
    sym (head_agrees (rows_view c) i (row_start i (rows_view c)) (front_length s) (length s.head) s there refl refl refl c refl r is)

-- where a line of a row begins
pub line_begins : (c : Cut) (i k : ℕ) (r : Row) → slice_get (rows_of c) i ≡ Some r → k ≤ length r.dashes → line_begin (row_start i (rows_view c)) (slices r) k ≡ length (before_line i k r c)
line_begins c i k r is within = search (rules, length-replicate, start_agrees, to_dash, last_is, length-append)

-- where a row ends
pub row_ends : (c : Cut) (i : ℕ) (r : Row) → slice_get (rows_of c) i ≡ Some r → (head_place i c r).1 + length (row_ending (slices r)) ≡ length (through_row i r c)
row_ends c i r is = search (rules, length-append)
