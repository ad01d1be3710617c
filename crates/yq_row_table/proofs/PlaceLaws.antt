-- Where the content of a row is in a text.
use Rattle.std.proofs.Common.{◌≡◌, inl, inr, ℕ, zero, suc, ◌-◌, Bool, true, List, [], ◌∷◌, ◌++◌, length, drop, Some, refl, sym, ap, ◌∙◌}
use Rattle.std.{proofs.Common.{append_assoc, replicate, rules}, proofs.Math.Dec.ltb, proofs.lemmas.Bool.{ltb-true, ltb-false, cases_Bool}}
use Rattle.std.specs.List.{slice_get}
use Rattle.yq_core.proofs.NodesWrittenLaws.{node_append}
use Rattle.yq_row_table.specs.Exchange.{with_content, with_content_at, exchange, row_front, before_at, text_after_row, before_content}
use Rattle.yq_row_table.specs.Exchange.{after_row, following_rows, allows_first}
use Rattle.yq_row_table.specs.Grammar.{IsRow, Limit, unlimited, limit_after, AreRows, begins_document, AreParts}
use Rattle.yq_row_table.specs.Rows.{RowMark, Content, mark_text, dashes_text, content_text, Row, print_row, rows_text, Part, part_text, Cut}
use Rattle.yq_row_table.{specs.Rows.{last, marked, cut_text}, specs.View.rows_of, proofs.ExchangeLaws.{slice_front, slice_back}}

-- the text of a row, before two texts
pub dashes_then : (ns t u : List ℕ) → dashes_text ns (t ++ u) ≡ dashes_text ns t ++ u
dashes_then [] t u = refl
dashes_then (n ∷ ns) t u = ap (λ l. 45 ∷ l) (ap (λ l. replicate n 32 ++ l) (dashes_then ns t u) ∙ sym (append_assoc (replicate n 32) (dashes_text ns t) u))

mark_then : (mark : RowMark) (t u : List ℕ) → mark_text mark (t ++ u) ≡ mark_text mark t ++ u
mark_then mark t u = search (rules, append_assoc)

pub content_then : (c : Content) (t u : List ℕ) → content_text c (t ++ u) ≡ content_text c t ++ u
content_then c t u = search (rules, append_assoc, node_append)

pub row_front-append : (r : Row) (rest : List ℕ) → print_row r rest ≡ row_front r ++ content_text r.content rest
row_front-append r rest =
    let t = content_text r.content rest in
    let front = dashes_text r.dashes (mark_text r.mark []) in
    ap (λ l. r.gap ++ (replicate r.column 32 ++ l)) (ap (dashes_text r.dashes) (mark_then r.mark [] t) ∙ dashes_then r.dashes (mark_text r.mark []) t)
    ∙ (ap (λ l. r.gap ++ l) (sym (append_assoc (replicate r.column 32) front t)) ∙ sym (append_assoc r.gap (replicate r.column 32 ++ front) t))

pub row_then : (r : Row) (t u : List ℕ) → print_row r (t ++ u) ≡ print_row r t ++ u
row_then r t u = search (rules, row_front-append, content_then, append_assoc)

rows_then : (rs : List Row) (t u : List ℕ) → rows_text rs (t ++ u) ≡ rows_text rs t ++ u
rows_then [] t u = refl
rows_then (r ∷ rs) t u = ap (print_row r) (rows_then rs t u) ∙ row_then r (rows_text rs t) u

pub part_then : (p : Part) (t u : List ℕ) → part_text p (t ++ u) ≡ part_text p t ++ u
part_then p t u = ap (rows_text p.rows) (sym (append_assoc p.end t u)) ∙ rows_then p.rows (p.end ++ t) u

-- the place of a row's content
place_at : (rows : List Row) (i : ℕ) (r : Row) (rest : List ℕ) → slice_get rows i ≡ Some r → rows_text rows rest ≡ before_at i rows ++ content_text r.content (text_after_row i rows rest)
place_at [] i r rest h = cc
place_at (x ∷ rows) zero r rest h = search (rules, row_front-append, row_then)
place_at (x ∷ rows) (suc i) r rest h = search (rules, row_then, place_at rows i r rest h)

new_place_at : (rows : List Row) (i : ℕ) (r : Row) (new : Content) (rest : List ℕ) → slice_get rows i ≡ Some r → rows_text (with_content_at i new rows) rest ≡ before_at i rows ++ content_text new (text_after_row i rows rest)
new_place_at [] i r new rest h = cc
new_place_at (x ∷ rows) zero r new rest h = row_front-append (with_content new x) (rows_text rows rest)
new_place_at (x ∷ rows) (suc i) r new rest h = search (rules, row_then, new_place_at rows i r new rest h)

part_place : (p : Part) (marker before text rest : List ℕ) → rest ≡ before ++ text → part_text p (marker ++ rest) ≡ part_text p (marker ++ before) ++ text
part_place p marker before text rest h = ap (λ l. part_text p (marker ++ l)) h ∙ (ap (part_text p) (sym (append_assoc marker before text)) ∙ part_then p (marker ++ before) text)

pub place : (c : Cut) (i : ℕ) (r : Row) → slice_get (rows_of c) i ≡ Some r → cut_text c ≡ before_content i c ++ content_text r.content (after_row i c)
place (last p) i r h = place_at p.rows i r (p.end ++ []) h
place (marked p marker c) i r h = elim (cases_Bool (ltb i (length p.rows))) [
  | inl e ↦ rw e (place_at p.rows i r (p.end ++ (marker ++ cut_text c)) (slice_front p.rows (rows_of c) i r (ltb-true i (length p.rows) e) h))
  | inr e ↦ rw e (part_place p marker (before_content (i - length p.rows) c) (content_text r.content (after_row (i - length p.rows) c)) (cut_text c)
      (place c (i - length p.rows) r (slice_back p.rows (rows_of c) i r (ltb-false i (length p.rows) e) h)))
]

pub new_place : (c : Cut) (i : ℕ) (r : Row) (new : Content) → slice_get (rows_of c) i ≡ Some r → cut_text (exchange i new c) ≡ before_content i c ++ content_text new (after_row i c)
new_place (last p) i r new h = new_place_at p.rows i r new (p.end ++ []) h
new_place (marked p marker c) i r new h = elim (cases_Bool (ltb i (length p.rows))) [
  | inl e ↦ rw e (new_place_at p.rows i r new (p.end ++ (marker ++ cut_text c)) (slice_front p.rows (rows_of c) i r (ltb-true i (length p.rows) e) h))
  | inr e ↦ rw e (part_place p marker (before_content (i - length p.rows) c) (content_text new (after_row (i - length p.rows) c))
      (cut_text (exchange (i - length p.rows) new c))
      (new_place c (i - length p.rows) r new (slice_back p.rows (rows_of c) i r (ltb-false i (length p.rows) e) h)))
]

-- A row among others: it is one before what follows, and the next one may come after it.
pub record RowIn (r : Row) (rest : List ℕ) (after : List Row) : Type 0 where
  pub limit : Limit
  pub row : IsRow limit r rest
  pub next : allows_first (limit_after r) after ≡ true

pub first_allowed : (limit : Limit) (rs : List Row) (end rest : List ℕ) → AreRows limit rs end rest → allows_first limit rs ≡ true
first_allowed limit rs end rest h = search rules

row_in_at : (rows : List Row) (i : ℕ) (limit : Limit) (r : Row) (end rest : List ℕ) → AreRows limit rows end rest → slice_get rows i ≡ Some r → RowIn r (text_after_row i rows (end ++ rest)) (drop (suc i) rows)
row_in_at [] i limit r end rest h is = cc
row_in_at (x ∷ rows) zero limit r end rest h is = search (rules, first_allowed)
row_in_at (x ∷ rows) (suc i) limit r end rest h is = row_in_at rows i (limit_after x) r end rest h.1 is

pub row_in : (c : Cut) (i : ℕ) (started : Bool) (r : Row) → AreParts started c → slice_get (rows_of c) i ≡ Some r → RowIn r (after_row i c) (following_rows i c)
row_in (last p) i started r h is = row_in_at p.rows i unlimited r p.end [] h.rows is
row_in (marked p marker c) i started r h is = elim (cases_Bool (ltb i (length p.rows))) [
  | inl e ↦ rw e (row_in_at p.rows i unlimited r p.end (marker ++ cut_text c) h.0.rows (slice_front p.rows (rows_of c) i r (ltb-true i (length p.rows) e) is))
  | inr e ↦ rw e (row_in c (i - length p.rows) (begins_document marker) r h.2 (slice_back p.rows (rows_of c) i r (ltb-false i (length p.rows) e) is))
]
