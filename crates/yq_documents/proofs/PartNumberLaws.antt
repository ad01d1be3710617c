-- Documents by the numbers of their parts, and where parts are.
use Rattle.std.proofs.Common.{rules, ◌≡◌, ℕ, zero, suc, ◌+◌, ◌-◌, ◌<◌, ◌≤◌, eqb, List, [], ◌∷◌, ◌++◌, length, drop, Option, Some, None}
use Rattle.std.proofs.Common.{option_map, Bool, true, false, cond, ◌&&◌, ◌||◌, not, refl, sym, ap, ◌∙◌, arith, append-nil, length-append}
use Rattle.std.{proofs.Math.Seq.drop-append-add, proofs.lemmas.Bool.{eq-eqb, eqb-true, false≢true}, proofs.lemmas.Option.same_Some}
use Rattle.std.specs.List.{slice_get}
use Rattle.yq_row_table.{specs.Grammar.begins_document, specs.Rows.{Row, Part, Cut, last, marked}, specs.Splices.nth_part}
use Rattle.yq_row_table.specs.View.{Bound, bounds_from, rows_of, RowsView, rows_view}
use Rattle.yq_documents.specs.Documents.{parts_from, document_parts, begins_bare, has_begin}
use Rattle.yq_documents.specs.PartNumbers.{number_from, part_number, document_part, rows_to}
use Rattle.yq_documents.{specs.PartReading.{some_begin, first_rows, number_in}, proofs.BeginLaws.document_is}

-- a document is the part of its number
number_is : (is : Bool) (k : ℕ) (c : Cut) (p : Part) → slice_get (parts_from is c) k ≡ Some p → nth_part (number_from is k c) c ≡ p
number_is true zero (last x) p e = same_Some _ _ e
number_is true (suc k) (last x) p e = absurd (cc)
number_is false k (last x) p e = absurd (cc)
number_is true zero (marked x marker c) p e = same_Some _ _ e
number_is true (suc k) (marked x marker c) p e = number_is (begins_document marker) k c p e
number_is false k (marked x marker c) p e = number_is (begins_document marker) k c p e

pub part_there : (c : Cut) (k : ℕ) (p : Part) → slice_get (document_parts c) k ≡ Some p → nth_part (part_number k c) c ≡ p
part_there c k p e = number_is (begins_bare c || not (has_begin c)) k c p e

-- ---- the number by the bounds of parts

pub part_here : (is : Bool) (n k : ℕ) (b : Bound) (bs rest : List Bound) → bs ≡ b ∷ rest → true ≡ (is && eqb n 0) → Some k ≡ number_in is n k bs
part_here is n k b bs rest e found = search (rules, eqb-true, false≢true)

pub part_later : (is : Bool) (n k : ℕ) (b : Bound) (bs rest : List Bound) → bs ≡ b ∷ rest → false ≡ (is && eqb n 0) → number_in is n k bs ≡ number_in (begins_document b.marker) (cond is (n - 1) n) (k + 1) rest
part_later is n k b bs rest e other = search (rules, false≢true, eq-eqb)

-- this number, if there is such a document
abbrev if_there : ℕ → Option Part → Option ℕ
if_there n o = option_map (λ p. n) o

number_told : (is : Bool) (n k m : ℕ) (c : Cut) → number_in is n k (bounds_from m c) ≡ if_there (k + number_from is n c) (slice_get (parts_from is c) n)
number_told true zero k m (last q) = ap Some (omega arith)
number_told true (suc n) k m (last q) = refl
number_told false n k m (last q) = refl
number_told true zero k m (marked q marker c) = ap Some (omega arith)
number_told true (suc n) k m (marked q marker c) = number_told (begins_document marker) n (k + 1) (m + length q.rows) c ∙ ap (λ (j : ℕ). if_there j (slice_get (parts_from (begins_document marker) c) n)) (omega arith)
number_told false n k m (marked q marker c) = number_told (begins_document marker) n (k + 1) (m + length q.rows) c ∙ ap (λ (j : ℕ). if_there j (slice_get (parts_from (begins_document marker) c) n)) (omega arith)

pub document_told : (c : Cut) (s : RowsView) (n : ℕ) → s ≡ rows_view c → number_in (first_rows s.bounds || not (some_begin s.bounds)) n 0 s.bounds ≡ document_part n c
document_told c s n is = search (rules, document_is, number_told)

-- a document that has a number
pub document_found : (c : Cut) (n k : ℕ) → Some k ≡ document_part n c → (p : Part) × (slice_get (document_parts c) n ≡ Some p) × (k ≡ part_number n c)
document_found c n k e = search (rules, same_Some)

pub document_missing : (c : Cut) (n : ℕ) → None ≡ document_part n c → slice_get (document_parts c) n ≡ None
document_missing c n e = search rules

-- ---- the rows of parts

-- those of part i come after those before it
pub rows_there : (i : ℕ) (c : Cut) → (more : List Row) × (drop (rows_to i c) (rows_of c) ≡ (nth_part i c).rows ++ more)
rows_there i (last p) = ([], sym (append-nil p.rows))
rows_there zero (marked p marker c) = (rows_of c, refl)
rows_there (suc i) (marked p marker c) = let again = rows_there i c in (again.0, drop-append-add p.rows (rows_of c) (rows_to i c) ∙ again.1)

pub rows_within : (i : ℕ) (c : Cut) → rows_to i c + length (nth_part i c).rows ≤ length (rows_of c)
rows_within i (last p) = omega arith
rows_within zero (marked p marker c) = omega (arith, length-append p.rows (rows_of c))
rows_within (suc i) (marked p marker c) = omega (arith, rows_within i c, length-append p.rows (rows_of c))

-- the end of part i, and the beginning of the next one, by its bound
pub end_agrees : (i n : ℕ) (c : Cut) (b : Bound) → slice_get (bounds_from n c) i ≡ Some b → b.rows ≡ n + (rows_to i c + length (nth_part i c).rows)
end_agrees zero n (last p) b e = ap (λ (x : Bound). x.rows) (sym (same_Some _ _ e)) ∙ omega arith
end_agrees (suc i) n (last p) b e = absurd (cc)
end_agrees zero n (marked p marker c) b e = ap (λ (x : Bound). x.rows) (sym (same_Some _ _ e)) ∙ omega arith
end_agrees (suc i) n (marked p marker c) b e = end_agrees i (n + length p.rows) c b e ∙ omega arith

pub none_before : (c : Cut) → rows_to 0 c ≡ 0
none_before (last p) = refl
none_before (marked p marker c) = refl

next_told : (i n : ℕ) (c : Cut) (b : Bound) → slice_get (bounds_from n c) i ≡ Some b → suc i < length (bounds_from n c) → b.rows ≡ n + rows_to (suc i) c
next_told i n (last p) b e h = absurd (omega (arith, h))
next_told zero n (marked p marker c) b e h = ap (λ (x : Bound). x.rows) (sym (same_Some _ _ e)) ∙ omega (arith, none_before c)
next_told (suc i) n (marked p marker c) b e h = next_told i (n + length p.rows) c b e (omega (arith, h)) ∙ omega arith

pub start_agrees : (s : RowsView) (c : Cut) (i : ℕ) (b : Bound) → s ≡ rows_view c → (i ≡ 0 → ⊥) → i < length s.bounds → slice_get s.bounds (i - 1) ≡ Some b → b.rows ≡ rows_to i c
start_agrees s c i b is some within at = search (rules, next_told)
