-- The search for a document that goes on from one whose part is known.
use Rattle.std.proofs.Common.{◌≡◌, ℕ, zero, suc, ◌+◌, ◌-◌, ◌≤◌, Bool, true, false, cond, ◌||◌, not, List, [], ◌∷◌, length, drop, Some, None}
use Rattle.std.{proofs.Common.{refl, sym, ap, ◌∙◌, arith}, proofs.lemmas.List.drop_all, proofs.lemmas.Option.same_Some}
use Rattle.std.specs.List.{slice_get}
use Rattle.yq_outline.proofs.EndsLaws.{drop_at}
use Rattle.yq_row_table.{specs.Grammar.begins_document, specs.Rows.Cut, specs.View.{Bound, RowsView, rows_view}}
use Rattle.yq_documents.{specs.PartReading.{first_rows, number_in, some_begin}, specs.PartNumbers.document_part}
use Rattle.yq_documents.proofs.PartNumberLaws.{document_told}
use Rattle.yq_lookup.specs.KnownDocuments.{NumbersGoOn, IsKnownDocument, part_by_number}
use Rattle.yq_lookup.specs.declared.known_document.KnownDocument.{KnownDocument}

-- the part that is found is that from which the search goes, or one after it
pub found_later : (is : Bool) (d j p : ℕ) (bs : List Bound) → number_in is d j bs ≡ Some p → j ≤ p
found_later is d j p [] e = absurd (cc)
found_later true zero j p (b ∷ bs) e = omega (arith, same_Some _ _ e)
found_later true (suc d) j p (b ∷ bs) e = omega (arith, found_later (begins_document b.marker) d (j + 1) p bs e)
found_later false d j p (b ∷ bs) e = omega (arith, found_later (begins_document b.marker) d (j + 1) p bs e)

-- a later document is found from there on
found_on : (is : Bool) (d n j p : ℕ) (bs : List Bound) → number_in is d j bs ≡ Some p → number_in is (d + n) j bs ≡ number_in true n p (drop (p - j) bs)
found_on is d n j p [] e = absurd (cc)
found_on true zero n j p (b ∷ bs) e =
    let same : j ≡ p = same_Some _ _ e in
    let none : 0 ≡ p - j = omega (arith, same) in
    let count : 0 + n ≡ n = omega arith in
    λ i. number_in true (count i) (same i) (drop (none i) (b ∷ bs))
found_on true (suc d) n j p (b ∷ bs) e =
    let count : suc d + n ≡ suc (d + n) = omega arith in
    let index : suc (p - (j + 1)) ≡ p - j = omega (arith, found_later (begins_document b.marker) d (j + 1) p bs e) in
    ap (λ (m : ℕ). number_in true m j (b ∷ bs)) count
    ∙ (found_on (begins_document b.marker) d n (j + 1) p bs e ∙ ap (λ (m : ℕ). number_in true n p (drop m (b ∷ bs))) index)
found_on false d n j p (b ∷ bs) e =
    let index : suc (p - (j + 1)) ≡ p - j = omega (arith, found_later (begins_document b.marker) d (j + 1) p bs e) in
    found_on (begins_document b.marker) d n (j + 1) p bs e ∙ ap (λ (m : ℕ). number_in true n p (drop m (b ∷ bs))) index

pub goes_on_known : (bs : List Bound) (k : KnownDocument) → IsKnownDocument bs k → NumbersGoOn bs k.part k.doc true
goes_on_known bs k known n =
    let index : k.part - 0 ≡ k.part = omega arith in
    found_on (first_rows bs || not (some_begin bs)) k.doc n 0 k.part bs known ∙ ap (λ (m : ℕ). number_in true n k.part (drop m bs)) index

-- after one part more
pub goes_on_next : (bs : List Bound) (part before : ℕ) (is : Bool) (b : Bound) → slice_get bs part ≡ Some b → NumbersGoOn bs part before is → NumbersGoOn bs (part + 1) (cond is (before + 1) before) (begins_document b.marker)
goes_on_next bs part before true b at h n =
    let count : (before + 1) + n ≡ before + suc n = omega arith in
    ap (λ (m : ℕ). part_by_number m bs) count ∙ (h (suc n) ∙ ap (number_in true (suc n) part) (drop_at bs part b at))
goes_on_next bs part before false b at h n = h n ∙ ap (number_in false n part) (drop_at bs part b at)

-- the part at which the search is
pub known_here : (bs : List Bound) (part before : ℕ) (is : Bool) (b : Bound) → is ≡ true → slice_get bs part ≡ Some b → NumbersGoOn bs part before is → part_by_number before bs ≡ Some part
known_here bs part before is b e at h =
    let count : before ≡ before + 0 = omega arith in
    ap (λ (m : ℕ). part_by_number m bs) count ∙ (h 0 ∙ (ap (λ (x : Bool). number_in x 0 part (drop part bs)) e ∙ ap (number_in true 0 part) (drop_at bs part b at)))

-- no part is left
none_left : (is : Bool) (n j : ℕ) → number_in is n j [] ≡ None
none_left is n j = refl

pub goes_on_none : (bs : List Bound) (part before doc : ℕ) (is : Bool) → length bs ≤ part → before ≤ doc → NumbersGoOn bs part before is → None ≡ part_by_number doc bs
goes_on_none bs part before doc is end order h =
    let count : before + (doc - before) ≡ doc = omega (arith, order) in
    sym (none_left is (doc - before) part)
    ∙ (ap (number_in is (doc - before) part) (sym (drop_all part bs end)) ∙ (sym (h (doc - before)) ∙ ap (λ (m : ℕ). part_by_number m bs) count))

-- the part of a document, by its cut
pub part_told : (c : Cut) (s : RowsView) (n : ℕ) → s ≡ rows_view c → part_by_number n s.bounds ≡ document_part n c
part_told c s n is = document_told c s n is
