-- Rows of a document and the gaps after them, among all rows of a text.
use Rattle.std.proofs.Common.{◌≡◌, ℕ, zero, suc, ◌+◌, ◌-◌, ◌<◌, ◌≤◌, eqb, List, [], ◌∷◌, ◌++◌, length, length-append, take, Some, refl, ap}
use Rattle.std.{proofs.Common.{◌∙◌, subst, arith, rules}, proofs.lemmas.Bool.{cond-true, cond-false, eq-eqb, ne_eqb}}
use Rattle.std.{proofs.lemmas.Option.slice_get-map, specs.List.slice_get}
use Rattle.yq_row_table.{specs.Removal.{block_of, last_block, next_column}, specs.Rows.{Row, Part, Cut, last, marked}}
use Rattle.yq_row_table.{specs.Splices.{first_gap, nth_part}, specs.View.{rows_of, Bound, bounds_from, bounds_of, bounds_at, rows_view}}
use Rattle.yq_places.{specs.PlacedRows.{PlacedPart, placed_document}, specs.RemovalReading.{gap_counts, gap_and_column}}
use Rattle.yq_places.proofs.PlacedPartLaws.{part_is_there}
use Rattle.yq_documents.{specs.LinesInRows.document_row, specs.PartNumbers.{part_number, rows_to}}

-- ---- the ends of parts before a row

none_low : (i k : ℕ) (c : Cut) → i < k → bounds_at i (bounds_from k c) ≡ []
none_low i k (last p) h = cond-false (eqb i (k + length p.rows)) (record { rows = k + length p.rows; end = p.end; marker = [] } ∷ []) [] (ne_eqb i (k + length p.rows) (λ e. omega (arith, e, h)))
none_low i k (marked p marker c) h = cc (ne_eqb i (k + length p.rows) (λ e. omega (arith, e, h)), none_low i (k + length p.rows) c (omega (arith, h)))

-- Inside a document no part ends before a row; after its last row it does.
record EndsAt (k i : ℕ) (c : Cut) (p : Part) (j : ℕ) : Type 0 where
  pub inside : j < length p.rows → bounds_at i (bounds_from k c) ≡ []
  pub after : j ≡ length p.rows → (b : Bound) × (bs : List Bound) × (bounds_at i (bounds_from k c) ≡ b ∷ bs) × (b.end ≡ p.end)

ends_at : (m k : ℕ) (c : Cut) (j i : ℕ) → 0 < j → i ≡ k + rows_to m c + j → EndsAt k i c (nth_part m c) j
ends_at m k (last p) j i some at =
    let b : Bound = record { rows = k + length p.rows; end = p.end; marker = [] } in
    record {
      inside = λ h. cond-false (eqb i (k + length p.rows)) (b ∷ []) [] (ne_eqb i (k + length p.rows) (λ e. omega (arith, e, at, h)));
      after = λ h. (b, [], cond-true (eqb i (k + length p.rows)) (b ∷ []) [] (eq-eqb i (k + length p.rows) (omega (arith, at, h))), refl);
    }
ends_at zero k (marked p marker c) j i some at =
    let b : Bound = record { rows = k + length p.rows; end = p.end; marker = marker } in
    let others : List Bound = bounds_at i (bounds_from (k + length p.rows) c) in
    record {
      inside = λ h. cond-false (eqb i (k + length p.rows)) (b ∷ others) others (ne_eqb i (k + length p.rows) (λ e. omega (arith, e, at, h))) ∙ none_low i (k + length p.rows) c (omega (arith, at, h));
      after = λ h. (b, others, cond-true (eqb i (k + length p.rows)) (b ∷ others) others (eq-eqb i (k + length p.rows) (omega (arith, at, h))), refl);
    }
ends_at (suc m) k (marked p marker c) j i some at = search (rules, arith, cond-false, ne_eqb, ends_at m (k + length p.rows) c j i some (omega (arith, at)))

-- the gap before the rows of a document after some, and its column
pub gap_after : (n : ℕ) (c : Cut) (d : PlacedPart) (some back : List Row) → placed_document n c ≡ Some d → d.part.rows ≡ some ++ back → 0 < length some →
    ((r : Row) (rs : List Row) → back ≡ r ∷ rs → slice_get (rows_of c) (document_row n c + length some) ≡ Some r) →
    gap_counts (document_row n c + length some) (rows_view c) ≡ (first_gap back d.part.end, next_column back)
gap_after n c d some back e rows more there = go back refl (subst (λ (y : PlacedPart). EndsAt 0 i c y.part (length some)) (part_is_there n c d e).is (ends_at (part_number n c) 0 c (length some) i more (omega arith)))
  where
    i : ℕ
    i = document_row n c + length some

    size : (bs : List Row) → back ≡ bs → length d.part.rows ≡ length some + length bs
    size bs is = ap length (rows ∙ ap (λ (x : List Row). some ++ x) is) ∙ length-append some bs

    go : (bs : List Row) → back ≡ bs → EndsAt 0 (document_row n c + length some) c d.part (length some) →
        gap_and_column (bounds_at (document_row n c + length some) (bounds_of c)) (slice_get (rows_view c).rows (document_row n c + length some)) ≡ (first_gap back d.part.end, next_column back)
    go [] is h = search rules
    go (r ∷ rs) is h =
        let none_there = h.inside (omega (arith, size (r ∷ rs) is)) in
        search (rules, slice_get-map, none_there)

-- the last of several rows
pub last_row : (k : ℕ) (rs : List Row) → 0 < k → k ≤ length rs → (r : Row) × (slice_get rs (k - 1) ≡ Some r) × (last_block (take k rs) ≡ block_of r.content)
last_row zero rs h less = absurd (omega (arith, h))
last_row (suc zero) (r ∷ rs) h less = (r, refl, refl)
last_row (suc (suc k)) (r ∷ (q ∷ rs)) h less = search (rules, last_row (suc k) (q ∷ rs) (omega arith) (omega (arith, less)))
last_row _ _ h less = absurd (omega (arith, less))
