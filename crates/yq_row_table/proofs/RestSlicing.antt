-- The ends of parts directly before a row.
use Rattle.std.proofs.Common.{rules, ◌≡◌, ⊎_elim, ℕ, zero, suc, ◌+◌, ◌-◌, ◌<◌, ◌≤◌, List, [], ◌∷◌, ◌++◌, length, take, drop, slice_index_or}
use Rattle.std.{proofs.Common.{sym, refl, ap, ◌∙◌, subst, arith, ne_eqb}, proofs.lemmas.Bool.cases_lt, specs.List.AllWithin}
use Rattle.std.{specs.List.Sorted.IsNonDecreasingBy, proofs.lemmas.List.{get_or-drop, length-drop, take-map, drop-map}}
use Rattle.yq_text.specs.declared.halves.Halves.{Halves}
use Rattle.yq_row_table.{specs.Ends.{bound_in_half, bounds_in_halves}, specs.Items.{Item, row_item, end_item}, specs.Kept.ends_near}
use Rattle.yq_row_table.{specs.Rows.print_row, specs.View.bounds_at}
use Rattle.yq_row_table.specs.declared.ends.EndPlace as ends

-- rows never fall from a part's end to the next one's
ends_above : (xs : List Item) (n k j : ℕ) (d : ends.EndPlace) → j < length (ends_near n k xs) → k ≤ (slice_index_or (ends_near n k xs) j d).rows
ends_above [] n k j d lt = absurd (omega arith)
ends_above (row_item r ∷ xs) n k j d lt = let above = ends_above xs (n + length (print_row r [])) (k + 1) j d lt in omega arith
ends_above (end_item gap marker ∷ xs) n k zero d lt = omega arith
ends_above (end_item gap marker ∷ xs) n k (suc j) d lt = ends_above xs (n + length (gap ++ marker)) k j d (omega arith)

pub ends_rise : (xs : List Item) (n k : ℕ) → IsNonDecreasingBy (λ e. e.rows) (ends_near n k xs)
ends_rise (row_item r ∷ xs) n k i j d le lt = ends_rise xs (n + length (print_row r [])) (k + 1) i j d le lt
ends_rise (end_item gap marker ∷ xs) n k zero zero d le lt = omega arith
ends_rise (end_item gap marker ∷ xs) n k zero (suc j) d le lt = ends_above xs (n + length (gap ++ marker)) k j d (omega arith)
ends_rise (end_item gap marker ∷ xs) n k (suc i) (suc j) d le lt = ends_rise xs (n + length (gap ++ marker)) k i j d (omega arith) (omega arith)
ends_rise _ n k _ _ d le lt = absurd (omega arith)

starts_above : (xs : List Item) (n k j : ℕ) (d : ends.EndPlace) → j < length (ends_near n k xs) → n ≤ (slice_index_or (ends_near n k xs) j d).start
starts_above [] n k j d lt = absurd (omega arith)
starts_above (row_item r ∷ xs) n k j d lt = let above = starts_above xs (n + length (print_row r [])) (k + 1) j d lt in omega arith
starts_above (end_item gap marker ∷ xs) n k zero d lt = omega arith
starts_above (end_item gap marker ∷ xs) n k (suc j) d lt = let above = starts_above xs (n + length (gap ++ marker)) k j d (omega arith) in omega arith

-- nor do their beginnings
pub starts_rise : (xs : List Item) (n k : ℕ) → IsNonDecreasingBy (λ e. e.start) (ends_near n k xs)
starts_rise (row_item r ∷ xs) n k i j d le lt = starts_rise xs (n + length (print_row r [])) (k + 1) i j d le lt
starts_rise (end_item gap marker ∷ xs) n k zero zero d le lt = omega arith
starts_rise (end_item gap marker ∷ xs) n k zero (suc j) d le lt = let above = starts_above xs (n + length (gap ++ marker)) k j d (omega arith) in omega arith
starts_rise (end_item gap marker ∷ xs) n k (suc i) (suc j) d le lt = starts_rise xs (n + length (gap ++ marker)) k i j d (omega arith) (omega arith)
starts_rise _ n k _ _ d le lt = absurd (omega arith)

-- the ends that come before row i are skipped, and those at row i are taken
skipped : (t : Halves) (i n : ℕ) (bounds : List ends.EndPlace) → n ≤ length bounds → AllWithin (λ b. b.rows < i) bounds 0 n → bounds_at i (bounds_in_halves t bounds) ≡ bounds_at i (bounds_in_halves t (drop n bounds))
skipped t i zero bounds le h = refl
skipped t i (suc n) [] le h = absurd (omega arith)
skipped t i (suc n) (b ∷ bounds) le h =
    let less : b.rows < i = h 0 b (omega arith) (omega arith) in
    rw (ne_eqb i b.rows (λ e. absurd (omega arith))) (skipped t i n bounds (omega arith) (λ k d low lt. h (suc k) d (omega arith) (omega arith)))

none_left : (t : Halves) (i : ℕ) (bounds : List ends.EndPlace) → AllWithin (λ b. i < b.rows) bounds 0 (length bounds) → bounds_at i (bounds_in_halves t bounds) ≡ []
none_left t i [] h = refl
none_left t i (b ∷ bounds) h =
    let more : i < b.rows = h 0 b (omega arith) (omega arith) in
    rw (ne_eqb i b.rows (λ e. absurd (omega arith))) (none_left t i bounds (λ k d low lt. h (suc k) d (omega arith) (omega arith)))

taken : (t : Halves) (i n : ℕ) (bounds : List ends.EndPlace) → n ≤ length bounds → AllWithin (λ b. i ≤ b.rows) bounds 0 (length bounds) → AllWithin (λ b. b.rows ≤ i) bounds 0 n → AllWithin (λ b. i < b.rows) bounds n (length bounds) →
    bounds_in_halves t (take n bounds) ≡ bounds_at i (bounds_in_halves t bounds)
taken t i zero bounds le from here after = sym (none_left t i bounds after)
taken t i (suc n) [] le from here after = absurd (omega arith)
taken t i (suc n) (b ∷ bounds) le from here after =
    let low : i ≤ b.rows = from 0 b (omega arith) (omega arith) in
    let high : b.rows ≤ i = here 0 b (omega arith) (omega arith) in
    search (rules, taken t i n bounds (omega arith) (λ k d w lt. from (suc k) d (omega arith) (omega arith)) (λ k d w lt. here (suc k) d (omega arith) (omega arith)) (λ k d w lt. after (suc k) d (omega arith) (omega arith)))

-- What binary search finds of ends of which none has fewer rows in front of it than the one before it: those at row i.
pub record AtRow (i from to : ℕ) (own : List ends.EndPlace) : Type 0 where
  pub within : to ≤ length own
  pub before : AllWithin (λ b. b.rows < i) own 0 from
  pub reached : AllWithin (λ b. i ≤ b.rows) own from (length own)
  pub here : AllWithin (λ b. b.rows ≤ i) own 0 to
  pub passed : AllWithin (λ b. i < b.rows) own to (length own)

pub in_order : (i from to : ℕ) (own : List ends.EndPlace) → from ≤ length own → AtRow i from to own → from ≤ to
in_order i from to own within h = ⊎_elim {0, 0, 0}
    (λ (less : to < from).
    let d : ends.EndPlace = record { rows = 0; start = 0; gap = 0; marker = 0 } in
    absurd (omega (arith, h.before to d (omega arith) less, h.passed to d (omega arith) (omega (arith, less, within)))))
    (λ (more : from ≤ to). more)
    (cases_lt to from)

pub rest_sliced : (t : Halves) (i from to : ℕ) (own : List ends.EndPlace) → from ≤ to → AtRow i from to own → take (to - from) (drop from (bounds_in_halves t own)) ≡ bounds_at i (bounds_in_halves t own)
rest_sliced t i from to own order h =
    let ahead = drop from own in
    let count = to - from in
    let long = length-drop from own in
    let after : AllWithin (λ b. i ≤ b.rows) ahead 0 (length ahead) =
    λ k d low lt. subst (λ (b : ends.EndPlace). i ≤ b.rows) (sym (get_or-drop from own k d)) (h.reached (from + k) d (omega arith) (omega (arith, lt, long))) in
    let here : AllWithin (λ b. b.rows ≤ i) ahead 0 count =
    λ k d low lt. subst (λ (b : ends.EndPlace). b.rows ≤ i) (sym (get_or-drop from own k d)) (h.here (from + k) d (omega arith) (omega (arith, lt, order))) in
    let passed : AllWithin (λ b. i < b.rows) ahead count (length ahead) =
    λ k d low lt. subst (λ (b : ends.EndPlace). i < b.rows) (sym (get_or-drop from own k d)) (h.passed (from + k) d (omega (arith, low, order)) (omega (arith, lt, long))) in
    ap (take count) (drop-map (bound_in_half t) from own)
    ∙ (take-map (bound_in_half t) count ahead
    ∙ (taken t i count ahead (omega (arith, long, h.within)) after here passed ∙ sym (skipped t i from own (omega (arith, order, h.within)) h.before)))
