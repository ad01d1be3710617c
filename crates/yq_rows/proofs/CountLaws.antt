-- How many rows and ends of parts items have, and how many rows are in front of an end.
use Rattle.std.proofs.Common.{◌≡◌, ℕ, suc, ◌+◌, ◌≤◌, List, [], ◌∷◌, ◌++◌, length, refl, ap, ◌∙◌, arith, rules}
use Rattle.std.{proofs.lemmas.List.Elements.{All-cons, All-nil}, specs.List.All}
use Rattle.yq_row_table.{specs.Ends.end_at, specs.Items.{Item, row_item, end_item}, specs.Kept.{near, ends_near}, specs.Rows.print_row}
use Rattle.yq_row_table.specs.declared.ends.EndPlace.{EndPlace}
use Rattle.yq_rows.{specs.Sides.text_length, proofs.BeginLaws.first_long}

-- ends of parts, one after the other
pub ends_joined : (n k : ℕ) (xs ys : List Item) → ends_near n k (xs ++ ys) ≡ ends_near n k xs ++ ends_near (n + text_length xs) (k + length (near n xs)) ys
ends_joined n k [] ys = ap (λ (m : ℕ). ends_near m k ys) (let m : n ≡ n + text_length [] = omega arith in m) ∙ ap (λ (j : ℕ). ends_near (n + text_length []) j ys) (let j : k ≡ k + length (near n []) = omega arith in j)
ends_joined n k (row_item r ∷ xs) ys =
    let own = length (print_row r []) in
    let bytes : (n + own) + text_length xs ≡ n + text_length (row_item r ∷ xs) = omega (arith, first_long (row_item r) xs) in
    search (rules, bytes, own, ends_joined (n + own) (k + 1) xs ys)
ends_joined n k (end_item gap marker ∷ xs) ys =
    let own = length (gap ++ marker) in
    let bytes : (n + own) + text_length xs ≡ n + text_length (end_item gap marker ∷ xs) = omega (arith, first_long (end_item gap marker) xs) in
    ap (λ l. end_at n k gap marker ∷ l) (ends_joined (n + own) k xs ys ∙ ap (λ l. ends_near (n + own) k xs ++ l) (ap (λ (m : ℕ). ends_near m (k + length (near (n + own) xs)) ys) bytes))

-- how many there are, wherever they begin
pub near_count : (n m : ℕ) (xs : List Item) → length (near n xs) ≡ length (near m xs)
near_count n m [] = refl
near_count n m (row_item r ∷ xs) = ap suc (near_count (n + length (print_row r [])) (m + length (print_row r [])) xs)
near_count n m (end_item gap marker ∷ xs) = near_count (n + length (gap ++ marker)) (m + length (gap ++ marker)) xs

pub ends_count : (n k m j : ℕ) (xs : List Item) → length (ends_near n k xs) ≡ length (ends_near m j xs)
ends_count n k m j [] = refl
ends_count n k m j (row_item r ∷ xs) = ends_count (n + length (print_row r [])) (k + 1) (m + length (print_row r [])) (j + 1) xs
ends_count n k m j (end_item gap marker ∷ xs) = ap suc (ends_count (n + length (gap ++ marker)) k (m + length (gap ++ marker)) j xs)

-- how many rows are in front of an end
pub ends_rows : (n k high : ℕ) (xs : List Item) → k + length (near n xs) ≤ high → All (λ e. e.rows ≤ high) (ends_near n k xs)
ends_rows n k high [] h = All-nil (λ (e : EndPlace). e.rows ≤ high)
ends_rows n k high (row_item r ∷ xs) h = ends_rows (n + length (print_row r [])) (k + 1) high xs (omega (arith, h))
ends_rows n k high (end_item gap marker ∷ xs) h = All-cons (λ (e : EndPlace). e.rows ≤ high) (end_at n k gap marker) (ends_near (n + length (gap ++ marker)) k xs) (omega (arith, h)) (ends_rows (n + length (gap ++ marker)) k high xs h)
