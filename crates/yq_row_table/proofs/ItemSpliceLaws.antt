-- Splices of a cut, by its items.
use Rattle.std.proofs.Common.{◌≡◌, ℕ, zero, suc, ◌≤◌, List, [], ◌∷◌, ◌++◌, take, drop, refl, sym, ap, ◌∙◌, arith, append_assoc, rules}
use Rattle.yq_row_table.specs.Items.{Item, row_item, end_item, rows_items, items_of_cut}
use Rattle.yq_row_table.{specs.ItemSplices.{items_before, first_item, regapped, SplicedItems}, specs.Rows.{Row, Cut, last, marked}}
use Rattle.yq_row_table.specs.Splices.{with_first_gap, end_gap}

-- the items after the first one of rows and of the end after them
abbrev later_items : List Row → (gap marker : List ℕ) → List Item → List Item
later_items [] gap marker xs = xs
later_items (r ∷ rs) gap marker xs = rows_items rs (end_item gap marker ∷ xs)

rows_then : (rs : List Row) (x : Item) (xs : List Item) → rows_items rs (x ∷ xs) ≡ rows_items rs (x ∷ []) ++ xs
rows_then [] x xs = refl
rows_then (r ∷ rs) x xs = ap (λ l. row_item r ∷ l) (rows_then rs x xs)

pub rows_front : (rs : List Row) (xs : List Item) → rows_items rs xs ≡ rows_items rs [] ++ xs
rows_front [] xs = refl
rows_front (r ∷ rs) xs = ap (λ l. row_item r ∷ l) (rows_front rs xs)

rows_joined : (a b : List Row) (xs : List Item) → rows_items (a ++ b) xs ≡ rows_items a (rows_items b xs)
rows_joined [] b xs = refl
rows_joined (r ∷ a) b xs = ap (λ l. row_item r ∷ l) (rows_joined a b xs)

-- one part
first_later : (rs : List Row) (gap marker : List ℕ) (xs : List Item) → rows_items rs (end_item gap marker ∷ xs) ≡ first_item rs gap marker ∷ later_items rs gap marker xs
first_later rs gap marker xs = search rules

cut_rows : (i j : ℕ) (rs : List Row) (xs : List Item) → i ≤ j → rows_items rs xs ≡ rows_items (take i rs) (rows_items (drop i (take j rs)) (rows_items (drop j rs) xs))
cut_rows zero (suc j) (r ∷ rs) xs le = ap (λ l. row_item r ∷ l) (cut_rows zero j rs xs (omega arith))
cut_rows (suc i) zero rs xs le = absurd (omega (arith, le))
cut_rows (suc i) (suc j) (r ∷ rs) xs le = ap (λ l. row_item r ∷ l) (cut_rows i j rs xs (omega (arith, le)))
cut_rows _ _ _ xs le = refl

part_old : (i j : ℕ) (rs : List Row) (gap marker : List ℕ) (xs : List Item) → i ≤ j →
    rows_items rs (end_item gap marker ∷ xs) ≡ rows_items (take i rs) [] ++ (rows_items (drop i (take j rs)) (first_item (drop j rs) gap marker ∷ []) ++ later_items (drop j rs) gap marker xs)
part_old i j rs gap marker xs le =
    cut_rows i j rs (end_item gap marker ∷ xs) le
    ∙ (ap (λ l. rows_items (take i rs) (rows_items (drop i (take j rs)) l)) (first_later (drop j rs) gap marker xs)
    ∙ (rows_front (take i rs) (rows_items (drop i (take j rs)) (first_item (drop j rs) gap marker ∷ later_items (drop j rs) gap marker xs))
    ∙ ap (λ l. rows_items (take i rs) [] ++ l) (rows_then (drop i (take j rs)) (first_item (drop j rs) gap marker) (later_items (drop j rs) gap marker xs))))

gap_later : (rs : List Row) (new_gap gap marker : List ℕ) (xs : List Item) → rows_items (with_first_gap new_gap rs) (end_item (end_gap new_gap rs gap) marker ∷ xs) ≡ regapped new_gap rs marker ∷ later_items rs gap marker xs
gap_later rs new_gap gap marker xs = search rules

part_new : (i j : ℕ) (rs new : List Row) (new_gap gap marker : List ℕ) (xs : List Item) →
    rows_items (take i rs ++ (new ++ with_first_gap new_gap (drop j rs))) (end_item (end_gap new_gap (drop j rs) gap) marker ∷ xs) ≡ rows_items
    (take i rs) [] ++ (rows_items new (regapped new_gap (drop j rs) marker ∷ []) ++ later_items (drop j rs) gap marker xs)
part_new i j rs new new_gap gap marker xs = search (rules, rows_joined, gap_later, rows_front, rows_then)

-- a cut
after_part : (rs : List Row) (gap marker : List ℕ) (a b : List Item) → rows_items rs (end_item gap marker ∷ (a ++ b)) ≡ rows_items rs (end_item gap marker ∷ a) ++ b
after_part rs gap marker a b = rows_then rs (end_item gap marker) (a ++ b) ∙ (sym (append_assoc (rows_items rs (end_item gap marker ∷ [])) a b) ∙ ap (λ l. l ++ b) (sym (rows_then rs (end_item gap marker) a)))

pub spliced_items : (k i j : ℕ) (new : List Row) (gap : List ℕ) (c : Cut) → i ≤ j → SplicedItems k i j new gap c
spliced_items k i j new gap (last p) le = record {
  back = later_items (drop j p.rows) p.end [] [];
  old = part_old i j p.rows p.end [] [] le;
  new_items = part_new i j p.rows new gap p.end [] [];
}
spliced_items zero i j new gap (marked p marker c) le = record {
  back = later_items (drop j p.rows) p.end marker (items_of_cut c);
  old = part_old i j p.rows p.end marker (items_of_cut c) le;
  new_items = part_new i j p.rows new gap p.end marker (items_of_cut c);
}
spliced_items (suc k) i j new gap (marked p marker c) le =
    let more = spliced_items k i j new gap c le in
    record {
      back = more.back;
      old = ap (λ l. rows_items p.rows (end_item p.end marker ∷ l)) more.old ∙ after_part p.rows p.end marker (items_before k i c) _;
      new_items = ap (λ l. rows_items p.rows (end_item p.end marker ∷ l)) more.new_items ∙ after_part p.rows p.end marker (items_before k i c) _;
    }
