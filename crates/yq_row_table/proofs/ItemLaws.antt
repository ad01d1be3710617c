-- A cut and its items.
use Rattle.std.proofs.Common.{rules, ◌≡◌, inr, ℕ, ◌+◌, Bool, true, false, ◌||◌, List, [], ◌∷◌, ◌++◌, length, map, refl, sym, ap, ◌∙◌, subst}
use Rattle.std.{proofs.Common.{arith, append-nil}, proofs.lemmas.List.map-append}
use Rattle.yq_row_table.specs.Grammar.{unlimited, limit_after, IsRow, AreRows, no_rows, begins_document, AreParts}
use Rattle.yq_row_table.specs.Items.{Item, row_item, end_item, rows_items, items_of_cut, items_text, Asked, asked_by, asked_of, IsPartEnd}
use Rattle.yq_row_table.specs.Items.{AreRowItems, rows_in_items, bounds_in_items, view_of_items}
use Rattle.yq_row_table.specs.Rows.{Row, print_row, rows_text, Cut, last, marked, cut_text}
use Rattle.yq_row_table.specs.View.{Slices, slices, Bound, rows_of, bounds_from, rows_view}

-- texts
pub rows_items_text : (rs : List Row) (xs : List Item) (rest : List ℕ) → items_text (rows_items rs xs) rest ≡ rows_text rs (items_text xs rest)
rows_items_text [] xs rest = refl
rows_items_text (r ∷ rs) xs rest = ap (print_row r) (rows_items_text rs xs rest)

pub items_of_text : (c : Cut) → items_text (items_of_cut c) [] ≡ cut_text c
items_of_text (last p) = rows_items_text p.rows (end_item p.end [] ∷ []) []
items_of_text (marked p marker c) = search (rules, rows_items_text, items_of_text c)

pub items_text-append : (xs ys : List Item) (rest : List ℕ) → items_text (xs ++ ys) rest ≡ items_text xs (items_text ys rest)
items_text-append [] ys rest = refl
items_text-append (row_item r ∷ xs) ys rest = ap (print_row r) (items_text-append xs ys rest)
items_text-append (end_item gap marker ∷ xs) ys rest = ap (λ t. gap ++ (marker ++ t)) (items_text-append xs ys rest)

-- rows and ends as the code lends them
rows_items_rows : (rs : List Row) (xs : List Item) → rows_in_items (rows_items rs xs) ≡ map slices rs ++ rows_in_items xs
rows_items_rows [] xs = refl
rows_items_rows (r ∷ rs) xs = ap (λ l. slices r ∷ l) (rows_items_rows rs xs)

rows_items_bounds : (rs : List Row) (n : ℕ) (xs : List Item) → bounds_in_items n (rows_items rs xs) ≡ bounds_in_items (n + length rs) xs
rows_items_bounds [] n xs = ap (λ k. bounds_in_items k xs) (omega arith)
rows_items_bounds (r ∷ rs) n xs = rows_items_bounds rs (n + 1) xs ∙ ap (λ k. bounds_in_items k xs) (omega arith)

items_rows : (c : Cut) → rows_in_items (items_of_cut c) ≡ map slices (rows_of c)
items_rows (last p) = rows_items_rows p.rows (end_item p.end [] ∷ []) ∙ append-nil (map slices p.rows)
items_rows (marked p marker c) = search (rules, rows_items_rows, map-append, items_rows c)

items_bounds : (c : Cut) (n : ℕ) → bounds_in_items n (items_of_cut c) ≡ bounds_from n c
items_bounds (last p) n = rows_items_bounds p.rows n (end_item p.end [] ∷ [])
items_bounds (marked p marker c) n = search (rules, rows_items_bounds, items_bounds c (n + length p.rows))

pub items_view_is : (c : Cut) → view_of_items (items_of_cut c) ≡ rows_view c
items_view_is c = ap (λ (l : List Slices). record { rows = l; bounds = bounds_in_items 0 (items_of_cut c) }) (items_rows c) ∙ ap (λ (l : List Bound). record { rows = map slices (rows_of c); bounds = l }) (items_bounds c 0)

-- items one after the other
pub items_joined : (xs ys : List Item) (asked : Asked) (rest : List ℕ) → AreRowItems asked (xs ++ ys) rest → AreRowItems (asked_of asked xs) ys rest
items_joined [] ys asked rest h = h
items_joined (x ∷ xs) ys asked rest h = items_joined xs ys (asked_by asked x) rest h.1

-- the grammar of a cut, by its items
or_false : (b : Bool) → (b || false) ≡ b
or_false b = search rules

rows_are_items : (rs : List Row) (asked : Asked) (gap marker : List ℕ) (xs : List Item) → (asked.started || no_rows rs) ≡ true → AreRows asked.limit rs gap (marker ++ items_text xs []) → IsPartEnd marker xs [] →
    AreRowItems (record { limit = unlimited; started = begins_document marker }) xs [] → AreRowItems asked (rows_items rs (end_item gap marker ∷ xs)) []
rows_are_items [] asked gap marker xs o h e more = ((h, e), more)
rows_are_items (r ∷ rs) asked gap marker xs o h e more =
    let started : asked.started ≡ true = sym (or_false asked.started) ∙ o in
    let same : rows_text rs (gap ++ (marker ++ items_text xs [])) ≡ items_text (rows_items rs (end_item gap marker ∷ xs)) [] = sym (rows_items_text rs (end_item gap marker ∷ xs) []) in
    let all : (asked.started || no_rows rs) ≡ true = rw started refl in (
      (started, subst (IsRow asked.limit r) same h.0),
      rows_are_items rs (record { limit = limit_after r; started = asked.started }) gap marker xs all h.1 e more,
    )

pub parts_are_items : (c : Cut) (started : Bool) → AreParts started c → AreRowItems (record { limit = unlimited; started = started }) (items_of_cut c) []
parts_are_items (last p) started h = rows_are_items p.rows (record { limit = unlimited; started = started }) p.end [] [] h.inside h.rows (inr (refl, refl, refl)) tt
parts_are_items (marked p marker c) started h = search (rules, items_of_text, rows_are_items, parts_are_items c (begins_document marker) h.2)
