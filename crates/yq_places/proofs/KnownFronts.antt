-- Items stay known in a text that keeps what is in front.
use Rattle.std.proofs.Common.{◌≡◌, ℕ, zero, suc, ◌+◌, ◌-◌, ◌<◌, ◌≤◌, ltb, cond, Bool, true, false, List, [], ◌∷◌, ◌++◌, length, take, Some}
use Rattle.std.{proofs.Common.{refl, sym, ap, ◌∙◌, subst, arith, ltb-false, rules}, proofs.lemmas.List.take-append-le}
use Rattle.std.{proofs.lemmas.List.Elements.All-push, proofs.lemmas.Option.same_Some, specs.List.{All, slice_get, sum_by}}
use Rattle.yq_row_table.specs.Items.{Item, row_item, end_item, items_of_cut, rows_in_items, bounds_in_items, view_of_items}
use Rattle.yq_row_table.{specs.Kept.near, specs.Rows.Cut, specs.Offsets.row_length, specs.RowStarts.{passed_length, row_start}}
use Rattle.yq_row_table.{specs.Touched.{TouchesOnly, item_text, before_offset}, specs.View.{Slices, slices, RowsView, rows_view}}
use Rattle.yq_row_table.{proofs.ItemLaws.items_view_is, proofs.NearLaws.near_at}
use Rattle.yq_outline.{specs.RowWalk.{ArePassed, IsKnown}, specs.declared.line_position.KnownItem.KnownItem, proofs.KnownLaws.one_there}
use Rattle.yq_places.specs.RowWalk.{StaysKnown}
use Rattle.yq_row_table.specs.declared.offsets.Offsets as declared

begins_after : (xs : List Item) (m i : ℕ) (o : declared.Offsets) → slice_get (near m xs) i ≡ Some o → m ≤ o.start
begins_after (row_item r ∷ xs) m (suc i) o e = omega (arith, begins_after xs _ i o e)
begins_after (end_item gap marker ∷ xs) m i o e = omega (arith, begins_after xs _ i o e)
begins_after xs m i o e = search (rules, arith, same_Some)

-- the rows before one that begins in front of an offset are among the items in front of it
rows_before_offset : (xs : List Item) (m n i : ℕ) (o : declared.Offsets) → slice_get (near m xs) i ≡ Some o → o.start < m + n → i ≤ length (rows_in_items (before_offset n xs))
rows_before_offset [] m n i o e less = absurd (cc)
rows_before_offset (row_item r ∷ xs) m n zero o e less = omega arith
rows_before_offset (row_item r ∷ xs) m n (suc i) o e less = go (ltb own n) refl (rows_before_offset xs (m + own) (n - own) i o e)
  where
    own : ℕ
    own = length (item_text (row_item r))

    go : (b : Bool) → ltb own n ≡ b → (o.start < (m + own) + (n - own) → i ≤ length (rows_in_items (before_offset (n - own) xs))) → suc i ≤ length (rows_in_items (cond b (row_item r ∷ before_offset (n - own) xs) []))
    go b h1 h2 = search (rules, ltb-false, begins_after)
rows_before_offset (end_item gap marker ∷ xs) m n i o e less = go (ltb own n) refl (rows_before_offset xs (m + own) (n - own) i o e)
  where
    own : ℕ
    own = length (item_text (end_item gap marker))

    go : (b : Bool) → ltb own n ≡ b → (o.start < (m + own) + (n - own) → i ≤ length (rows_in_items (before_offset (n - own) xs))) → i ≤ length (rows_in_items (cond b (end_item gap marker ∷ before_offset (n - own) xs) []))
    go b h1 h2 = search (rules, ltb-false, begins_after)

rows_joined : (xs ys : List Item) → rows_in_items (xs ++ ys) ≡ rows_in_items xs ++ rows_in_items ys
rows_joined [] ys = refl
rows_joined (row_item r ∷ xs) ys = ap (λ (l : List Slices). slices r ∷ l) (rows_joined xs ys)
rows_joined (end_item gap marker ∷ xs) ys = rows_joined xs ys

-- the first rows of a cut whose items begin with others
first_rows : (c : Cut) (front rest : List Item) (i : ℕ) → items_of_cut c ≡ front ++ rest → i ≤ length (rows_in_items front) → take i (rows_view c).rows ≡ take i (rows_in_items front)
first_rows c front rest i are within = cc (items_view_is c, rows_joined front rest, take-append-le i (rows_in_items front) (rows_in_items rest) within)

-- where a row begins
none_before : (i : ℕ) → 0 + i ≡ i
none_before i = omega arith

begins_at : (xs : List Item) (i : ℕ) → 0 + (sum_by row_length (take i (rows_in_items xs)) + sum_by (passed_length (0 + i)) (bounds_in_items 0 xs)) ≡ row_start i (view_of_items xs)
begins_at xs i = omega (arith, ap (λ (j : ℕ). sum_by (passed_length j) (bounds_in_items 0 xs)) (none_before i))

-- the rows before one that begins in front of an offset stay
pub rows_stay : (c : Cut) (i front : ℕ) → i < length (rows_view c).rows → row_start i (rows_view c) < front → (new : Cut) (back : ℕ) → TouchesOnly front back c new →
    take i (rows_view new).rows ≡ take i (rows_view c).rows
rows_stay c i front within before new back touched =
    let r = one_there (rows_view c).rows i within in
    let there : slice_get (rows_in_items (items_of_cut c)) i ≡ Some r.0 = ap (λ (x : RowsView). slice_get x.rows i) (items_view_is c) ∙ r.1 in
    let n = near_at (items_of_cut c) 0 0 i r.0 there in
    let start : 0 + (sum_by row_length (take i (rows_in_items (items_of_cut c))) + sum_by (passed_length (0 + i))
    (bounds_in_items 0 (items_of_cut c))) ≡ row_start i (rows_view c) = begins_at (items_of_cut c) i ∙ ap (row_start i) (items_view_is c) in
    let first : i ≤ length (rows_in_items (before_offset front (items_of_cut c))) = rows_before_offset (items_of_cut c) 0 front i _ n (omega (arith, before, start)) in
    first_rows new (before_offset front (items_of_cut c)) _ i touched.new_are first ∙ sym (first_rows c (before_offset front (items_of_cut c)) _ i touched.old_are first)

pub stays_known : (c : Cut) (k : KnownItem) (front : ℕ) → IsKnown (rows_view c).rows k → k.row < length (rows_view c).rows → row_start k.row (rows_view c) < front → StaysKnown front c k
stays_known c k front known within before new back touched = subst (λ (ss : List Slices). ArePassed ss k) (sym (rows_stay c k.row front within before new back touched)) known

pub view_stays : (s : RowsView) (k : KnownItem) (front : ℕ) → IsKnown s.rows k → k.row < length s.rows → row_start k.row s < front → (c : Cut) → s ≡ rows_view c → StaysKnown front c k
view_stays s k front known within before c is =
    stays_known c k front (subst (λ (x : RowsView). IsKnown x.rows k) is known) (subst (λ (x : RowsView). k.row < length x.rows) is within) (subst (λ (x : RowsView). row_start k.row x < front) is before)

-- items, with one more if there is memory for it
pub all_put : {A : Type 0} (P : A → Type 0) (xs : List A) (x : A) (b : Bool) → All P xs → P x → All P (cond b (xs ++ (x ∷ [])) xs)
all_put P xs x true h g = All-push P xs x h g
all_put P xs x false h g = h
