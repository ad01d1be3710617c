-- Distinct keys in another order, and in a sorted list.
use Rattle.std.proofs.Common.{rules, ◌≡◌, ◌≢◌, ℕ, ◌+◌, ◌<◌, ◌⊎◌, List, [], ◌∷◌, map, length, get_or, swap, Bool, false, IsPermutation}
use Rattle.std.proofs.Common.{IsSorted, Bor, Ordering, Less, Equal, nat_cmp, is_eq, is_lt, bytes_eq, inl, inr, refl, sym, ap, ◌∙◌, arith}
use Rattle.std.{proofs.lemmas.Bool.cases_eq, proofs.lemmas.Cmp.{on_total, then_total, nat_cmp_total, nat_list_cmp_total, tied_itself}}
use Rattle.std.{specs.Cmp.IsTotalOrder, proofs.lemmas.List.{get_or-map, length-map}}
use Rattle.std.proofs.lemmas.List.Edits.{Swapped, swapped_from_swap, length-swap}
use Rattle.std.proofs.lemmas.List.Sorted.{IsPermutation-keeps, IsPermutation-map, IsPermutation-sym}
use Rattle.std.{proofs.lemmas.Map.Keys.{sorted_from_all_adjacent, Less-from_sorted}, proofs.lemmas.Map.Text.is_eq-slice_cmp}
use Rattle.std.{proofs.lemmas.Slice.Eq.bytes_eq-Decides, specs.Cmp.Lexicographic.slice_cmp}
use Rattle.std.specs.Ordering.{ordering_reverse, ordering_then, on, then_cmp}
use Rattle.yq_core.specs.Keys.{AreDistinct, DiffersBefore}

abbrev pub Key : Type 0
Key = Bor (List ℕ)

abbrev pub texts : List Key → List (List ℕ)
texts ks = map (λ k. k.now) ks

-- the keys at i and j differ
abbrev pub DifferAt : List Key → ℕ → ℕ → Type 0
DifferAt ks i j = (d : Key) → bytes_eq (get_or ks i d).now (get_or ks j d).now ≡ false

apart : (a b : List ℕ) → bytes_eq a b ≡ false → a ≢ b
apart a b other e = let same = (bytes_eq-Decides a b).1 e in cc

tested : (a b : List ℕ) (t : Bool) → bytes_eq a b ≡ t → a ≢ b → t ≡ false
tested a b t e other = search (rules, bytes_eq-Decides)

pub AreDistinct-from_places : (ks : List Key) → ((i j : ℕ) → i < j → j < length ks → DifferAt ks i j) → AreDistinct (texts ks)
AreDistinct-from_places [] h i j d less within e = omega arith
AreDistinct-from_places (k ∷ ks) h i j d less within e =
    let all = k ∷ ks in
    let inside : j < length all = omega (arith, length-map all (λ (x : Key). x.now)) in
    apart _ _ (h i j less inside k) (sym (get_or-map (λ x. x.now) all i k d (omega arith)) ∙ e ∙ get_or-map (λ x. x.now) all j k d inside)

pub DifferAt-from_distinct : (ks : List Key) (i j : ℕ) → AreDistinct (texts ks) → i < j → j < length ks → DifferAt ks i j
DifferAt-from_distinct ks i j h less within d =
    let inside : j < length (texts ks) = omega (arith, length-map ks (λ (x : Key). x.now)) in
    tested (get_or ks i d).now (get_or ks j d).now _ refl (λ e. h i j [] less inside (get_or-map (λ x. x.now) ks i d [] (omega arith) ∙ e ∙ sym (get_or-map (λ x. x.now) ks j d [] within)))

-- Each key and those before it.

pub DiffersBefore-from_places : (ks : List Key) (j : ℕ) → j < length ks → ((i : ℕ) → i < j → DifferAt ks i j) → DiffersBefore (texts ks) j
DiffersBefore-from_places [] j within h i d less e = omega arith
DiffersBefore-from_places (k ∷ ks) j within h i d less e =
    let all = k ∷ ks in
    apart _ _ (h i less k) (sym (get_or-map (λ x. x.now) all i k d (omega arith)) ∙ e ∙ get_or-map (λ x. x.now) all j k d within)

pub DifferAt-from_before : (ks : List Key) (j i : ℕ) → DiffersBefore (texts ks) j → j < length ks → i < j → DifferAt ks i j
DifferAt-from_before ks j i h within less d =
    let inside : j < length (texts ks) = omega (arith, length-map ks (λ (x : Key). x.now)) in
    tested (get_or ks i d).now (get_or ks j d).now _ refl (λ e. h i [] less (get_or-map (λ x. x.now) ks i d [] (omega arith) ∙ e ∙ sym (get_or-map (λ x. x.now) ks j d [] within)))

pub AreDistinct-from_before : (ks : List Key) → ((j : ℕ) → j < length ks → DiffersBefore (texts ks) j) → AreDistinct (texts ks)
AreDistinct-from_before ks h i j d less within e = let inside : j < length ks = omega (arith, length-map ks (λ (x : Key). x.now)) in h j inside i d less e

pub DiffersBefore-from_distinct : (ks : List Key) (j : ℕ) → AreDistinct (texts ks) → j < length ks → DiffersBefore (texts ks) j
DiffersBefore-from_distinct ks j h within i d less e = let inside : j < length (texts ks) = omega (arith, length-map ks (λ (x : Key). x.now)) in h i j d less inside e

-- Another order.

either_way : (ks : List (List ℕ)) → AreDistinct ks → (i j : ℕ) (d : List ℕ) → i < length ks → j < length ks → get_or ks i d ≡ get_or ks j d → i ≡ j
either_way ks h i j d p q e = search rules

-- where a swap of a and b took the element at m from
abbrev From : ℕ → ℕ → ℕ → ℕ → Type 0
From a b m k = ((m ≡ a) × (k ≡ b)) ⊎ (((m ≡ b) × (k ≡ a)) ⊎ ((m ≢ a) × (m ≢ b) × (k ≡ m)))

origin : {X : Type 0} (f g : ℕ → X) (a b m : ℕ) → Swapped f g a b → (m ≡ a) ⊎ (m ≢ a) → (m ≡ b) ⊎ (m ≢ b) → (k : ℕ) × From a b m k × (g m ≡ f k)
origin f g a b m s (inl e) y = (b, inl (e, refl), ap g e ∙ s.0)
origin f g a b m s (inr n) (inl e) = (a, inr (inl (e, refl)), ap g e ∙ s.1)
origin f g a b m s (inr n) (inr o) = (m, inr (inr (n, o, refl)), s.2 m n o)

AreDistinct-swap : (ks : List (List ℕ)) (a b : ℕ) → a < length ks → b < length ks → AreDistinct ks → AreDistinct (swap ks a b)
AreDistinct-swap ks a b p q h i j d less within e =
    let len = length-swap ks a b in
    let s = swapped_from_swap ks (swap ks a b) a b d p q refl in
    let x = origin _ _ a b i s (cases_eq i a) (cases_eq i b) in
    search (rules, origin, cases_eq, either_way)

pub AreDistinct-permutation : (old new : List Key) → IsPermutation old new → AreDistinct (texts old) → AreDistinct (texts new)
AreDistinct-permutation old new moved h = IsPermutation-keeps (texts old) AreDistinct h AreDistinct-swap (texts new) (IsPermutation-map (λ k. k.now) old new moved)

pub AreDistinct-permutation_back : (old new : List Key) → IsPermutation old new → AreDistinct (texts new) → AreDistinct (texts old)
AreDistinct-permutation_back old new moved = AreDistinct-permutation new old (IsPermutation-sym old new moved)

-- A sorted list.

abbrev pub key_cmp : Key → Key → Ordering
key_cmp a b = slice_cmp nat_cmp a.now b.now

only_less : (o p : Ordering) → o ≡ ordering_reverse p → is_lt p ≡ false → is_eq o ≡ false → o ≡ Less
only_less o p e p3 q = search rules

-- the key at k is less than the next one
abbrev pub RisesAt : List Key → ℕ → Type 0
RisesAt ks k = (d : Key) → key_cmp (get_or ks k d) (get_or ks (k + 1) d) ≡ Less

-- Where neighbours rise, all pairs differ.
pub DifferAt-from_rising : (ks : List Key) → ((k : ℕ) → k + 1 < length ks → RisesAt ks k) → (i j : ℕ) → i < j → j < length ks → DifferAt ks i j
DifferAt-from_rising ks rises i j less within d =
    let total = on_total (λ (k : Key). k.now) nat_list_cmp_total in
    let below = Less-from_sorted key_cmp ks i j d (sorted_from_all_adjacent total ks d (λ k h. rises k h d)) less within in
    sym (is_eq-slice_cmp (get_or ks i d).now (get_or ks j d).now) ∙ ap is_eq below

-- Neighbours that are in order and differ rise.
pub DifferAt-from_sorted : (ks : List Key) → IsSorted key_cmp ks → ((k : ℕ) → k + 1 < length ks → DifferAt ks k (k + 1))
    → (i j : ℕ) → i < j → j < length ks → DifferAt ks i j
DifferAt-from_sorted ks sorted neighbours =
    let total = on_total (λ (k : Key). k.now) nat_list_cmp_total in
    DifferAt-from_rising ks (λ k h d. let x = get_or ks k d in let y = get_or ks (k + 1) d in
    only_less (key_cmp x y) (key_cmp y x) (total.antisymm x y) (sorted k d (omega arith) h) (is_eq-slice_cmp x.now y.now ∙ neighbours k h d))

-- how keys are in order that grow: a shorter one first, and of those as long the lesser one
abbrev pub grow_cmp : Key → Key → Ordering
grow_cmp = then_cmp (on (λ (k : Key). length k.now) nat_cmp) key_cmp

grow_total : IsTotalOrder grow_cmp
grow_total = then_total (on_total (λ (k : Key). length k.now) nat_cmp_total) (on_total (λ (k : Key). k.now) nat_list_cmp_total)

-- the same order of texts
abbrev text_cmp : List ℕ → List ℕ → Ordering
text_cmp a b = ordering_then (nat_cmp (length a) (length b)) (slice_cmp nat_cmp a b)

-- the key at k is before the next one
abbrev pub GrowsAt : List Key → ℕ → Type 0
GrowsAt ks k = (d : Key) → grow_cmp (get_or ks k d) (get_or ks (k + 1) d) ≡ Less

-- Where neighbours grow, all pairs differ.
pub DifferAt-from_growing : (ks : List Key) → ((k : ℕ) → k + 1 < length ks → GrowsAt ks k) → (i j : ℕ) → i < j → j < length ks → DifferAt ks i j
DifferAt-from_growing ks grows i j less within d =
    let x = get_or ks i d in
    let y = get_or ks j d in
    let below : grow_cmp x y ≡ Less = Less-from_sorted grow_cmp ks i j d (sorted_from_all_adjacent grow_total ks d (λ k h. grows k h d)) less within in
    let same : grow_cmp x x ≡ Equal = tied_itself grow_total x in
    tested x.now y.now _ refl (λ e. let tie : Less ≡ Equal = sym below ∙ (ap (text_cmp x.now) (sym e) ∙ same) in cc)
