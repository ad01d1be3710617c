-- Places of the items of a cut, by what is borrowed of them, and on both sides of a split.
use Rattle.std.proofs.Common.{◌≡◌, ℕ, ◌+◌, ◌<◌, ◌≤◌, ◌^◌, List, [], ◌∷◌, ◌++◌, length, map, reverse, refl, sym, ap, ◌∙◌, subst, arith}
use Rattle.std.{proofs.Common.rules, proofs.lemmas.List.{reverse-append, reverse-reverse}}
use Rattle.std.{proofs.lemmas.List.Elements.{All-head, All-nil, All-push, All-tail}, specs.List.All}
use Rattle.yq_row_table.{specs.Grammar.IsCut, specs.Items.{Item, row_item, end_item, items_of_cut, items_text, view_of_items}}
use Rattle.yq_row_table.specs.Kept.{ArePlaced, IsPlaced, far, near, ends_near, placed_rows, row_from_end, TextsIn}
use Rattle.yq_row_table.{specs.Offsets.offsets_of, specs.Rows.{Cut, print_row}, specs.View.{RowsView, rows_view, slices}}
use Rattle.yq_row_table.{specs.declared.places.Places.Places, proofs.ItemLaws.{items_of_text, items_view_is, items_text-append}}
use Rattle.yq_row_table.{proofs.KeptLaws.{far_near, items_apart, near_joined}, proofs.PlacedLaws.same_view, proofs.ScanLaws.one_cut}
use Rattle.yq_rows.{specs.Following.{ArePlacesOf, IsPlacedIn}, specs.Sides.{AreAt, first_byte, text_length}}
use Rattle.yq_rows.proofs.BeginLaws.{begin_within, first_long, joined_long, rows_begin}
use Rattle.yq_rows.proofs.SplitLaws.{Within, far_within, turned_twice}
use Rattle.yq_row_table.specs.declared.offsets.Offsets as declared

-- the text of items in front of a split and after it
pub text_split : (b z : List Item) → items_text (b ++ z) [] ≡ items_text b [] ++ items_text z []
text_split b z = items_text-append b z [] ∙ items_apart b (items_text z [])

pub placed_at : (p : Places) (b z : List Item) → ArePlaced p b z → AreAt p (b ++ z)
placed_at p b z h =
    let n = text_length (b ++ z) in
    let front : p.front.items ≡ near 0 b = h.front_are in
    let back : map (row_from_end n) (reverse p.after.items) ≡ near (text_length b) z = ap (map (row_from_end n)) h.after_are ∙ far_near z (items_text b []) (items_text (b ++ z) []) (text_split b z) in
    search (rules, near_joined, front, back)

pub places_are : (p : Places) (s : RowsView) (xs : List Item) → IsPlaced p s → s ≡ view_of_items xs → AreAt p xs
places_are p s xs h e =
    let same = same_view (h.before ++ h.after) xs 0 [] (sym h.rows_view_is ∙ e) in
    search (rules, placed_at, same)

pub cut_places : (p : Places) (c : Cut) → IsPlaced p (rows_view c) → AreAt p (items_of_cut c)
cut_places p c h = places_are p (rows_view c) (items_of_cut c) h (sym (items_view_is c))

pub cut_long : (t : List ℕ) (c : Cut) → IsCut t c → length t ≡ text_length (items_of_cut c)
cut_long t c h = ap length (h.text ∙ sym (items_of_text c))

-- ---- where rows are

all_reversed : (P : declared.Offsets → Type 0) (os : List declared.Offsets) → All P os → All P (reverse os)
all_reversed P [] h = All-nil P
all_reversed P (o ∷ os) h = subst (All P) (sym (reverse-append (o ∷ []) os)) (All-push P (reverse os) o (all_reversed P os (All-tail P o os h)) (All-head P o os h))

pub front_within : (p : Places) (b z : List Item) → ArePlaced p b z → All (Within (text_length (b ++ z))) p.front.items
front_within p b z h =
    let n = text_length (b ++ z) in
    subst (All (Within n)) (sym h.front_are) (rows_begin (λ s. s ≤ n) 0 b (begin_within n 0 b (omega (arith, joined_long b z))))

pub after_within : (p : Places) (b z : List Item) → ArePlaced p b z → All (Within (text_length (b ++ z))) p.after.items
after_within p b z h =
    let n = text_length (b ++ z) in
    subst (All (Within n)) (reverse-reverse p.after.items) (all_reversed (Within n) (reverse p.after.items) (subst (All (Within n)) (sym h.after_are) (far_within n z (omega (arith, joined_long b z)))))

-- ---- rows on both sides of a split, and the items there

-- Items of which so many bytes are in front, by the rows in front of a split and those after it, which are in a text of so many bytes.
record Divided (m n : ℕ) (front after : List declared.Offsets) (xs : List Item) : Type 0 where
  pub before : List Item
  pub later : List Item
  pub items : before ++ later ≡ xs
  pub front_are : front ≡ near m before
  pub after_are : map (row_from_end n) after ≡ near (m + text_length before) later
  pub first : first_byte n after ≡ m + text_length before

-- the firsts of two lists that are one, and what is after them
firsts : {A : Type 0} (x y : A) (xs ys : List A) → x ∷ xs ≡ y ∷ ys → x ≡ y
firsts x y xs ys e = cc

others : {A : Type 0} (x y : A) (xs ys : List A) → x ∷ xs ≡ y ∷ ys → xs ≡ ys
others x y xs ys e = cc

some_none : {A : Type 0} (x : A) (xs : List A) → x ∷ xs ≡ [] → ⊥
some_none x xs e = absurd cc

divided : (xs : List Item) (m n : ℕ) (front after : List declared.Offsets) → front ++ map (row_from_end n) after ≡ near m xs → m + text_length xs ≡ n → Divided m n front after xs
divided [] m n [] [] e long = record { before = []; later = []; items = refl; front_are = refl; after_are = refl; first = sym long }
divided [] m n [] (o ∷ os) e long = absurd (some_none _ _ e)
divided [] m n (f ∷ front) after e long = absurd (some_none _ _ e)
divided (end_item gap marker ∷ xs) m n front after e long =
    let own = length (gap ++ marker) in
    let d = divided xs (m + own) n front after e (omega (arith, long, first_long (end_item gap marker) xs)) in
    let size : (m + own) + text_length d.before ≡ m + text_length (end_item gap marker ∷ d.before) = omega (arith, first_long (end_item gap marker) d.before) in
    record { before = end_item gap marker ∷ d.before; later = d.later; items = ap (λ l. end_item gap marker ∷ l) d.items; front_are = d.front_are; after_are = d.after_are ∙ ap (λ (k : ℕ). near k d.later) size; first = d.first ∙ size }
divided (row_item r ∷ xs) m n [] [] e long = absurd (some_none _ _ (sym e))
divided (row_item r ∷ xs) m n [] (o ∷ os) e long =
    let first : row_from_end n o ≡ offsets_of m (slices r) = firsts _ _ _ _ e in
    let here : m ≡ m + text_length [] = omega arith in
    record { before = []; later = row_item r ∷ xs; items = refl; front_are = refl; after_are = e ∙ ap (λ (k : ℕ). near k (row_item r ∷ xs)) here; first = ap (λ (x : declared.Offsets). x.start) first ∙ here }
divided (row_item r ∷ xs) m n (f ∷ front) after e long =
    let own = length (print_row r []) in
    let first : f ≡ offsets_of m (slices r) = firsts _ _ _ _ e in
    let rest : front ++ map (row_from_end n) after ≡ near (m + own) xs = others _ _ _ _ e in
    let d = divided xs (m + own) n front after rest (omega (arith, long, first_long (row_item r) xs)) in
    let size : (m + own) + text_length d.before ≡ m + text_length (row_item r ∷ d.before) = omega (arith, first_long (row_item r) d.before) in
    record { before = row_item r ∷ d.before; later = d.later; items = ap (λ l. row_item r ∷ l) d.items; front_are = (λ i. first i ∷ d.front_are i); after_are = d.after_are ∙ ap (λ (k : ℕ). near k d.later) size; first = d.first ∙ size }

-- the items on both sides of a split
abbrev pub BothSides : Places → List Item → Type 0
BothSides p xs = (b : List Item) × (z : List Item) × (b ++ z ≡ xs) × ArePlaced p b z

pub settled : (p : Places) (xs : List Item) → AreAt p xs → All (Within (text_length xs)) p.after.items → p.split ≡ first_byte (text_length xs) (reverse p.after.items) → BothSides p xs
settled p xs h within split =
    let n = text_length xs in
    let d = divided xs 0 n p.front.items (reverse p.after.items) h.rows_are (omega arith) in
    let text : items_text xs [] ≡ items_text d.before [] ++ items_text d.later [] = ap (λ (l : List Item). items_text l []) (sym d.items) ∙ text_split d.before d.later in
    let size : text_length d.later ≤ n = omega (arith, ap text_length d.items, joined_long d.before d.later) in
    let begin : 0 + text_length d.before ≡ text_length d.before = omega arith in
    let turned_far : map (row_from_end n) (reverse p.after.items) ≡ map (row_from_end n) (far d.later) = d.after_are ∙ (ap (λ (k : ℕ). near k d.later) begin ∙ sym (far_near d.later (items_text d.before []) (items_text xs []) text)) in (
      d.before,
      d.later,
      d.items,
      record {
        split_is = split ∙ (d.first ∙ begin);
        front_are = d.front_are;
        after_are = sym (turned_twice n (reverse p.after.items) (all_reversed (Within n) p.after.items within)) ∙ (ap (map (row_from_end n)) turned_far ∙ turned_twice n (far d.later) (far_within n d.later size));
        ends_are = h.ends_are ∙ ap (λ l. ends_near 0 0 l) (sym d.items);
        texts = subst TextsIn (sym d.items) h.texts;
        small = subst (λ (l : List Item). text_length l < 2 ^ 32) (sym d.items) h.small;
      },
    )

-- ---- places of a text

pub placed_in : (t : List ℕ) (p : Places) (c : Cut) → IsCut t c → BothSides p (items_of_cut c) → IsPlacedIn t p
placed_in t p c cut s = record { cut = c; is_cut = cut; placed = record { before = s.0; after = s.1; placed = s.3; rows_view_is = sym (items_view_is c) ∙ ap view_of_items (sym s.2) } }

pub places_of : (t : List ℕ) (p : Places) → IsPlacedIn t p → ArePlacesOf t p
places_of t p h c cut = subst (λ (x : Cut). IsPlaced p (rows_view x)) (one_cut t h.cut c h.is_cut cut) h.placed

-- the same rows and ends of parts, on other sides of the split
pub still_at : (p q : Places) (xs : List Item) (len : ℕ) → len ≡ text_length xs → placed_rows len q ≡ placed_rows len p → q.ends ≡ p.ends → AreAt p xs → AreAt q xs
still_at p q xs len long rows ends h = search rules

-- ---- the split of a text

long_by : (t : List ℕ) (c : Cut) (p : Places) → IsCut t c → (h : IsPlaced p (rows_view c)) → text_length (h.before ++ h.after) ≡ length t
long_by t c p cut h =
    let same = same_view (items_of_cut c) (h.before ++ h.after) 0 [] (items_view_is c ∙ h.rows_view_is) in
    sym (cut_long t c cut ∙ ap length same.text)

-- where rows come before they are moved
pub front_in : (t : List ℕ) (p : Places) (n : ℕ) → n ≡ length t → IsPlacedIn t p → All (Within n) p.front.items
front_in t p n long h = subst (λ (m : ℕ). All (Within m) p.front.items) (long_by t h.cut p h.is_cut h.placed ∙ sym long) (front_within p h.placed.before h.placed.after h.placed.placed)

pub after_in : (t : List ℕ) (p : Places) (n : ℕ) → n ≡ length t → IsPlacedIn t p → All (Within n) p.after.items
after_in t p n long h = subst (λ (m : ℕ). All (Within m) p.after.items) (long_by t h.cut p h.is_cut h.placed ∙ sym long) (after_within p h.placed.before h.placed.after h.placed.placed)

-- and once they are
pub moved_sides : (t : List ℕ) (p q : Places) (n : ℕ) → n ≡ length t → (h : IsPlacedIn t p) → placed_rows n q ≡ placed_rows n p → q.ends ≡ p.ends →
    All (Within n) q.after.items → q.split ≡ first_byte n (reverse q.after.items) → BothSides q (items_of_cut h.cut)
moved_sides t p q n long h same ends within split =
    let xs = items_of_cut h.cut in
    let size : n ≡ text_length xs = long ∙ cut_long t h.cut h.is_cut in
    settled q xs (still_at p q xs n size same ends (cut_places p h.cut h.placed)) (subst (λ (m : ℕ). All (Within m) q.after.items) size within) (subst (λ (m : ℕ). q.split ≡ first_byte m (reverse q.after.items)) size split)
