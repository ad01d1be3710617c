-- What is in front of the items that a change touches, by the places that are kept.
use Rattle.std.proofs.Common.{◌≡◌, ◌⊎◌, inl, inr, ⊎_elim, le-ltb, lt-ltb, ℕ, zero, suc, ◌+◌, ◌-◌, ◌<◌, ◌≤◌, List, [], ◌∷◌, ◌++◌, length}
use Rattle.std.proofs.Common.{map, reverse, get_or, refl, sym, ap, ◌∙◌, subst, arith, append_assoc, append-nil, length-append, take}
use Rattle.std.{proofs.Common.{take_at, rules}, specs.List.Sorted.{IsNonDecreasingBy, IsPartitionPoint}}
use Rattle.std.{proofs.lemmas.List.{get_or_append_left, get_or_at}, proofs.lemmas.Option.{get_or_from_slice_get, slice_get-get_or}}
use Rattle.std.specs.Prelude.{Some, slice_get}
use Rattle.yq_row_table.{specs.Ends.end_at, specs.Items.{Item, row_item, end_item}, specs.Kept.{near, ends_near, row_from_end}}
use Rattle.yq_row_table.{specs.Offsets.offsets_of, specs.Rows.Row, specs.Touched.{before_offset, item_text}, specs.View.slices}
use Rattle.yq_row_table.{specs.declared.ends.EndPlace.EndPlace, specs.declared.places.Places.Places, proofs.KeptLaws.near_joined}
use Rattle.yq_row_table.proofs.RestSlicing.{starts_rise}
use Rattle.yq_rows.{specs.Sides.{AreAt, IsSplitAt, LastBefore, ends_before, side_of, text_length}, specs.declared.sides.Side.Side}
use Rattle.yq_rows.proofs.BeginLaws.{FrontFound, begin_where, ends_begin, front_found, rows_begin}
use Rattle.yq_rows.{proofs.CountLaws.{ends_joined, ends_rows}, proofs.SplitLaws.{ends_counted, first_turned, one_split}}
use Rattle.yq_row_table.specs.declared.offsets.Offsets as declared

-- Items in front, and one more, by the rows in front of the gap and the ends of parts that begin in front of an offset.
pub record FrontKept (front : List Item) (first : Item) (rows : List declared.Offsets) (ends : List EndPlace) (count : ℕ) : Type 0 where
  pub rows_are : rows ≡ near 0 (front ++ (first ∷ []))
  pub rest : List EndPlace
  pub ends_are : ends ≡ ends_near 0 0 (front ++ (first ∷ [])) ++ rest
  pub count_is : count ≡ length (ends_near 0 0 (front ++ (first ∷ [])))

pub front_kept : (p : Places) (xs : List Item) (at : ℕ) → AreAt p xs → IsSplitAt at (text_length xs) p → (h : FrontFound 0 at xs) → FrontKept h.front h.first p.front.items p.ends (ends_before at p.ends)
front_kept p xs at placed gap h =
    let f : List Item = h.front ++ (h.first ∷ []) in
    let m : ℕ = 0 + text_length f in
    let k : ℕ = 0 + length (near 0 f) in
    let low : (s : ℕ) → s < 0 + at → s < at = λ s l. omega (arith, l) in
    let high : (s : ℕ) → 0 + at ≤ s → at ≤ s = λ s l. omega (arith, l) in
    let begun = begin_where (λ s. s < 0 + at) (λ s. s < at) low 0 f h.begun in
    let later = begin_where (λ s. 0 + at ≤ s) (λ s. at ≤ s) high m h.rest h.later in
    let rows = placed.rows_are ∙ (ap (near 0) h.split ∙ near_joined 0 f h.rest) in
    let ends = placed.ends_are ∙ (ap (ends_near 0 0) h.split ∙ ends_joined 0 0 f h.rest) in
    record {
      rows_are = one_split (λ o. o.start < at) (λ o. at ≤ o.start) (λ o a b. omega (arith, a, b)) p.front.items
          (map (row_from_end (text_length xs)) (reverse p.after.items)) (near 0 f) (near m h.rest) rows gap.0
          (first_turned at (text_length xs) p.after.items gap.1)
          (rows_begin (λ s. s < at) 0 f begun) (rows_begin (λ s. at ≤ s) m h.rest later);
      rest = ends_near m k h.rest;
      ends_are = ends;
      count_is = ap (ends_before at) ends ∙ ends_counted at (ends_near 0 0 f) (ends_near m k h.rest) (ends_begin (λ s. s < at) 0 0 f begun) (ends_begin (λ s. at ≤ s) m k h.rest later);
    }

-- by what the last one is
pub rows_row : (front : List Item) (r : Row) → near 0 (front ++ (row_item r ∷ [])) ≡ near 0 front ++ offsets_of (text_length front) (slices r) ∷ []
rows_row front r = near_joined 0 front (row_item r ∷ []) ∙ ap (λ (n : ℕ). near 0 front ++ offsets_of n (slices r) ∷ []) (let n : 0 + text_length front ≡ text_length front = omega arith in n)

pub ends_row : (front : List Item) (r : Row) → ends_near 0 0 (front ++ (row_item r ∷ [])) ≡ ends_near 0 0 front
ends_row front r = ends_joined 0 0 front (row_item r ∷ []) ∙ append-nil (ends_near 0 0 front)

pub rows_end : (front : List Item) (gap marker : List ℕ) → near 0 (front ++ (end_item gap marker ∷ [])) ≡ near 0 front
rows_end front gap marker = near_joined 0 front (end_item gap marker ∷ []) ∙ append-nil (near 0 front)

pub ends_end : (front : List Item) (gap marker : List ℕ) → ends_near 0 0 (front ++ (end_item gap marker ∷ [])) ≡ ends_near 0 0 front ++ end_at (text_length front) (length (near 0 front)) gap marker ∷ []
ends_end front gap marker = search (rules, ends_joined)

pub sides_same : (a b c : ℕ) (s : Side) → a ≡ s.rows → b ≡ s.ends → c ≡ s.bytes → record { rows = a; ends = b; bytes = c } ≡ s
sides_same a b c s p q r = λ i. record { rows = p i; ends = q i; bytes = r i }

-- the last end of a part that begins in front of an offset, where the last item there is a row
end_before_offset : (front : List Item) (rest es : List EndPlace) (e : EndPlace) (count : ℕ) → es ≡ ends_near 0 0 front ++ rest →
    count ≡ length (ends_near 0 0 front) → 0 < count → e ≡ get_or es (count - 1) e → e.rows ≤ length (near 0 front)
end_before_offset front rest es e count all is some own = search (rules, get_or_append_left, ends_rows)

-- where it is that end of a part
end_there : (front : List Item) (gap marker : List ℕ) (rest es : List EndPlace) (e : EndPlace) (count : ℕ) →
    es ≡ ends_near 0 0 (front ++ (end_item gap marker ∷ [])) ++ rest → count ≡ length (ends_near 0 0 (front ++ (end_item gap marker ∷ []))) →
    e ≡ get_or es (count - 1) e →
    (e ≡ end_at (text_length front) (length (near 0 front)) gap marker) × (count ≡ length (ends_near 0 0 front) + 1)
end_there front gap marker rest es e count all is own =
    let x = end_at (text_length front) (length (near 0 front)) gap marker in
    let long : count ≡ length (ends_near 0 0 front) + 1 = is ∙ (ap length (ends_end front gap marker) ∙ length-append (ends_near 0 0 front) (x ∷ [])) in
    let place : length (ends_near 0 0 front) ≡ count - 1 = omega (arith, long) in
    let list : es ≡ ends_near 0 0 front ++ x ∷ rest = all ∙ (ap (λ (l : List EndPlace). l ++ rest) (ends_end front gap marker) ∙ append_assoc (ends_near 0 0 front) (x ∷ []) rest) in
    (own ∙ (ap (λ (l : List EndPlace). get_or l (count - 1) e) list ∙ get_or_at (ends_near 0 0 front) x rest e (count - 1) place), long)

pub at_end : (front : List Item) (first : Item) (rows : List declared.Offsets) (es : List EndPlace) (e : EndPlace) (n count : ℕ) →
    FrontKept front first rows es count → n ≡ length rows → 0 < count → e ≡ get_or es (count - 1) e → n ≤ e.rows →
    record { rows = n; ends = count - 1; bytes = e.start } ≡ side_of front
at_end front (row_item r) rows es e n count h long some own high =
    let low = end_before_offset front h.rest es e count (h.ends_are ∙ ap (λ (l : List EndPlace). l ++ h.rest) (ends_row front r)) (h.count_is ∙ ap length (ends_row front r)) some own in
    absurd (omega (arith, low, high, long, ap length h.rows_are, ap length (rows_row front r), length-append (near 0 front) (offsets_of (text_length front) (slices r) ∷ [])))
at_end front (end_item gap marker) rows es e n count h long some own high =
    let there = end_there front gap marker h.rest es e count h.ends_are h.count_is own in
    sides_same n (count - 1) e.start (side_of front) (long ∙ (ap length h.rows_are ∙ ap length (rows_end front gap marker))) (omega (arith, there.1)) (ap (λ (x : EndPlace). x.start) there.0)

-- no end of a part comes after the last row there
abbrev pub NoEndAfter : ℕ → List EndPlace → ℕ → Type 0
NoEndAfter n es count = 0 < count → (e : EndPlace) × (e ≡ get_or es (count - 1) e) × (e.rows < n)

no_end : (front : List Item) (gap marker : List ℕ) (rows : List declared.Offsets) (es : List EndPlace) (n count : ℕ) → FrontKept front (end_item gap marker) rows es count → n ≡ length rows → NoEndAfter n es count → ⊥
no_end front gap marker rows es n count h long none = search (rules, ends_end, length-append, end_there, rows_end)

pub at_row : (front : List Item) (first : Item) (rows : List declared.Offsets) (es : List EndPlace) (o : declared.Offsets) (n count : ℕ) →
    FrontKept front first rows es count → n ≡ length rows → NoEndAfter n es count → o ≡ get_or rows (n - 1) o →
    record { rows = n - 1; ends = count; bytes = o.start } ≡ side_of front
at_row front (row_item r) rows es o n count h long none own = search (rules, rows_row, length-append, get_or_at, sides_same, ends_row, no_end)
at_row front (end_item gap marker) rows es o n count h long none own = absurd (no_end front gap marker rows es n count h long none)

-- nothing begins in front
pub at_none : (front : List Item) (first : Item) (rows : List declared.Offsets) (es : List EndPlace) (n count : ℕ) → FrontKept front first rows es count → n ≡ length rows → n ≡ 0 → NoEndAfter n es count → ⊥
at_none front (row_item r) rows es n count h long empty none = omega (arith, long, empty, ap length h.rows_are, ap length (rows_row front r), length-append (near 0 front) (offsets_of (text_length front) (slices r) ∷ []))
at_none front (end_item gap marker) rows es n count h long empty none = no_end front gap marker rows es n count h long none

-- ---- the three ways in which it is found

none_before : (rows : List declared.Offsets) → LastBefore 0 rows → length rows ≡ 0
none_before [] h = refl
none_before (o ∷ rows) h = absurd (omega (arith, h (get_or (o ∷ rows) (length (o ∷ rows) - 1) o) (slice_get-get_or (o ∷ rows) (length (o ∷ rows) - 1) o (omega arith))))

pub no_ends_before : (es : List EndPlace) → ends_before 0 es ≡ 0
no_ends_before [] = refl
no_ends_before (e ∷ es) = rw (le-ltb e.start 0 (omega arith)) refl

-- what binary search finds of ends of which none begins in front of the one before it
pub ends_found : (at : ℕ) (es : List EndPlace) (n : ℕ) → 0 < at → n ≤ length es → IsPartitionPoint (λ e. e.start ≤ at - 1) (λ e. at - 1 < e.start) es n → n ≡ ends_before at es
ends_found at [] zero some within h = refl
ends_found at [] (suc n) some within h = absurd (omega (arith, within))
ends_found at (e ∷ es) zero some within h = rw (le-ltb e.start at (omega (arith, some, h.1 0 e (omega arith) (omega arith)))) refl
ends_found at (e ∷ es) (suc n) some within h =
    rw (lt-ltb e.start at (omega (arith, some, h.0 0 e (omega arith) (omega arith))))
    (ap suc (ends_found at es n some (omega (arith, within)) (λ k d low less. h.0 (suc k) d (omega arith) (omega (arith, less)), λ k d low less. h.1 (suc k) d (omega (arith, low)) (omega (arith, less)))))

pub ends_counted_at : (p : Places) (xs : List Item) (n at : ℕ) → (IsNonDecreasingBy (λ e. e.start) p.ends → n ≡ ends_before at p.ends) → AreAt p xs → n ≡ ends_before at p.ends
ends_counted_at p xs n at h placed = h (subst (IsNonDecreasingBy (λ (e : EndPlace). e.start)) (sym placed.ends_are) (starts_rise xs 0 0))

pub own_end : (p : Places) (e : EndPlace) (i : ℕ) → slice_get p.ends i ≡ Some e → e ≡ get_or p.ends i e
own_end p e i at = sym (get_or_from_slice_get p.ends i e e at)

none_before_offset : (xs : List Item) → before_offset 0 xs ≡ []
none_before_offset [] = refl
none_before_offset (i ∷ xs) = rw (le-ltb (length (item_text i)) 0 (omega arith)) refl

abbrev Kept : Places → List Item → ℕ → Type 0
Kept p xs at = (front : List Item) × (first : Item) × (before_offset at xs ≡ front) × FrontKept front first p.front.items p.ends (ends_before at p.ends)

-- Either nothing begins in front of the offset, or there is a last item that does so.
abbrev Nothing : Places → List Item → ℕ → Type 0
Nothing p xs at = (length p.front.items ≡ 0) × (ends_before at p.ends ≡ 0) × (before_offset at xs ≡ [])

found : (p : Places) (xs : List Item) (at : ℕ) → AreAt p xs → IsSplitAt at (text_length xs) p → at ≤ text_length xs → Nothing p xs at ⊎ Kept p xs at
found p xs zero placed gap within = inl (none_before p.front.items gap.0, no_ends_before p.ends, none_before_offset xs)
found p xs (suc at) placed gap within =
    let h = front_found xs 0 (suc at) (omega arith) within in
    inr (h.front, h.first, h.is, front_kept p xs (suc at) placed gap h)

pub before_end : (p : Places) (xs : List Item) (at : ℕ) (e : EndPlace) (n count : ℕ) → AreAt p xs → IsSplitAt at (text_length xs) p → at ≤ text_length xs → n ≡ length p.front.items → count ≡ ends_before at p.ends → 0 < count →
    e ≡ get_or p.ends (count - 1) e → n ≤ e.rows → record { rows = n; ends = count - 1; bytes = e.start } ≡ side_of (before_offset at xs)
before_end p xs at e n count placed gap within long many some own high =
    ⊎_elim {0, 0, 0}
    (λ (no : Nothing p xs at). absurd (omega (arith, many, some, no.1)))
    (λ (k : Kept p xs at). at_end k.0 k.1 p.front.items p.ends e n count (subst (FrontKept k.0 k.1 p.front.items p.ends) (sym many) k.3) long some own high ∙ ap side_of (sym k.2))
    (found p xs at placed gap within)

pub before_row : (p : Places) (xs : List Item) (at : ℕ) (o : declared.Offsets) (n count : ℕ) → AreAt p xs → IsSplitAt at (text_length xs) p → at ≤ text_length xs → n ≡ length p.front.items → count ≡ ends_before at p.ends → 0 < n →
    NoEndAfter n p.ends count → o ≡ get_or p.front.items (n - 1) o → record { rows = n - 1; ends = count; bytes = o.start } ≡ side_of (before_offset at xs)
before_row p xs at o n count placed gap within long many some none own =
    ⊎_elim {0, 0, 0}
    (λ (no : Nothing p xs at). absurd (omega (arith, long, some, no.0)))
    (λ (k : Kept p xs at). at_row k.0 k.1 p.front.items p.ends o n count (subst (FrontKept k.0 k.1 p.front.items p.ends) (sym many) k.3) long none own ∙ ap side_of (sym k.2))
    (found p xs at placed gap within)

pub before_none : (p : Places) (xs : List Item) (at : ℕ) (n count : ℕ) → AreAt p xs → IsSplitAt at (text_length xs) p → at ≤ text_length xs → n ≡ length p.front.items → count ≡ ends_before at p.ends → n ≡ 0 →
    NoEndAfter n p.ends count → record { rows = 0; ends = 0; bytes = 0 } ≡ side_of (before_offset at xs)
before_none p xs at n count placed gap within long many empty none =
    ⊎_elim {0, 0, 0}
    (λ (no : Nothing p xs at). ap side_of (sym no.2))
    (λ (k : Kept p xs at). absurd (at_none k.0 k.1 p.front.items p.ends n count (subst (FrontKept k.0 k.1 p.front.items p.ends) (sym many) k.3) long empty none))
    (found p xs at placed gap within)

-- the rows that stay in front
pub front_taken : (p : Places) (xs : List Item) (at : ℕ) → AreAt p xs → IsSplitAt at (text_length xs) p → at ≤ text_length xs → take (length (near 0 (before_offset at xs))) p.front.items ≡ near 0 (before_offset at xs)
front_taken p xs at placed gap within =
    ⊎_elim {0, 0, 0}
    (λ (k : Nothing p xs at). ap (λ (l : List Item). take (length (near 0 l)) p.front.items) k.2 ∙ ap (near 0) (sym k.2))
    (λ (k : Kept p xs at). ap (λ (l : List Item). take (length (near 0 l)) p.front.items) k.2
    ∙ (ap (take (length (near 0 k.0))) (k.3.rows_are ∙ near_joined 0 k.0 (k.1 ∷ []))
    ∙ (take_at (near 0 k.0) (near (0 + text_length k.0) (k.1 ∷ [])) (length (near 0 k.0)) refl ∙ ap (near 0) (sym k.2))))
    (found p xs at placed gap within)
