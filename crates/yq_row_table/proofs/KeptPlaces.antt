-- Rows and ends of parts by their index, where they are kept and in the halves of their text.
use Rattle.std.proofs.Common.{rules, ◌≡◌, ℕ, zero, suc, ⊎_elim, ◌-◌, ◌<◌, ◌≤◌, ◌^◌, List, [], ◌∷◌, ◌++◌, length, map, reverse, Some}
use Rattle.std.proofs.Common.{slice_get, refl, sym, ap, ◌∙◌, subst, arith, drop, length-append}
use Rattle.std.{proofs.lemmas.Bool.{cases_lt, le-ltb, lt-ltb}, proofs.lemmas.List.{length-map, map-id}}
use Rattle.std.proofs.lemmas.List.Elements.{All-get_or, All-nil}
use Rattle.std.{proofs.lemmas.Option.{get_or_from_slice_get, same_Some, slice_get-map, slice_get_within}, specs.List.All}
use Rattle.std.{specs.Option.option_map, specs.Str.IsCharBoundary}
use Rattle.yq_text.{specs.Halves.whole, specs.declared.halves.Halves.Halves}
use Rattle.yq_row_table.{specs.Ends.{EndIsLocated, bound_at, bound_in_half}, specs.Items.{Item, row_item, end_item, items_text}}
use Rattle.yq_row_table.specs.Kept.{HavePlaces, far, kept_rows, near, placed_rows, halves_view, slices_after, row_from_end}
use Rattle.yq_row_table.{specs.Offsets.{AreCuts, IsCutIn, offsets_of, slices_in}, specs.RowStarts.row_start, specs.View.{RowsView, Slices}}
use Rattle.yq_row_table.{specs.declared.ends.EndPlace.EndPlace, specs.declared.places.Places.Places}
use Rattle.yq_row_table.{proofs.HalfLaws.{InHalf, back_rows, front_rows, half_ends, have_view}, proofs.ItemLaws.items_text-append}
use Rattle.yq_row_table.{proofs.KeptLaws.{far_near, items_apart, near_joined, is_located_at}, proofs.NearLaws.{row_near, some_row}}
use Rattle.yq_row_table.proofs.SliceLaws.{print-length}
use Rattle.yq_row_table.specs.declared.offsets.Offsets as declared

-- the places of all rows in the whole text
placed_near : (text : Halves) (p : Places) → (h : HavePlaces text p) → placed_rows (length (whole text)) p ≡ near 0 (h.before ++ h.after)
placed_near text p h =
    let front = text.front.now in
    let last : map (row_from_end (length (whole text))) (reverse p.after.items) ≡ near (length front) h.after =
    ap (map (row_from_end (length (whole text)))) h.placed.after_are ∙ far_near h.after front (whole text) (ap (λ l. front ++ l) h.back_is) in
    search (rules, near_joined)

-- the row at an index, by its side
at_front : {A B : Type 0} (f g : A → B) (xs ys : List A) (i : ℕ) (a : A) → slice_get (xs ++ ys) i ≡ Some a → i < length xs → slice_get (map f xs ++ map g ys) i ≡ Some (f a)
at_front f g [] ys i a e less = absurd (omega (arith, less))
at_front f g (x ∷ xs) ys zero a e less = ap (option_map f) e
at_front f g (x ∷ xs) ys (suc i) a e less = at_front f g xs ys i a e (omega (arith, less))

at_back : {A B : Type 0} (f g : A → B) (xs ys : List A) (i : ℕ) (a : A) → slice_get (xs ++ ys) i ≡ Some a → length xs ≤ i → slice_get (map f xs ++ map g ys) i ≡ Some (g a)
at_back f g [] ys i a e more = slice_get-map g ys i ∙ ap (option_map g) e
at_back f g (x ∷ xs) ys zero a e more = absurd (omega (arith, more))
at_back f g (x ∷ xs) ys (suc i) a e more = at_back f g xs ys i a e (omega (arith, more))

sides_in : {A : Type 0} (xs ys : List A) (i : ℕ) (a : A) → slice_get (xs ++ ys) i ≡ Some a → i < length xs → slice_get xs i ≡ Some a
sides_in [] ys i a e less = absurd (omega (arith, less))
sides_in (x ∷ xs) ys zero a e less = e
sides_in (x ∷ xs) ys (suc i) a e less = sides_in xs ys i a e (omega (arith, less))

sides_out : {A : Type 0} (xs ys : List A) (i : ℕ) (a : A) → slice_get (xs ++ ys) i ≡ Some a → length xs ≤ i → (j : ℕ) × (slice_get ys j ≡ Some a)
sides_out [] ys i a e more = (i, e)
sides_out (x ∷ xs) ys zero a e more = absurd (omega (arith, more))
sides_out (x ∷ xs) ys (suc i) a e more = sides_out xs ys i a e (omega (arith, more))

-- the place of a row
row_place : (text : Halves) (p : Places) (i : ℕ) (q : declared.Offsets) (s : Slices) → HavePlaces text p →
    slice_get (halves_view text p).rows i ≡ Some s →
    slice_get (map (λ x. x) p.front.items ++ map (row_from_end (length (whole text))) (reverse p.after.items)) i ≡ Some q →
    q ≡ offsets_of (row_start i (halves_view text p)) s
row_place text p i q s h there own =
    let n = length (whole text) in
    let same = have_view text p h in
    let near_is : slice_get (placed_rows n p) i ≡ Some (offsets_of (row_start i (halves_view text p)) s) =
    ap (λ (l : List declared.Offsets). slice_get l i) (placed_near text p h)
    ∙ (row_near (h.before ++ h.after) i s (sym (ap (λ (v : RowsView). slice_get v.rows i) same) ∙ there) ∙ ap (λ (v : RowsView). Some (offsets_of (row_start i v) s)) (sym same)) in
    search (rules, map-id, same_Some)

place_front : (text : Halves) (p : Places) (i : ℕ) (o : declared.Offsets) (s : Slices) → HavePlaces text p →
    slice_get (halves_view text p).rows i ≡ Some s → slice_get (kept_rows p) i ≡ Some o → i < length p.front.items →
    o ≡ offsets_of (row_start i (halves_view text p)) s
place_front text p i o s h there kept less = row_place text p i o s h there (at_front (λ x. x) (row_from_end (length (whole text))) p.front.items (reverse p.after.items) i o kept less)

place_back : (text : Halves) (p : Places) (i : ℕ) (o : declared.Offsets) (s : Slices) → HavePlaces text p →
    slice_get (halves_view text p).rows i ≡ Some s → slice_get (kept_rows p) i ≡ Some o → length p.front.items ≤ i →
    row_from_end (length (whole text)) o ≡ offsets_of (row_start i (halves_view text p)) s
place_back text p i o s h there kept more = row_place text p i (row_from_end (length (whole text)) o) s h there (at_back (λ x. x) (row_from_end (length (whole text))) p.front.items (reverse p.after.items) i o kept more)

pub kept_lengths : (text : Halves) (p : Places) (i : ℕ) (o : declared.Offsets) (s : Slices) → HavePlaces text p → slice_get (halves_view text p).rows i ≡ Some s → slice_get (kept_rows p) i ≡ Some o → o ≡ offsets_of o.start s
kept_lengths text p i o s h there kept =
    ⊎_elim {0, 0, 0}
    (λ (less : i < length p.front.items). ap (λ (q : declared.Offsets). record q { start = o.start }) (place_front text p i o s h there kept less))
    (λ (more : length p.front.items ≤ i). ap (λ (q : declared.Offsets). record q { start = o.start }) (place_back text p i o s h there kept more))
    (cases_lt i (length p.front.items))

pub start_front : (text : Halves) (p : Places) (i : ℕ) (o : declared.Offsets) → HavePlaces text p → i < length (halves_view text p).rows →
    slice_get (kept_rows p) i ≡ Some o → i < length p.front.items → o.start ≡ row_start i (halves_view text p)
start_front text p i o h within kept less = let s = some_row (halves_view text p).rows i within in ap (λ (q : declared.Offsets). q.start) (place_front text p i o s.0 h s.1 kept less)

pub start_back : (text : Halves) (p : Places) (i : ℕ) (o : declared.Offsets) → HavePlaces text p → i < length (halves_view text p).rows →
    slice_get (kept_rows p) i ≡ Some o → length p.front.items ≤ i → length (whole text) - o.start ≡ row_start i (halves_view text p)
start_back text p i o h within kept more = let s = some_row (halves_view text p).rows i within in ap (λ (q : declared.Offsets). q.start) (place_back text p i o s.0 h s.1 kept more)

-- what is in each half
pub front_found : (text : Halves) (p : Places) (i : ℕ) (o : declared.Offsets) → HavePlaces text p → slice_get (kept_rows p) i ≡ Some o → i < length p.front.items → IsCutIn text.front.now o
front_found text p i o h kept less = is_located_at text.front.now p.front.items i o (front_rows text p h).1 (sides_in p.front.items (reverse p.after.items) i o kept less)

pub back_found : (text : Halves) (p : Places) (i : ℕ) (o : declared.Offsets) → HavePlaces text p → slice_get (kept_rows p) i ≡ Some o → length p.front.items ≤ i → IsCutIn text.back.now (row_from_end (length text.back.now) o)
back_found text p i o h kept more =
    let n = length text.back.now in
    let at = sides_out p.front.items (reverse p.after.items) i o kept more in
    is_located_at text.back.now (map (row_from_end n) (reverse p.after.items)) at.0 (row_from_end n o) (back_rows text p h).1 (slice_get-map (row_from_end n) (reverse p.after.items) at.0 ∙ ap (option_map (row_from_end n)) at.1)

far_within : (xs : List Item) (n : ℕ) → length (items_text xs []) ≤ n → All (λ o. o.start ≤ n) (far xs)
far_within [] n le = All-nil (λ o. o.start ≤ n)
far_within (row_item r ∷ xs) n le = search (rules, print-length, far_within xs n (omega (arith, le, print-length r (items_text xs []))))
far_within (end_item gap marker ∷ xs) n le = far_within xs n (omega (arith, le, length-append gap (marker ++ items_text xs []), length-append marker (items_text xs [])))

pub back_within : (text : Halves) (p : Places) (i : ℕ) (o : declared.Offsets) → HavePlaces text p → slice_get (kept_rows p) i ≡ Some o → length p.front.items ≤ i → o.start ≤ length text.back.now
back_within text p i o h kept more =
    let at = sides_out p.front.items (reverse p.after.items) i o kept more in
    let n = length text.back.now in
    let all : All (λ o. o.start ≤ n) (reverse p.after.items) = subst (All (λ o. o.start ≤ n)) (sym h.placed.after_are) (far_within h.after n (omega (arith, ap length h.back_is))) in
    search (rules, get_or_from_slice_get, slice_get_within)

pub row_front : (text : Halves) (p : Places) (i : ℕ) (o : declared.Offsets) → slice_get (kept_rows p) i ≡ Some o → i < length p.front.items → slice_get (halves_view text p).rows i ≡ Some (slices_in text.front.now o)
row_front text p i o kept less = at_front (slices_in text.front.now) (slices_after text.back.now) p.front.items (reverse p.after.items) i o kept less

pub row_back : (text : Halves) (p : Places) (i : ℕ) (o : declared.Offsets) → slice_get (kept_rows p) i ≡ Some o → length p.front.items ≤ i → slice_get (halves_view text p).rows i ≡ Some (slices_after text.back.now o)
row_back text p i o kept more = at_back (slices_in text.front.now) (slices_after text.back.now) p.front.items (reverse p.after.items) i o kept more

-- the end of a part at an index
pub end_at_index : (text : Halves) (p : Places) (i : ℕ) (e : EndPlace) → HavePlaces text p → slice_get p.ends i ≡ Some e → InHalf text e × (slice_get (halves_view text p).bounds i ≡ Some (bound_in_half text e))
end_at_index text p i e h at = (
  subst (InHalf text) (get_or_from_slice_get p.ends i e e at) (All-get_or (InHalf text) p.ends i e (slice_get_within p.ends i e at) (half_ends text p h).1),
  slice_get-map (bound_in_half text) p.ends i ∙ ap (option_map (bound_in_half text)) at,
)

-- such an end is among those that are kept
pub end_within : (text : Halves) (p : Places) (i : ℕ) (v : RowsView) → halves_view text p ≡ v → i < length v.bounds → i < length p.ends
end_within text p i v is less = omega (arith, less, ap (λ (w : RowsView). length w.bounds) is, length-map p.ends (bound_in_half text))

pub end_cuts : (t : List ℕ) (e : EndPlace) → EndIsLocated t e → IsCharBoundary t e.start × AreCuts (drop e.start t) (e.gap ∷ e.marker ∷ [])
unfolding EndIsLocated
end_cuts t e h = h

pub from_front : (text : Halves) (e : EndPlace) → e.start < length text.front.now → bound_in_half text e ≡ bound_at (drop e.start text.front.now) e
from_front text e less = rw (lt-ltb e.start (length text.front.now) less) refl

pub from_back : (text : Halves) (e : EndPlace) → length text.front.now ≤ e.start → bound_in_half text e ≡ bound_at (drop (e.start - length text.front.now) text.back.now) e
from_back text e more = rw (le-ltb e.start (length text.front.now) more) refl

pub halves_small : (text : Halves) (p : Places) → (h : HavePlaces text p) → length (whole text) < 2 ^ 32
halves_small text p h = search (rules, items_apart, items_text-append)
