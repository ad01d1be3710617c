-- Rows and ends of parts by where they are kept, borrowed on the two halves of their text.
use Rattle.std.proofs.Common.{◌≡◌, ℕ, ⊎_elim, ◌+◌, ◌-◌, ◌<◌, ◌≤◌, nat_lt, true, false, List, [], ◌∷◌, ◌++◌, length, map, reverse, refl, sym}
use Rattle.std.{proofs.Common.{ap, ◌∙◌, subst, arith, append-nil, length-append}, proofs.lemmas.Bool.{cases_lt, le-ltb, lt-ltb}}
use Rattle.std.{proofs.lemmas.Simd.map-map, proofs.lemmas.List.Elements.{All-cons, All-nil}, proofs.lemmas.Str.IsUtf8-nil, specs.List.All}
use Rattle.std.specs.Str.{IsUtf8}
use Rattle.yq_text.specs.declared.halves.Halves.{Halves}
use Rattle.yq_row_table.specs.Ends.{EndIsLocated, bound_in, bound_in_half, bounds_in_halves, end_at}
use Rattle.yq_row_table.specs.Items.{Item, row_item, end_item, items_text, rows_in_items, bounds_in_items, view_of_items}
use Rattle.yq_row_table.specs.Kept.{HavePlaces, TextsIn, ends_near, near, halves_view, slices_after, row_from_end}
use Rattle.yq_row_table.{specs.Offsets.{Ends, pieces_of, rows_in, slices_in}, specs.Rows.print_row, specs.View.{Bound, Slices, slices}}
use Rattle.yq_row_table.{specs.declared.ends.EndPlace.EndPlace, specs.declared.places.Places.Places}
use Rattle.yq_row_table.{proofs.EndPlaceLaws.{end_same, end_is_located}, proofs.FrontLaws.{front_drop, front_length}}
use Rattle.yq_row_table.proofs.KeptLaws.{KeptRows, end_apart, far_near, items_texts, near_kept, row_apart}
use Rattle.yq_row_table.specs.declared.offsets.Offsets as declared

-- one end of a part in a text
kept_end : (pre gap marker t : List ℕ) (k : ℕ) → IsUtf8 gap → IsUtf8 marker → IsUtf8 t →
    (bound_in (pre ++ (gap ++ (marker ++ t))) (end_at (length pre) k gap marker) ≡ record { rows = k; end = gap; marker = marker })
    × EndIsLocated (pre ++ (gap ++ (marker ++ t))) (end_at (length pre) k gap marker)
kept_end pre gap marker t k g m u =
    let own = gap ++ (marker ++ t) in
    let whole = pre ++ own in
    let at : length whole - length own ≡ length pre = front_length whole pre own refl in
    let ends : Ends own whole = front_drop whole pre own refl in (
      subst (λ (n : ℕ). bound_in whole (end_at n k gap marker) ≡ record { rows = k; end = gap; marker = marker }) at (end_same whole gap marker t k ends),
      subst (λ (n : ℕ). EndIsLocated whole (end_at n k gap marker)) at (end_is_located whole gap marker t k ends g m u),
    )

-- The end of a part is in the half in which it begins.
pub record InHalf (text : Halves) (e : EndPlace) : Type 0 where
  pub front : e.start < length text.front.now → EndIsLocated text.front.now e
  pub back : length text.front.now ≤ e.start → EndIsLocated text.back.now (record e { start = e.start - length text.front.now })

abbrev HalfEnd : Halves → EndPlace → Bound → Type 0
HalfEnd text e b = (bound_in_half text e ≡ b) × InHalf text e

abbrev HalfEnds : Halves → List EndPlace → List Bound → Type 0
HalfEnds text es bs = (bounds_in_halves text es ≡ bs) × All (InHalf text) es

abbrev EachEnd : Halves → List ℕ → ℕ → Type 0
EachEnd text side base = (pre gap marker t : List ℕ) (k : ℕ) → side ≡ pre ++ (gap ++ (marker ++ t)) → IsUtf8 gap → IsUtf8 marker → IsUtf8 t →
    HalfEnd text (end_at (base + length pre) k gap marker) (record { rows = k; end = gap; marker = marker })

each_end : (text : Halves) (side : List ℕ) (base : ℕ) → EachEnd text side base → (xs ys : List Item) (pre : List ℕ) (k : ℕ) → side ≡ pre ++ items_text xs [] → TextsIn xs →
    ((j : ℕ) → HalfEnds text (ends_near (base + length side) j ys) (bounds_in_items j ys)) → HalfEnds text (ends_near (base + length pre) k (xs ++ ys)) (bounds_in_items k (xs ++ ys))
each_end text side base each [] ys pre k e h rest = subst (λ (l : List ℕ). HalfEnds text (ends_near (base + length l) k ys) (bounds_in_items k ys)) (e ∙ append-nil pre) (rest k)
each_end text side base each (row_item r ∷ xs) ys pre k e h rest =
    let long : base + length (pre ++ print_row r []) ≡ (base + length pre) + length (print_row r []) = omega (arith, length-append pre (print_row r [])) in
    subst (λ (n : ℕ). HalfEnds text (ends_near n (k + 1) (xs ++ ys)) (bounds_in_items (k + 1) (xs ++ ys))) long
    (each_end text side base each xs ys (pre ++ print_row r []) (k + 1) (e ∙ row_apart pre r (items_text xs [])) h.1 rest)
each_end text side base each (end_item gap marker ∷ xs) ys pre k e h rest =
    let t = items_text xs [] in
    let b : Bound = record { rows = k; end = gap; marker = marker } in
    let one = each pre gap marker t k e h.0 h.1 (items_texts xs [] h.2 IsUtf8-nil) in
    let long : base + length (pre ++ (gap ++ marker)) ≡ (base + length pre) + length (gap ++ marker) = omega (arith, length-append pre (gap ++ marker)) in
    let more : HalfEnds text (ends_near ((base + length pre) + length (gap ++ marker)) k (xs ++ ys)) (bounds_in_items k (xs ++ ys)) =
    subst (λ (n : ℕ). HalfEnds text (ends_near n k (xs ++ ys)) (bounds_in_items k (xs ++ ys))) long
    (each_end text side base each xs ys (pre ++ (gap ++ marker)) k (e ∙ end_apart pre gap marker t) h.2 rest) in (
      ap (λ x. x ∷ bounds_in_halves text (ends_near ((base + length pre) + length (gap ++ marker)) k (xs ++ ys))) one.0 ∙ ap (λ l. b ∷ l) more.0,
      All-cons (InHalf text) (end_at (base + length pre) k gap marker) (ends_near ((base + length pre) + length (gap ++ marker)) k (xs ++ ys)) one.1 more.1,
    )

-- an end in the second half
following_end : (text : Halves) → EachEnd text text.back.now (length text.front.now)
following_end text pre gap marker t k e g m u =
    let n = length text.front.now in
    let one = kept_end pre gap marker t k g m u in
    let at : (n + length pre) - n ≡ length pre = omega arith in
    let not_less : nat_lt (n + length pre) n ≡ false = le-ltb (n + length pre) n (omega arith) in (
      rw (not_less, at, e) one.0,
      record { front = λ less. absurd (omega (arith, less)); back = λ more. rw (at, e) one.1 },
    )

-- an end in the first half; one that is empty may be at its end
none_of : (gap marker t : List ℕ) → length (gap ++ (marker ++ t)) ≡ 0 → (gap ≡ []) × (marker ≡ [])
none_of [] [] t e = (refl, refl)
none_of [] (b ∷ marker) t e = absurd (omega (arith, e))
none_of (b ∷ gap) marker t e = absurd (omega (arith, e))

end_empty : (text : Halves) (n k : ℕ) (gap marker : List ℕ) → n ≡ length text.front.now → IsUtf8 text.back.now → gap ≡ [] → marker ≡ [] → HalfEnd text (end_at n k gap marker) (record { rows = k; end = gap; marker = marker })
end_empty text n k gap marker size u first second =
    let none : n - length text.front.now ≡ 0 = omega (arith, size) in
    rw (first, second) (refl, record { front = λ less. absurd (omega (arith, less, size)); back = λ more. rw none (kept_end [] [] [] text.back.now k IsUtf8-nil IsUtf8-nil u).1 })

end_front : (text : Halves) → IsUtf8 text.back.now → EachEnd text text.front.now 0
end_front text v pre gap marker t k e g m u =
    let n = length text.front.now in
    let one = kept_end pre gap marker t k g m u in
    let zero_plus : 0 + length pre ≡ length pre = omega arith in
    let size : n ≡ length pre + length (gap ++ (marker ++ t)) = omega (arith, ap length e, length-append pre (gap ++ (marker ++ t))) in
    ⊎_elim {0, 0, 0}
    (λ (less : length pre < n).
    let is_less : nat_lt (length pre) n ≡ true = lt-ltb (length pre) n less in
    (rw (zero_plus, is_less, e) one.0, record { front = λ h. rw (zero_plus, e) one.1; back = λ more. absurd (omega (arith, less, more)) }))
    (λ (more : n ≤ length pre).
    let none = none_of gap marker t (omega (arith, size, more)) in
    end_empty text (0 + length pre) k gap marker (omega (arith, size, more)) v none.0 none.1)
    (cases_lt (length pre) n)

-- all ends, and the rows
pub texts_parts : (xs ys : List Item) → TextsIn (xs ++ ys) → TextsIn xs × TextsIn ys
texts_parts [] ys h = (tt, h)
texts_parts (row_item r ∷ xs) ys h = let more = texts_parts xs ys h.1 in ((h.0, more.0), more.1)
texts_parts (end_item gap marker ∷ xs) ys h = let more = texts_parts xs ys h.2 in ((h.0, h.1, more.0), more.1)

rows-append : (xs ys : List Item) → rows_in_items (xs ++ ys) ≡ rows_in_items xs ++ rows_in_items ys
rows-append [] ys = refl
rows-append (row_item r ∷ xs) ys = ap (λ l. slices r ∷ l) (rows-append xs ys)
rows-append (end_item gap marker ∷ xs) ys = rows-append xs ys

pub half_ends : (text : Halves) (p : Places) → (h : HavePlaces text p) → HalfEnds text p.ends (bounds_in_items 0 (h.before ++ h.after))
half_ends text p h =
    let texts = texts_parts h.before h.after h.placed.texts in
    let back_text : IsUtf8 text.back.now = subst IsUtf8 (sym h.back_is) (items_texts h.after [] texts.1 IsUtf8-nil) in
    let n = length text.front.now in
    let own : h.after ++ [] ≡ h.after = append-nil h.after in
    let last : (j : ℕ) → HalfEnds text (ends_near (n + 0) j h.after) (bounds_in_items j h.after) = λ j.
    subst (λ (l : List Item). HalfEnds text (ends_near (n + 0) j l) (bounds_in_items j l)) own
    (each_end text text.back.now n (following_end text) h.after [] [] j h.back_is texts.1 (λ i. (refl, All-nil (InHalf text)))) in
    let all = each_end text text.front.now 0 (end_front text back_text) h.before h.after [] 0 h.front_is texts.0
    (λ j. subst (λ (m : ℕ). HalfEnds text (ends_near m j h.after) (bounds_in_items j h.after)) (omega arith) (last j)) in
    subst (λ (es : List EndPlace). HalfEnds text es (bounds_in_items 0 (h.before ++ h.after))) (sym h.placed.ends_are) all

pub front_rows : (text : Halves) (p : Places) → (h : HavePlaces text p) → KeptRows text.front.now p.front.items (rows_in_items h.before)
front_rows text p h =
    let texts = texts_parts h.before h.after h.placed.texts in
    rw (h.front_is, h.placed.front_are) (near_kept h.before [] [] texts.0 IsUtf8-nil)

pub back_rows : (text : Halves) (p : Places) → (h : HavePlaces text p) → KeptRows text.back.now (map (row_from_end (length text.back.now)) (reverse p.after.items)) (rows_in_items h.after)
back_rows text p h =
    let texts = texts_parts h.before h.after h.placed.texts in
    let near_is : map (row_from_end (length text.back.now)) (reverse p.after.items) ≡ near 0 h.after = ap (map (row_from_end (length text.back.now))) h.placed.after_are ∙ far_near h.after [] text.back.now h.back_is in
    rw (near_is, h.back_is) (near_kept h.after [] [] texts.1 IsUtf8-nil)

turned_rows : (back : List ℕ) (os : List declared.Offsets) → map (slices_after back) os ≡ rows_in back (map (row_from_end (length back)) os)
unfolding pieces_of
turned_rows back os = sym (map-map (slices_in back) (row_from_end (length back)) os)

pub have_view : (text : Halves) (p : Places) → (h : HavePlaces text p) → halves_view text p ≡ view_of_items (h.before ++ h.after)
have_view text p h =
    let back = text.back.now in
    let rows : rows_in text.front.now p.front.items ++ map (slices_after back) (reverse p.after.items) ≡ rows_in_items (h.before ++ h.after) =
    ap (λ (l : List Slices). l ++ map (slices_after back) (reverse p.after.items)) (front_rows text p h).0
    ∙ (ap (λ (l : List Slices). rows_in_items h.before ++ l) (turned_rows back (reverse p.after.items) ∙ (back_rows text p h).0) ∙ sym (rows-append h.before h.after)) in
    ap (λ (l : List Slices). record { rows = l; bounds = bounds_in_halves text p.ends }) rows
    ∙ ap (λ (l : List Bound). record { rows = rows_in_items (h.before ++ h.after); bounds = l }) (half_ends text p h).0
