-- Rows and ends of parts that are kept by their places alone, borrowed in their text again.
use Rattle.std.proofs.Common.{rules, ◌≡◌, ℕ, ◌+◌, ◌≤◌, List, [], ◌∷◌, ◌++◌, length, take, take_at, ◌<◌, ◌^◌, append-nil, refl, sym, ap, ◌∙◌}
use Rattle.std.{proofs.Common.{subst, arith}, proofs.lemmas.List.{append_cancel_left, length-take-le}}
use Rattle.std.proofs.lemmas.List.Elements.{All-head, All-map, All-tail, All-weaker}
use Rattle.std.{proofs.lemmas.Str.{IsCharBoundary-at_seam, IsUtf8-drop, IsUtf8-nil, IsUtf8-take}, specs.List.All}
use Rattle.std.specs.Str.{IsCharBoundary, IsUtf8}
use mathlib.Core.List.{head-eq_of_cons-eq, tail-eq_of_cons-eq}
use Rattle.yq_text.{specs.Halves.whole, specs.declared.halves.Halves.Halves}
use Rattle.yq_row_table.{specs.Ends.{EndIsLocated, EndsAreLocated, bound_in, bounds_in}, specs.Grammar.IsCut}
use Rattle.yq_row_table.specs.Items.{Item, row_item, end_item, items_of_cut, items_text, rows_in_items, bounds_in_items, view_of_items}
use Rattle.yq_row_table.specs.Kept.{HavePlaces, IsPlaced, TextsIn, ends_near, near, halves_view}
use Rattle.yq_row_table.{specs.Offsets.{AreTexts, AreRowsIn, IsCutIn, pieces_of, rows_in, slices_in}, specs.Rows.{Row, Cut, print_row}}
use Rattle.yq_row_table.{specs.View.{Bound, RowsView, rows_view, slices, slices_text}, specs.declared.ends.EndPlace.EndPlace}
use Rattle.yq_row_table.{specs.declared.places.Places.Places, proofs.HalfLaws.{have_view, texts_parts}}
use Rattle.yq_row_table.{proofs.ItemLaws.{items_of_text, items_view_is, items_text-append}, proofs.KeptLaws.{items_apart, items_texts}}
use Rattle.yq_row_table.{proofs.NearLaws.AreRead, proofs.ScanLaws.one_cut, proofs.SliceLaws.slices_are}
use Rattle.yq_row_table.specs.declared.offsets.Offsets as declared

-- what is in a text that is characters is characters
pub row_texts_in : (t : List ℕ) (o : declared.Offsets) → IsUtf8 t → IsCutIn t o → AreTexts (slices_in t o)
unfolding pieces_of
row_texts_in t o u h =
    let gap = IsUtf8-drop t o.start u h.0 in
    let indent = IsUtf8-drop _ o.gap gap h.1.0 in
    let dashes = IsUtf8-drop _ o.column indent h.1.1.0 in
    let key = IsUtf8-drop _ o.dashes dashes h.1.1.1.0 in
    let colon = IsUtf8-drop _ o.key key h.1.1.1.1.0 in
    let space = IsUtf8-drop _ o.colon colon h.1.1.1.1.1.0 in
    let anchor = IsUtf8-drop _ o.space space h.1.1.1.1.1.1.0 in
    let apart = IsUtf8-drop _ o.anchor anchor h.1.1.1.1.1.1.1.0 in
    let head = IsUtf8-drop _ o.apart apart h.1.1.1.1.1.1.1.1.0 in
    let tail = IsUtf8-drop _ o.head head h.1.1.1.1.1.1.1.1.1.0 in
    let raw = IsUtf8-drop _ o.tail tail h.1.1.1.1.1.1.1.1.1.1.0 in
    record {
      gap = IsUtf8-take _ o.gap gap h.1.0;
      dashes = IsUtf8-take _ o.dashes dashes h.1.1.1.0;
      key = IsUtf8-take _ o.key key h.1.1.1.1.0;
      colon = IsUtf8-take _ o.colon colon h.1.1.1.1.1.0;
      space = IsUtf8-take _ o.space space h.1.1.1.1.1.1.0;
      anchor = IsUtf8-take _ o.anchor anchor h.1.1.1.1.1.1.1.0;
      apart = IsUtf8-take _ o.apart apart h.1.1.1.1.1.1.1.1.0;
      head = IsUtf8-take _ o.head head h.1.1.1.1.1.1.1.1.1.0;
      tail = IsUtf8-take _ o.tail tail h.1.1.1.1.1.1.1.1.1.1.0;
      raw = IsUtf8-take _ o.raw raw h.1.1.1.1.1.1.1.1.1.1.1.0;
      parent = sym (rw (length-take-le o.dashes _ h.1.1.1.0.0, length-take-le o.colon _ h.1.1.1.1.1.0.0) refl);
    }

abbrev AreEndTexts : Bound → Type 0
AreEndTexts b = IsUtf8 b.end × IsUtf8 b.marker

end_texts_in : (t : List ℕ) (e : EndPlace) → IsUtf8 t → EndIsLocated t e → AreEndTexts (bound_in t e)
unfolding EndIsLocated
end_texts_in t e u h =
    let gap = IsUtf8-drop t e.start u h.0 in
    let marker = IsUtf8-drop _ e.gap gap h.1.0 in
    (IsUtf8-take _ e.gap gap h.1.0, IsUtf8-take _ e.marker marker h.1.1.0)

texts_by : (xs : List Item) (k : ℕ) → All AreTexts (rows_in_items xs) → All AreEndTexts (bounds_in_items k xs) → TextsIn xs
texts_by [] k rows ends = tt
texts_by (row_item r ∷ xs) k rows ends = (All-head AreTexts (slices r) (rows_in_items xs) rows, texts_by xs (k + 1) (All-tail AreTexts (slices r) (rows_in_items xs) rows) ends)
texts_by (end_item gap marker ∷ xs) k rows ends =
    let b : Bound = record { rows = k; end = gap; marker = marker } in
    let one = All-head AreEndTexts b (bounds_in_items k xs) ends in
    (one.0, one.1, texts_by xs k rows (All-tail AreEndTexts b (bounds_in_items k xs) ends))

pub texts_are_there : (t : List ℕ) (os : List declared.Offsets) (es : List EndPlace) (xs : List Item) → IsUtf8 t → AreRowsIn t os → EndsAreLocated t es → rows_in t os ≡ rows_in_items xs → bounds_in t es ≡ bounds_in_items 0 xs → TextsIn xs
texts_are_there t os es xs u rows ends first second =
    texts_by xs 0
    (subst (All AreTexts) first (All-map AreTexts (slices_in t) os (All-weaker (IsCutIn t) (λ o. AreTexts (slices_in t o)) (λ o h. row_texts_in t o u h) os rows)))
    (subst (All AreEndTexts) second (All-map AreEndTexts (bound_in t) es (All-weaker (EndIsLocated t) (λ o. AreEndTexts (bound_in t o)) (λ o h. end_texts_in t o u h) es ends)))

-- items that are borrowed alike have one text
later : (k : ℕ) (xs : List Item) (b : Bound) (bs : List Bound) → bounds_in_items k xs ≡ b ∷ bs → k ≤ b.rows
later k [] b bs e = absurd cc
later k (row_item r ∷ xs) b bs e = let more = later (k + 1) xs b bs e in omega (arith, more)
later k (end_item gap marker ∷ xs) b bs e = let same : record { rows = k; end = gap; marker = marker } ≡ b = cc in let count = ap (λ (x : Bound). x.rows) same in omega (arith, count)

-- Items that are alike in all that is kept and borrowed of them.
pub record SameItems (n k : ℕ) (rest : List ℕ) (xs ys : List Item) : Type 0 where
  pub text : items_text xs rest ≡ items_text ys rest
  pub near : near n xs ≡ near n ys
  pub ends : ends_near n k xs ≡ ends_near n k ys
  pub texts : TextsIn xs → TextsIn ys

row_alike : (r q : Row) (xs ys : List Item) (n k : ℕ) (rest : List ℕ) → slices r ≡ slices q → SameItems (n + length (print_row r [])) (k + 1) rest xs ys → SameItems n k rest (row_item r ∷ xs) (row_item q ∷ ys)
row_alike r q xs ys n k rest own more =
    let spelled : (t : List ℕ) → print_row r t ≡ print_row q t = λ t. sym (slices_are r t) ∙ (ap (λ s. slices_text s t) own ∙ slices_are q t) in
    search rules

end_alike : (gap marker g m : List ℕ) (xs ys : List Item) (n k : ℕ) (rest : List ℕ) → gap ≡ g → marker ≡ m → SameItems (n + length (gap ++ marker)) k rest xs ys → SameItems n k rest (end_item gap marker ∷ xs) (end_item g m ∷ ys)
end_alike gap marker g m xs ys n k rest first second more = search rules

no_cons : {A : Type 0} (x : A) (xs : List A) → [] ≡ x ∷ xs → ⊥
no_cons x xs h = cc

same_from : (xs ys : List Item) (n k : ℕ) (rest : List ℕ) → rows_in_items xs ≡ rows_in_items ys → bounds_in_items k xs ≡ bounds_in_items k ys → SameItems n k rest xs ys
same_from [] [] n k rest rows ends = record { text = refl; near = refl; ends = refl; texts = λ h. h }
same_from [] (row_item r ∷ ys) n k rest rows ends = absurd (no_cons _ _ rows)
same_from [] (end_item gap marker ∷ ys) n k rest rows ends = absurd (no_cons _ _ ends)
same_from (row_item r ∷ xs) [] n k rest rows ends = absurd (no_cons _ _ (sym rows))
same_from (end_item gap marker ∷ xs) [] n k rest rows ends = absurd (no_cons _ _ (sym ends))
same_from (row_item r ∷ xs) (row_item q ∷ ys) n k rest rows ends =
    let own : slices r ≡ slices q = head-eq_of_cons-eq rows in
    let after : rows_in_items xs ≡ rows_in_items ys = tail-eq_of_cons-eq rows in
    row_alike r q xs ys n k rest own (same_from xs ys (n + length (print_row r [])) (k + 1) rest after ends)
same_from (row_item r ∷ xs) (end_item gap marker ∷ ys) n k rest rows ends = absurd (let low = later (k + 1) xs (record { rows = k; end = gap; marker = marker }) (bounds_in_items k ys) ends in omega (arith, low))
same_from (end_item gap marker ∷ xs) (row_item r ∷ ys) n k rest rows ends = absurd (let low = later (k + 1) ys (record { rows = k; end = gap; marker = marker }) (bounds_in_items k xs) (sym ends) in omega (arith, low))
same_from (end_item gap marker ∷ xs) (end_item g m ∷ ys) n k rest rows ends =
    let b : Bound = record { rows = k; end = gap; marker = marker } in
    let d : Bound = record { rows = k; end = g; marker = m } in
    let after : bounds_in_items k xs ≡ bounds_in_items k ys = tail-eq_of_cons-eq ends in
    search (rules, end_alike, same_from xs ys (n + length (gap ++ marker)) k rest rows after)

pub same_view : (xs ys : List Item) (n : ℕ) (rest : List ℕ) → view_of_items xs ≡ view_of_items ys → SameItems n 0 rest xs ys
same_view xs ys n rest e = same_from xs ys n 0 rest (ap (λ (s : RowsView). s.rows) e) (ap (λ (s : RowsView). s.bounds) e)

-- the parts of a text by the length of the first one
append_parts : (a b x y : List ℕ) → length a ≡ length b → a ++ x ≡ b ++ y → (a ≡ b) × (x ≡ y)
append_parts a b x y long e =
    let first : a ≡ b = sym (take_at a x (length b) long) ∙ (ap (take (length b)) e ∙ take_at b y (length b) refl) in
    (first, append_cancel_left b x y (ap (λ l. l ++ x) (sym first) ∙ e))

-- places of a text's rows, and the two halves of it
placed_text : (t : List ℕ) (c : Cut) (p : Places) → IsCut t c → (h : IsPlaced p (rows_view c)) → t ≡ items_text h.before [] ++ items_text h.after []
placed_text t c p cut h =
    let sliced : view_of_items (items_of_cut c) ≡ view_of_items (h.before ++ h.after) = items_view_is c ∙ h.rows_view_is in
    cut.text ∙ (sym (items_of_text c) ∙ ((same_view (items_of_cut c) (h.before ++ h.after) 0 [] sliced).text ∙ (items_text-append h.before h.after [] ∙ items_apart h.before (items_text h.after []))))

pub have_places : (text : Halves) (c : Cut) (p : Places) → IsCut (whole text) c → length text.front.now ≡ p.split → IsPlaced p (rows_view c) → HavePlaces text p
have_places text c p cut long h =
    let halves = append_parts text.front.now (items_text h.before []) text.back.now (items_text h.after []) (long ∙ h.placed.split_is) (placed_text (whole text) c p cut h) in
    record { before = h.before; after = h.after; placed = h.placed; front_is = halves.0; back_is = halves.1 }

pub placed_view : (text : Halves) (c d : Cut) (p : Places) → IsCut (whole text) c → IsCut (whole text) d → length text.front.now ≡ p.split → IsPlaced p (rows_view c) → halves_view text p ≡ rows_view d
unfolding have_places
placed_view text c d p cut other long h = have_view text p (have_places text c p cut long h) ∙ (sym h.rows_view_is ∙ ap rows_view (one_cut (whole text) c d cut other))

-- and back
pub places_of : (text : Halves) (p : Places) (h : HavePlaces text p) → IsPlaced p (halves_view text p)
places_of text p h = record { before = h.before; after = h.after; placed = h.placed; rows_view_is = have_view text p h }

-- the split is between characters of the text
pub split_boundary : (t : List ℕ) (c : Cut) (p : Places) → IsCut t c → IsPlaced p (rows_view c) → IsCharBoundary t p.split
split_boundary t c p cut h =
    let back : IsUtf8 (items_text h.after []) = items_texts h.after [] (texts_parts h.before h.after h.placed.texts).1 IsUtf8-nil in
    subst (IsCharBoundary t) (sym h.placed.split_is) (IsCharBoundary-at_seam t (items_text h.before []) (items_text h.after []) (placed_text t c p cut h) back)

-- Rows and ends of parts as they are kept where a text was read; all are in front of the split.
pub record Scanned (t : List ℕ) (text : Halves) (p : Places) : Type 0 where
  pub read : AreRead t p.front.items p.ends (record { rows = rows_in t p.front.items; bounds = bounds_in t p.ends })
  pub front_is : text.front.now ≡ t
  pub back_is : text.back.now ≡ []
  pub none_following : p.after.items ≡ []
  pub split_is : p.split ≡ length t
  pub characters : IsUtf8 t
  pub rows_located : AreRowsIn t p.front.items
  pub ends_are_there : EndsAreLocated t p.ends
  pub small : length t < 2 ^ 32

pub scanned_places : (t : List ℕ) (text : Halves) (p : Places) → Scanned t text p → HavePlaces text p
scanned_places t text p h = search (rules, append-nil, texts_are_there)

pub scanned_view : (t : List ℕ) (text : Halves) (p : Places) → Scanned t text p → halves_view text p ≡ record { rows = rows_in t p.front.items; bounds = bounds_in t p.ends }
unfolding scanned_places
scanned_view t text p h = have_view text p (scanned_places t text p h) ∙ (ap view_of_items (append-nil h.read.items) ∙ sym h.read.rows_view_is)
