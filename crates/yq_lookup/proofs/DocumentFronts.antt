-- Documents stay known in a text that keeps what is in front of their parts.
use Rattle.std.proofs.Common.{◌≡◌, ℕ, zero, suc, ◌+◌, ◌-◌, ◌<◌, ◌≤◌, eqb, cond, Bool, true, false, ◌&&◌, ◌||◌, not, List, [], ◌∷◌, ◌++◌}
use Rattle.std.proofs.Common.{length, take, Option, Some, None, refl, sym, ap, ◌∙◌, subst, arith, eqb-true, length-append}
use Rattle.std.{proofs.lemmas.Bool.{ne_eqb, false_from_ne_true, false≢true, lt-ltb}, proofs.Math.Bool.or-true}
use Rattle.std.{proofs.lemmas.List.take-append-le, proofs.lemmas.List.Sums.sum_by-cons, proofs.lemmas.Option.same_Some}
use Rattle.std.{specs.List.{slice_get, sum_by}, specs.Prelude.IfSome}
use Rattle.yq_row_table.specs.Grammar.{begins_document}
use Rattle.yq_row_table.specs.Items.{Item, row_item, end_item, items_of_cut, rows_items, rows_in_items, bounds_in_items, view_of_items}
use Rattle.yq_row_table.{specs.Offsets.row_length, specs.RowStarts.{bound_length, part_end, row_start}, specs.Rows.{Cut, Row, last, marked}}
use Rattle.yq_row_table.specs.Touched.{TouchesOnly, item_text, before_offset, in_back}
use Rattle.yq_row_table.{specs.View.{Bound, bounds_from, slices, RowsView, rows_view}, proofs.ItemLaws.items_view_is}
use Rattle.yq_row_table.proofs.SliceLaws.{print-length}
use Rattle.yq_documents.{specs.PartReading.{first_rows, number_in, some_begin}, proofs.PartNumberLaws.part_later}
use Rattle.yq_lookup.specs.KnownDocuments.{DocumentStays, FirstRowStays, IsKnownDocument, part_by_number}
use Rattle.yq_lookup.{proofs.KnownDocumentLaws.found_later, specs.declared.known_document.KnownDocument.KnownDocument}

-- ---- ends of parts in front

bound_least : (xs : List Item) (k i : ℕ) (b : Bound) → slice_get (bounds_in_items k xs) i ≡ Some b → k ≤ b.rows
bound_least [] k i b h = absurd (cc)
bound_least (row_item r ∷ xs) k i b h = omega (arith, bound_least xs (k + 1) i b h)
bound_least (end_item gap marker ∷ xs) k zero b h = omega (arith, ap (λ (x : Bound). x.rows) (same_Some _ _ h))
bound_least (end_item gap marker ∷ xs) k (suc i) b h = bound_least xs k i b h

-- where the marker after a part ends, among items before which so many rows are
abbrev stop_in : ℕ → ℕ → Bound → List Item → ℕ
stop_in k i b xs = sum_by row_length (take (b.rows - k) (rows_in_items xs)) + sum_by bound_length (take i (bounds_in_items k xs)) + (length b.end + length b.marker)

-- an item in front of an offset
item_before_offset : (x : Item) (xs : List Item) (n : ℕ) → length (item_text x) < n → before_offset n (x ∷ xs) ≡ x ∷ before_offset (n - length (item_text x)) xs
item_before_offset x xs n less = ap (λ (b : Bool). cond b (x ∷ before_offset (n - length (item_text x)) xs) []) (lt-ltb (length (item_text x)) n less)

ends_before_offset : (xs : List Item) (k n i : ℕ) (b : Bound) → slice_get (bounds_in_items k xs) i ≡ Some b → stop_in k i b xs < n → suc i ≤ length (bounds_in_items k (before_offset n xs))
ends_before_offset [] k n i b h less = absurd (cc)
ends_before_offset (row_item r ∷ xs) k n i b h less =
    let own = length (item_text (row_item r)) in
    let index : b.rows - k ≡ suc (b.rows - (k + 1)) = omega (arith, bound_least xs (k + 1) i b h) in
    let rows = ap (λ (j : ℕ). sum_by row_length (take j (slices r ∷ rows_in_items xs))) index in
    let first = sum_by-cons row_length (slices r) (take (b.rows - (k + 1)) (rows_in_items xs)) in
    let small : own < n = omega (arith, less, print-length r [], first, rows) in
    let rest : stop_in (k + 1) i b xs < n - own = omega (arith, less, print-length r [], first, rows) in
    omega (arith, ends_before_offset xs (k + 1) (n - own) i b h rest, ap (λ (l : List Item). length (bounds_in_items k l)) (item_before_offset (row_item r) xs n small))
ends_before_offset (end_item gap marker ∷ xs) k n zero b h less =
    let same = same_Some _ _ h in
    let own = ap (λ (x : Bound). length x.end + length x.marker) same in
    let small : length (item_text (end_item gap marker)) < n = omega (arith, less, own, length-append gap marker) in
    omega (arith, ap (λ (l : List Item). length (bounds_in_items k l)) (item_before_offset (end_item gap marker) xs n small))
ends_before_offset (end_item gap marker ∷ xs) k n (suc i) b h less =
    let own = length (item_text (end_item gap marker)) in
    let first = sum_by-cons bound_length (record { rows = k; end = gap; marker = marker }) (take i (bounds_in_items k xs)) in
    let small : own < n = omega (arith, less, first, length-append gap marker) in
    let rest : stop_in k i b xs < n - own = omega (arith, less, first, length-append gap marker) in
    omega (arith, ends_before_offset xs k (n - own) i b h rest, ap (λ (l : List Item). length (bounds_in_items k l)) (item_before_offset (end_item gap marker) xs n small))

-- ---- the first ends

bounds_joined : (xs ys : List Item) (n : ℕ) → bounds_in_items n (xs ++ ys) ≡ bounds_in_items n xs ++ bounds_in_items (n + length (rows_in_items xs)) ys
bounds_joined [] ys n = ap (λ (m : ℕ). bounds_in_items m ys) (omega arith)
bounds_joined (row_item r ∷ xs) ys n =
    let count : (n + 1) + length (rows_in_items xs) ≡ n + suc (length (rows_in_items xs)) = omega arith in
    bounds_joined xs ys (n + 1) ∙ ap (λ (m : ℕ). bounds_in_items (n + 1) xs ++ bounds_in_items m ys) count
bounds_joined (end_item gap marker ∷ xs) ys n = ap (λ (l : List Bound). record { rows = n; end = gap; marker = marker } ∷ l) (bounds_joined xs ys n)

-- those of a cut whose items begin with others
first_ends : (c : Cut) (front rest : List Item) (i : ℕ) → items_of_cut c ≡ front ++ rest → i ≤ length (bounds_in_items 0 front) → take i (rows_view c).bounds ≡ take i (bounds_in_items 0 front)
first_ends c front rest i are within =
    ap (λ (s : RowsView). take i s.bounds) (sym (items_view_is c))
    ∙ (ap (λ (xs : List Item). take i (bounds_in_items 0 xs)) are
    ∙ (ap (take i) (bounds_joined front rest 0) ∙ take-append-le i (bounds_in_items 0 front) (bounds_in_items (0 + length (rows_in_items front)) rest) within))

-- ---- the number of a part by the ends before it

-- what is found at once is a document, and no other is left before it
found_first : (is : Bool) (d j : ℕ) (bs : List Bound) → number_in is d j bs ≡ Some j → (is ≡ true) × (d ≡ 0)
found_first is d j [] e = absurd (cc)
found_first true zero j (b ∷ bs) e = (refl, refl)
found_first true (suc d) j (b ∷ bs) e = absurd (omega (arith, found_later (begins_document b.marker) d (j + 1) j bs e))
found_first false d j (b ∷ bs) e = absurd (omega (arith, found_later (begins_document b.marker) d (j + 1) j bs e))

not_first : (is : Bool) (d j k : ℕ) (b : Bound) (bs : List Bound) → number_in is d j (b ∷ bs) ≡ Some (j + suc k) → false ≡ (is && eqb d 0)
not_first true zero j k b bs e = absurd (omega (arith, same_Some _ _ e))
not_first true (suc d) j k b bs e = sym (false_from_ne_true (eqb (suc d) 0) (λ same. absurd (omega (arith, eqb-true (suc d) 0 same))))
not_first false d j k b bs e = refl

-- what is not found at once is found among the parts after
found_after : (is : Bool) (d j k : ℕ) (b : Bound) (bs : List Bound) → number_in is d j (b ∷ bs) ≡ Some (j + suc k) → number_in (begins_document b.marker) (cond is (d - 1) d) (j + 1) bs ≡ Some ((j + 1) + k)
found_after is d j k b bs e =
    let index : j + suc k ≡ (j + 1) + k = omega arith in
    sym (part_later is d j b (b ∷ bs) bs refl (not_first is d j k b bs e)) ∙ (e ∙ ap Some index)

-- then a marker before it begins a document
begins_before : (is : Bool) (d j k : ℕ) (bs : List Bound) → number_in is d j bs ≡ Some (j + suc k) → some_begin (take (suc k) bs) ≡ true
begins_before is d j k [] e = absurd (cc)
begins_before is d j zero (b ∷ bs) e =
    let index : (j + 1) + 0 ≡ j + 1 = omega arith in
    ap (λ (x : Bool). x || some_begin (take 0 bs)) (found_first (begins_document b.marker) (cond is (d - 1) d) (j + 1) bs (found_after is d j 0 b bs e ∙ ap Some index)).0
begins_before is d j (suc k) (b ∷ bs) e =
    ap (λ (x : Bool). begins_document b.marker || x) (begins_before (begins_document b.marker) (cond is (d - 1) d) (j + 1) k bs (found_after is d j (suc k) b bs e)) ∙ or-true (begins_document b.marker)

begins_in : (n : ℕ) (bs : List Bound) → some_begin (take n bs) ≡ true → some_begin bs ≡ true
begins_in zero bs h = absurd (false≢true h)
begins_in (suc n) [] h = absurd (false≢true h)
begins_in (suc n) (b ∷ bs) h = go (begins_document b.marker) (begins_in n bs) h
  where
    go : (x : Bool) → (some_begin (take n bs) ≡ true → some_begin bs ≡ true) → (x || some_begin (take n bs)) ≡ true → (x || some_begin bs) ≡ true
    go true more h = refl
    go false more h = more h

-- the last part has no marker
none_after : (d j k : ℕ) (bs : List Bound) → take k bs ≡ take k [] → number_in false d j bs ≡ Some (j + k) → ⊥
none_after d j k [] same e = absurd (cc)
none_after d j zero (b ∷ bs) same e =
    let index : j + 0 ≡ j = omega arith in
    false≢true (found_first false d j (b ∷ bs) (e ∙ ap Some index)).0
none_after d j (suc k) (b ∷ bs) same e = absurd (cc (same))

-- a part is found in a cut whose ends before it are the same
found_same : (is : Bool) (d j k n : ℕ) (bs : List Bound) (c : Cut) → take k bs ≡ take k (bounds_from n c) → number_in is d j bs ≡ Some (j + k) → number_in is d j (bounds_from n c) ≡ Some (j + k)
found_same is d j zero n bs c same e =
    let index : j + 0 ≡ j = omega arith in
    let f = found_first is d j bs (e ∙ ap Some index) in
    (λ i. number_in (f.0 i) (f.1 i) j (bounds_from n c)) ∙ (first_there c ∙ ap Some (sym index))
  where
    first_there : (x : Cut) → number_in true 0 j (bounds_from n x) ≡ Some j
    first_there (last p) = refl
    first_there (marked p marker x) = refl
found_same is d j (suc k) n [] c same e = absurd (cc)
found_same is d j (suc k) n (b ∷ bs) (last p) same e =
    let head : b ≡ record { rows = n + length p.rows; end = p.end; marker = [] } = cc (same) in
    let rest : take k bs ≡ take k [] = cc (same) in
    let later = found_after is d j k b bs e in
    absurd (none_after (cond is (d - 1) d) (j + 1) k bs rest (ap (λ (x : Bound). number_in (begins_document x.marker) (cond is (d - 1) d) (j + 1) bs) (sym head) ∙ later))
found_same is d j (suc k) n (b ∷ bs) (marked p marker c) same e =
    let head : b ≡ record { rows = n + length p.rows; end = p.end; marker = marker } = cc (same) in
    let rest : take k bs ≡ take k (bounds_from (n + length p.rows) c) = cc (same) in
    let index : (j + 1) + k ≡ j + suc k = omega arith in
    let later = found_same (begins_document b.marker) (cond is (d - 1) d) (j + 1) k (n + length p.rows) bs c rest (found_after is d j k b bs e) in
    ap (λ (x : Bound). number_in is d j (x ∷ bounds_from (n + length p.rows) c)) (sym head)
    ∙ (part_later is d j b (b ∷ bounds_from (n + length p.rows) c) (bounds_from (n + length p.rows) c) refl (not_first is d j k b bs e)
    ∙ (later ∙ ap Some index))

rows_first : (n : ℕ) (bs : List Bound) → first_rows (take (suc n) bs) ≡ first_rows bs
rows_first n [] = refl
rows_first n (b ∷ bs) = refl

number_stays : (bs : List Bound) (c : Cut) (d j : ℕ) → take (suc j) bs ≡ take (suc j) (bounds_from 0 c) → part_by_number d bs ≡ Some (suc j) → part_by_number d (bounds_from 0 c) ≡ Some (suc j)
number_stays bs c d j same e =
    let is = first_rows bs || not (some_begin bs) in
    let index : suc j ≡ 0 + suc j = omega arith in
    let begun = begins_before is d 0 j bs (e ∙ ap Some index) in
    let old = begins_in (suc j) bs begun in
    let new = begins_in (suc j) (bounds_from 0 c) (ap some_begin (sym same) ∙ begun) in
    let rows = sym (rows_first j (bounds_from 0 c)) ∙ (ap first_rows (sym same) ∙ rows_first j bs) in
    (λ i. number_in (rows i || not ((new ∙ sym old) i)) d 0 (bounds_from 0 c)) ∙ (found_same is d 0 (suc j) 0 bs c same (e ∙ ap Some index) ∙ ap Some (sym index))

-- ---- documents that are known

document_stays : (c : Cut) (k : KnownDocument) (front : ℕ) (b : Bound) → IsKnownDocument (rows_view c).bounds k → (k.part ≡ 0 → ⊥) →
    slice_get (rows_view c).bounds (k.part - 1) ≡ Some b → part_end (k.part - 1) b (rows_view c) + length b.marker < front → DocumentStays front c k
document_stays c k front b known some at less new back touched =
    let j : ℕ = k.part - 1 in
    let is : suc j ≡ k.part = omega (arith, some) in
    let there : slice_get (bounds_in_items 0 (items_of_cut c)) j ≡ Some b = ap (λ (s : RowsView). slice_get s.bounds j) (items_view_is c) ∙ at in
    let rows : b.rows - 0 ≡ b.rows = omega arith in
    let stop : stop_in 0 j b (items_of_cut c) ≡ part_end j b (view_of_items (items_of_cut c)) + length b.marker = omega (arith, ap (λ (m : ℕ). sum_by row_length (take m (rows_in_items (items_of_cut c)))) rows) in
    let before : stop_in 0 j b (items_of_cut c) < front = omega (arith, less, stop, ap (part_end j b) (items_view_is c)) in
    let within = ends_before_offset (items_of_cut c) 0 front j b there before in
    let front_items = before_offset front (items_of_cut c) in
    let same = first_ends c front_items _ (suc j) touched.old_are within ∙ sym (first_ends new front_items _ (suc j) touched.new_are within) in
    number_stays (rows_view c).bounds new k.doc j same (known ∙ ap Some (sym is)) ∙ ap Some is

pub view_document_stays : (s : RowsView) (k : KnownDocument) (front : ℕ) (b : Bound) → IsKnownDocument s.bounds k → (k.part ≡ 0 → ⊥) →
    slice_get s.bounds (k.part - 1) ≡ Some b → part_end (k.part - 1) b s + length b.marker < front → (c : Cut) → s ≡ rows_view c →
    DocumentStays front c k
view_document_stays s k front b known some at less c is =
    document_stays c k front b (subst (λ (x : RowsView). IsKnownDocument x.bounds k) is known) some
    (subst (λ (x : RowsView). slice_get x.bounds (k.part - 1) ≡ Some b) is at)
    (subst (λ (x : RowsView). part_end (k.part - 1) b x + length b.marker < front) is less)

-- ---- the first part, where a row of it is in front

first_is_row : (xs : List Item) (b : Bound) → slice_get (bounds_in_items 0 xs) 0 ≡ Some b → 0 < b.rows → (r : Row) × (ys : List Item) × (xs ≡ row_item r ∷ ys)
first_is_row [] b at some = absurd (cc)
first_is_row (row_item r ∷ ys) b at some = (r, ys, refl)
first_is_row (end_item gap marker ∷ ys) b at some = absurd (omega (arith, some, ap (λ (x : Bound). x.rows) (same_Some _ _ at)))

some_rows : (rs : List Row) (gap marker : List ℕ) (xs : List Item) (r : Row) (ys : List Item) → rows_items rs (end_item gap marker ∷ xs) ≡ row_item r ∷ ys → 0 < length rs
some_rows [] gap marker xs r ys e = absurd (cc (e))
some_rows (q ∷ rs) gap marker xs r ys e = omega arith

rows_there : (c : Cut) (r : Row) (ys : List Item) → items_of_cut c ≡ row_item r ∷ ys → first_rows (bounds_from 0 c) ≡ true
rows_there (last p) r ys e = ap not (ne_eqb (0 + length p.rows) 0 (λ same. omega (arith, same, some_rows p.rows p.end [] [] r ys e)))
rows_there (marked p marker c) r ys e = ap not (ne_eqb (0 + length p.rows) 0 (λ same. omega (arith, same, some_rows p.rows p.end marker (items_of_cut c) r ys e)))

first_row_stays : (c : Cut) (front : ℕ) (b : Bound) → slice_get (rows_view c).bounds 0 ≡ Some b → 0 < b.rows → sum_by row_length (take 1 (rows_view c).rows) < front → FirstRowStays front c
first_row_stays c front b at some less new back touched =
    let there : slice_get (bounds_in_items 0 (items_of_cut c)) 0 ≡ Some b = ap (λ (s : RowsView). slice_get s.bounds 0) (items_view_is c) ∙ at in
    let x = first_is_row (items_of_cut c) b there some in
    let rows : sum_by row_length (take 1 (rows_view c).rows) ≡ sum_by row_length (take 1 (slices x.0 ∷ rows_in_items x.1)) =
    sym (ap (λ (s : RowsView). sum_by row_length (take 1 s.rows)) (items_view_is c)) ∙ ap (λ (l : List Item). sum_by row_length (take 1 (rows_in_items l))) x.2 in
    let first = sum_by-cons row_length (slices x.0) (take 0 (rows_in_items x.1)) in
    let small : length (item_text (row_item x.0)) < front = omega (arith, less, rows, first, print-length x.0 []) in
    let begins : before_offset front (items_of_cut c) ≡ row_item x.0 ∷ before_offset (front - length (item_text (row_item x.0))) x.1 =
    ap (before_offset front) x.2 ∙ item_before_offset (row_item x.0) x.1 front small in
    rows_there new x.0 _ (touched.new_are ∙ ap (λ (l : List Item). l ++ (touched.written ++ in_back back (items_of_cut c))) begins)

pub view_first_stays : (s : RowsView) (front : ℕ) (b : Bound) → slice_get s.bounds 0 ≡ Some b → 0 < b.rows → row_start 1 s < front → (c : Cut) → s ≡ rows_view c → FirstRowStays front c
view_first_stays s front b at some less c is =
    let short : sum_by row_length (take 1 s.rows) < front = omega (arith, less) in
    first_row_stays c front b (subst (λ (x : RowsView). slice_get x.bounds 0 ≡ Some b) is at) some (subst (λ (x : RowsView). sum_by row_length (take 1 x.rows) < front) is short)

begins_there : (c : Cut) → number_in true 0 0 (bounds_from 0 c) ≡ Some 0
begins_there (last p) = refl
begins_there (marked p marker c) = refl

-- the first document stays known there
pub view_first_document : (s : RowsView) (k : KnownDocument) (front : ℕ) → IsKnownDocument s.bounds k → k.part ≡ 0 → (c : Cut) → s ≡ rows_view c → FirstRowStays front c → DocumentStays front c k
view_first_document s k front known is c same stays new back touched =
    let bs : List Bound = bounds_from 0 new in
    let f = found_first (first_rows s.bounds || not (some_begin s.bounds)) k.doc 0 s.bounds (known ∙ ap Some is) in
    let rows : first_rows bs ≡ true = stays new back touched in
    (λ i. number_in (rows i || not (some_begin bs)) (f.1 i) 0 bs) ∙ (begins_there new ∙ ap Some (sym is))

-- a document, if there is one, stays known in a text that keeps what is in front
pub one_stays : (front back : ℕ) (s : RowsView) (c new : Cut) (k : Option KnownDocument) → s ≡ rows_view c →
    IfSome k (λ x. (a : Cut) → s ≡ rows_view a → DocumentStays front a x) → TouchesOnly front back c new →
    IfSome k (IsKnownDocument (rows_view new).bounds)
one_stays front back s c new None is h touched = h
one_stays front back s c new (Some k) is h touched = h c is new back touched
