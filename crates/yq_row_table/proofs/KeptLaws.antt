-- Rows kept by their distance from the beginning of a text, or from its end.
use Rattle.std.proofs.Common.{rules, ◌≡◌, ℕ, ◌+◌, ◌-◌, Some, List, [], ◌∷◌, ◌++◌, length, map, refl, sym, ap, ◌∙◌, subst, arith}
use Rattle.std.{proofs.Common.{append_assoc, length-append}, proofs.lemmas.Option.{get_or_from_slice_get, slice_get_within}}
use Rattle.std.{specs.List.slice_get, proofs.lemmas.List.Elements.{All-get_or, All-nil, All-cons}, proofs.lemmas.Str.IsUtf8-append}
use Rattle.std.specs.Str.{IsUtf8}
use Rattle.yq_row_table.{specs.Items.{Item, row_item, end_item, items_text, rows_in_items}, specs.Kept.{near, far, row_from_end, TextsIn}}
use Rattle.yq_row_table.{specs.Offsets.{Ends, IsCutIn, AreRowsIn, slices_in, rows_in, AreTexts, offsets_of}, specs.Rows.{Row, print_row}}
use Rattle.yq_row_table.{specs.View.{Slices, slices, slices_text}, proofs.FrontLaws.{front_drop, front_length}}
use Rattle.yq_row_table.proofs.OffsetLaws.{row_then, row_is_there, row_same, pieces_text, AreAll, pieces, texts}
use Rattle.yq_row_table.proofs.SliceLaws.{slices_are}
use Rattle.yq_row_table.specs.declared.offsets.Offsets as declared

-- texts of items
pieces_are : (ps : List (List ℕ)) (rest : List ℕ) → AreAll ps → IsUtf8 rest → IsUtf8 (pieces_text ps rest)
pieces_are [] rest h u = u
pieces_are (p ∷ ps) rest h u = IsUtf8-append p (pieces_text ps rest) h.0 (pieces_are ps rest h.1 u)

row_texts : (r : Row) (rest : List ℕ) → AreTexts (slices r) → IsUtf8 rest → IsUtf8 (print_row r rest)
row_texts r rest h u = subst IsUtf8 (slices_are r rest) (pieces_are (pieces (slices r)) rest (texts (slices r) h) u)

pub items_texts : (xs : List Item) (rest : List ℕ) → TextsIn xs → IsUtf8 rest → IsUtf8 (items_text xs rest)
items_texts [] rest h u = u
items_texts (row_item r ∷ xs) rest h u = row_texts r (items_text xs rest) h.0 (items_texts xs rest h.1 u)
items_texts (end_item gap marker ∷ xs) rest h u = IsUtf8-append gap (marker ++ items_text xs rest) h.0 (IsUtf8-append marker (items_text xs rest) h.1 (items_texts xs rest h.2 u))

pub print_then : (r : Row) (rest : List ℕ) → print_row r rest ≡ print_row r [] ++ rest
print_then r rest = sym (slices_are r rest) ∙ (row_then (slices r) rest ∙ ap (λ t. t ++ rest) (slices_are r []))

pub row_apart : (pre : List ℕ) (r : Row) (t : List ℕ) → pre ++ print_row r t ≡ (pre ++ print_row r []) ++ t
row_apart pre r t = ap (λ u. pre ++ u) (print_then r t) ∙ sym (append_assoc pre (print_row r []) t)

pub end_apart : (pre gap marker t : List ℕ) → pre ++ (gap ++ (marker ++ t)) ≡ (pre ++ (gap ++ marker)) ++ t
end_apart pre gap marker t = ap (λ u. pre ++ u) (sym (append_assoc gap marker t)) ∙ sym (append_assoc pre (gap ++ marker) t)

pub items_apart : (xs : List Item) (rest : List ℕ) → items_text xs rest ≡ items_text xs [] ++ rest
items_apart [] rest = refl
items_apart (row_item r ∷ xs) rest = ap (print_row r) (items_apart xs rest)
    ∙ (print_then r (items_text xs [] ++ rest)
    ∙ (sym (append_assoc (print_row r []) (items_text xs []) rest) ∙ ap (λ l. l ++ rest) (sym (print_then r (items_text xs [])))))
items_apart (end_item gap marker ∷ xs) rest = ap (λ l. gap ++ (marker ++ l)) (items_apart xs rest) ∙ (ap (λ l. gap ++ l) (sym (append_assoc marker (items_text xs []) rest)) ∙ sym (append_assoc gap (marker ++ items_text xs []) rest))

-- one row
abbrev KeptRow : List ℕ → declared.Offsets → Slices → Type 0
KeptRow whole o s = (slices_in whole o ≡ s) × IsCutIn whole o

kept_row : (pre : List ℕ) (r : Row) (t : List ℕ) → AreTexts (slices r) → IsUtf8 t → KeptRow (pre ++ print_row r t) (offsets_of (length pre) (slices r)) (slices r)
kept_row pre r t h u =
    let whole = pre ++ print_row r t in
    let at : length whole - length (print_row r t) ≡ length pre = front_length whole pre (print_row r t) refl in
    let ends : Ends (print_row r t) whole = front_drop whole pre (print_row r t) refl in
    let spelled : print_row r t ≡ slices_text (slices r) t = sym (slices_are r t) in
    let same = row_same whole (print_row r t) t (slices r) ends spelled h.parent in
    let is_located = row_is_there whole (print_row r t) t (slices r) ends (row_texts r t h u) spelled h in (
      subst (λ (n : ℕ). slices_in whole (offsets_of n (slices r)) ≡ slices r) at same,
      subst (λ (n : ℕ). IsCutIn whole (offsets_of n (slices r))) at is_located,
    )

-- Rows by their distance from the beginning: whatever comes after them.
abbrev pub KeptRows : List ℕ → List declared.Offsets → List Slices → Type 0
KeptRows whole os ss = (rows_in whole os ≡ ss) × AreRowsIn whole os

pub near_kept : (xs : List Item) (pre rest : List ℕ) → TextsIn xs → IsUtf8 rest → KeptRows (pre ++ items_text xs rest) (near (length pre) xs) (rows_in_items xs)
near_kept [] pre rest h u = (refl, All-nil (IsCutIn (pre ++ rest)))
near_kept (row_item r ∷ xs) pre rest h u =
    let t = items_text xs rest in
    let one = kept_row pre r t h.0 (items_texts xs rest h.1 u) in
    let long : length (pre ++ print_row r []) ≡ length pre + length (print_row r []) = length-append pre (print_row r []) in
    let more : KeptRows ((pre ++ print_row r []) ++ t) (near (length (pre ++ print_row r [])) xs) (rows_in_items xs) = near_kept xs (pre ++ print_row r []) rest h.1 u in
    let moved : KeptRows (pre ++ print_row r t) (near (length pre + length (print_row r [])) xs) (rows_in_items xs) =
    subst (λ (n : ℕ). KeptRows (pre ++ print_row r t) (near n xs) (rows_in_items xs)) long (subst (λ (w : List ℕ). KeptRows w (near (length (pre ++ print_row r [])) xs) (rows_in_items xs)) (sym (row_apart pre r t)) more) in (
      ap (λ s. s ∷ rows_in (pre ++ print_row r t) (near (length pre + length (print_row r [])) xs)) one.0 ∙ ap (λ l. slices r ∷ l) moved.0,
      All-cons (IsCutIn (pre ++ print_row r t)) (offsets_of (length pre) (slices r)) (near (length pre + length (print_row r [])) xs) one.1 moved.1,
    )
near_kept (end_item gap marker ∷ xs) pre rest h u =
    let t = items_text xs rest in
    let long : length (pre ++ (gap ++ marker)) ≡ length pre + length (gap ++ marker) = length-append pre (gap ++ marker) in
    let more = near_kept xs (pre ++ (gap ++ marker)) rest h.2 u in
    subst (λ (n : ℕ). KeptRows (pre ++ (gap ++ (marker ++ t))) (near n xs) (rows_in_items xs)) long (subst (λ (w : List ℕ). KeptRows w (near (length (pre ++ (gap ++ marker))) xs) (rows_in_items xs)) (sym (end_apart pre gap marker t)) more)

-- Rows by their distance from the end: whatever is in front of them.
pub far_near : (xs : List Item) (pre whole : List ℕ) → whole ≡ pre ++ items_text xs [] → map (row_from_end (length whole)) (far xs) ≡ near (length pre) xs
far_near [] pre whole e = refl
far_near (row_item r ∷ xs) pre whole e =
    let t = items_text xs [] in
    let size : length whole - length (print_row r t) ≡ length pre = front_length whole pre (print_row r t) e in
    let long : length (pre ++ print_row r []) ≡ length pre + length (print_row r []) = length-append pre (print_row r []) in
    let more : map (row_from_end (length whole)) (far xs) ≡ near (length (pre ++ print_row r [])) xs = far_near xs (pre ++ print_row r []) whole (e ∙ row_apart pre r t) in
    ap (λ (k : ℕ). offsets_of k (slices r) ∷ map (row_from_end (length whole)) (far xs)) size ∙ ap (λ l. offsets_of (length pre) (slices r) ∷ l) (more ∙ ap (λ (k : ℕ). near k xs) long)
far_near (end_item gap marker ∷ xs) pre whole e =
    let t = items_text xs [] in
    let long : length (pre ++ (gap ++ marker)) ≡ length pre + length (gap ++ marker) = length-append pre (gap ++ marker) in
    far_near xs (pre ++ (gap ++ marker)) whole (e ∙ end_apart pre gap marker t) ∙ ap (λ (k : ℕ). near k xs) long

-- Items after others.
pub near_joined : (n : ℕ) (xs ys : List Item) → near n (xs ++ ys) ≡ near n xs ++ near (n + length (items_text xs [])) ys
near_joined n [] ys = ap (λ (k : ℕ). near k ys) (omega arith)
near_joined n (row_item r ∷ xs) ys = search (rules, print_then, length-append, near_joined (n + length (print_row r [])) xs ys)
near_joined n (end_item gap marker ∷ xs) ys = search (rules, append_assoc, length-append, near_joined (n + length (gap ++ marker)) xs ys)

pub texts_joined : (xs ys : List Item) → TextsIn xs → TextsIn ys → TextsIn (xs ++ ys)
texts_joined [] ys h k = k
texts_joined (row_item r ∷ xs) ys h k = (h.0, texts_joined xs ys h.1 k)
texts_joined (end_item gap marker ∷ xs) ys h k = (h.0, h.1, texts_joined xs ys h.2 k)

-- The row at an index.
pub is_located_at : (t : List ℕ) (os : List declared.Offsets) (i : ℕ) (o : declared.Offsets) → AreRowsIn t os → slice_get os i ≡ Some o → IsCutIn t o
is_located_at t os i o h e = subst (IsCutIn t) (get_or_from_slice_get os i o o e) (All-get_or (IsCutIn t) os i o (slice_get_within os i o e) h)
