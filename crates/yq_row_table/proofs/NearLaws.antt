-- Rows at their distance from the beginning of a text: as they are read, and each by its index.
use Rattle.std.proofs.Common.{rules, ◌≡◌, ℕ, zero, suc, ◌+◌, ◌-◌, ◌<◌, Bool, true, false, List, [], ◌∷◌, ◌++◌, length, take, Option, Some}
use Rattle.std.{proofs.Common.{None, refl, sym, ap, ◌∙◌, arith, append_assoc, append-nil, length-append}, proofs.lemmas.Grind.common_steps}
use Rattle.std.{proofs.lemmas.Bool.{le-leb, lt-leb}, proofs.lemmas.List.Sums.sum_by-cons, proofs.lemmas.Option.same_Some}
use Rattle.std.specs.List.{slice_get, sum_by}
use Rattle.yq_core.{specs.Answers.◌>>=◌, specs.Text.is_empty, proofs.Bools.bind_some}
use Rattle.yq_row_table.specs.Grammar.{Limit, limit_after, ends_part, begins_document}
use Rattle.yq_row_table.specs.Items.{Item, row_item, end_item, rows_items, items_of_cut, items_text, rows_in_items, bounds_in_items}
use Rattle.yq_row_table.{specs.Items.view_of_items, specs.Kept.{near, ends_near, rows_placed, parts_placed, ends_placed}}
use Rattle.yq_row_table.{specs.Slicing.{sliced, row_sliced, read_view}, specs.Offsets.{Ends, offsets_of, row_length}}
use Rattle.yq_row_table.specs.Reading.{cut_gap, row_at, all_rows, read_cut_part, marker_at, all_parts}
use Rattle.yq_row_table.specs.RowStarts.{passed_length, row_start}
use Rattle.yq_row_table.specs.Rows.{Row, print_row, rows_text, Part, part_text, Cut, last, marked, cut_text}
use Rattle.yq_row_table.{specs.View.{Slices, slices, slices_text, RowsView}, specs.declared.ends.EndPlace.EndPlace}
use Rattle.yq_row_table.{proofs.FrontLaws.{front_join, front_le}, proofs.ItemLaws.{items_of_text, items_view_is, rows_items_text}}
use Rattle.yq_row_table.{proofs.ItemSpliceLaws.rows_front, proofs.KeptLaws.{items_apart, near_joined}, proofs.OffsetLaws.row_then}
use Rattle.yq_row_table.proofs.PartsLaws.{parts_last, parts_marked, part_takes, marker_takes, part_marker}
use Rattle.yq_row_table.proofs.RowSlicing.{row_joined, not_read}
use Rattle.yq_row_table.{proofs.RowsLaws.{with_front, rows_from, rows_cut, rows_step, rows_refused, rows_done}, proofs.ScanLaws.parts_take}
use Rattle.yq_row_table.proofs.SliceLaws.{slices_are, print-length}
use Rattle.yq_row_table.specs.declared.offsets.Offsets as declared

-- one row more
front_placed : (os : List declared.Offsets) (n : ℕ) (r : Row) (o : Option (Part × List ℕ)) → rows_placed os n (with_front (r ∷ []) o) ≡ rows_placed (os ++ offsets_of n (slices r) ∷ []) (n + length (slices_text (slices r) [])) o
front_placed os n r o = search (rules, slices_are, append_assoc)

gap_read : (limit : Limit) (t g r : List ℕ) → (g, r) ≡ cut_gap t → all_rows limit t ≡ rows_from limit g r
gap_read limit t g r e = rows_cut limit t ∙ ap (λ (y : List ℕ × List ℕ). rows_from limit y.0 y.1) (sym e)

pub rows_placed_end : (os : List declared.Offsets) (n : ℕ) (limit : Limit) (t g r : List ℕ) (all : Option (List declared.Offsets)) → (g, r) ≡ cut_gap t → ends_part r ≡ true → rows_placed os n (all_rows limit t) ≡ all → all ≡ Some os
rows_placed_end os n limit t g r all e none so_far = sym so_far ∙ (ap (rows_placed os n) (gap_read limit t g r e ∙ rows_done limit g r none) ∙ ap Some (append-nil os))

pub rows_placed_none : (os : List declared.Offsets) (n : ℕ) (limit : Limit) (t g r : List ℕ) (all : Option (List declared.Offsets)) →
    (g, r) ≡ cut_gap t → ends_part r ≡ false → row_sliced limit g r ≡ None → rows_placed os n (all_rows limit t) ≡ all → all ≡ None
rows_placed_none os n limit t g r all e more none so_far = sym so_far ∙ ap (rows_placed os n) (gap_read limit t g r e ∙ rows_refused limit g r more (not_read (row_at limit g r) none))

-- how far from the beginning the next one is
pub next_place : (whole t p rest : List ℕ) → Ends t whole → t ≡ p ++ rest → length whole - length rest ≡ (length whole - length t) + length p
next_place whole t p rest h e = search (rules, front_le, front_join, length-append)

pub rows_placed_step : (os items : List declared.Offsets) (o : declared.Offsets) (whole : List ℕ) (limit next : Limit) (t g r : List ℕ) (s : Slices)
    (after : List ℕ) (all : Option (List declared.Offsets)) → Ends t whole → (g, r) ≡ cut_gap t → ends_part r ≡ false →
    row_sliced limit g r ≡ Some (s, next, after) → items ≡ os ++ o ∷ [] → o ≡ offsets_of (length whole - length t) s →
    rows_placed os (length whole - length t) (all_rows limit t) ≡ all →
    rows_placed items (length whole - length after) (all_rows next after) ≡ all
rows_placed_step os items o whole limit next t g r s after all ends e more h pushed place so_far =
    let n = length whole - length t in
    let x = bind_some (row_at limit g r) h in
    let is : sliced x.0 ≡ (s, next, after) = same_Some _ _ x.2 in
    let read : all_rows limit t ≡ with_front (x.0.0 ∷ []) (all_rows (limit_after x.0.0) x.0.1) = gap_read limit t g r e ∙ (rows_step limit g r x.0 more x.1 ∙ ap (with_front (x.0.0 ∷ [])) (sym (rows_cut (limit_after x.0.0) x.0.1))) in
    let one : rows_placed os n (all_rows limit t) ≡ rows_placed (os ++ offsets_of n (slices x.0.0) ∷ []) (n + length (slices_text (slices x.0.0) []))
    (all_rows (limit_after x.0.0) x.0.1) = ap (rows_placed os n) read ∙ front_placed os n x.0.0 (all_rows (limit_after x.0.0) x.0.1) in
    search (rules, next_place, row_joined, row_then)

-- parts
near_part : (n : ℕ) (rs : List Row) (end marker : List ℕ) (xs : List Item) → near n (rows_items rs (end_item end marker ∷ xs)) ≡ near n (rows_items rs []) ++ near (n + length (rows_text rs (end ++ marker))) xs
near_part n rs end marker xs =
    let own = items_text (rows_items rs []) [] in
    let text : rows_text rs (end ++ marker) ≡ own ++ (end ++ marker) = sym (rows_items_text rs [] (end ++ marker)) ∙ items_apart (rows_items rs []) (end ++ marker) in
    search (rules, length-append, rows_front, near_joined)

pub parts_placed_end : (os items : List declared.Offsets) (n : ℕ) (started : Bool) (t after : List ℕ) (p : Part)
    (all : Option (List declared.Offsets)) → read_cut_part started t ≡ Some (p, after) → is_empty after ≡ true →
    rows_placed os n (read_cut_part started t) ≡ Some items →
    parts_placed os n (all_parts started t) ≡ all → all ≡ Some items
parts_placed_end os items n started t after p all h none placed so_far =
    let is : Some items ≡ Some (os ++ near n (rows_items p.rows [])) = sym placed ∙ ap (rows_placed os n) h in
    let end : near n (items_of_cut (last p)) ≡ near n (rows_items p.rows []) = near_part n p.rows p.end [] [] ∙ append-nil (near n (rows_items p.rows [])) in
    sym so_far ∙ (ap (parts_placed os n) (parts_last started t (p, after) h none) ∙ (ap (λ l. Some (os ++ l)) end ∙ sym is))

marked_placed : (os : List declared.Offsets) (n : ℕ) (p : Part) (marker : List ℕ) (o : Option Cut) →
    parts_placed os n (o >>= λ c. Some (marked p marker c)) ≡ parts_placed (os ++ near n (rows_items p.rows [])) (n + length (rows_text p.rows (p.end ++ marker))) o
marked_placed os n p marker o = search (rules, near_part, append_assoc)

pub part_apart : (p : Part) (marker rest : List ℕ) → part_text p (marker ++ rest) ≡ rows_text p.rows (p.end ++ marker) ++ rest
part_apart p marker rest =
    let own = items_text (rows_items p.rows []) [] in
    let long : (x : List ℕ) → rows_text p.rows x ≡ own ++ x = λ x. sym (rows_items_text p.rows [] x) ∙ items_apart (rows_items p.rows []) x in
    long (p.end ++ (marker ++ rest)) ∙ (ap (λ l. own ++ l) (sym (append_assoc p.end marker rest)) ∙ (sym (append_assoc own (p.end ++ marker) rest) ∙ ap (λ l. l ++ rest) (sym (long (p.end ++ marker)))))

-- A part that was read, and the marker after it.
pub record ReadMarked (started : Bool) (t after marker next : List ℕ) : Type 0 where
  pub part : Part
  pub read : read_cut_part started t ≡ Some (part, after)
  pub some : is_empty after ≡ false
  pub line : marker_at after ≡ Some (marker, next)

pub parts_placed_step : (os items : List declared.Offsets) (whole : List ℕ) (started : Bool) (t after marker next : List ℕ) (all : Option (List declared.Offsets)) → Ends t whole → ReadMarked started t after marker next →
    rows_placed os (length whole - length t) (read_cut_part started t) ≡ Some items →
    parts_placed os (length whole - length t) (all_parts started t) ≡ all →
    parts_placed items (length whole - length next) (all_parts (begins_document marker) next) ≡ all
parts_placed_step os items whole started t after marker next all ends m placed so_far =
    let n = length whole - length t in
    let p = m.part in
    let is : Some items ≡ Some (os ++ near n (rows_items p.rows [])) = sym placed ∙ ap (rows_placed os n) m.read in
    let joined = marker_takes after (marker, next) (part_marker started t (p, after) m.read m.some) m.line in
    let text : t ≡ rows_text p.rows (p.end ++ marker) ++ next = (part_takes started t (p, after) m.read).text ∙ (ap (part_text p) joined.0 ∙ part_apart p marker next) in
    let size : length whole - length next ≡ n + length (rows_text p.rows (p.end ++ marker)) = next_place whole t (rows_text p.rows (p.end ++ marker)) next ends text in
    ap (λ (k : ℕ). parts_placed items k (all_parts (begins_document marker) next)) size
    ∙ (ap (λ (l : List declared.Offsets). parts_placed l (n + length (rows_text p.rows (p.end ++ marker))) (all_parts (begins_document marker) next)) (same_Some _ _ is)
    ∙ (sym (marked_placed os n p marker (all_parts (begins_document marker) next))
    ∙ (sym (ap (parts_placed os n) (parts_marked started t (p, after) (marker, next) m.read m.some m.line)) ∙ so_far)))

-- Rows and ends of parts that were read are kept where those of the items of the text are.
pub record AreRead (t : List ℕ) (os : List declared.Offsets) (es : List EndPlace) (s : RowsView) : Type 0 where
  pub items : List Item
  pub text_is : t ≡ items_text items []
  pub near_is : os ≡ near 0 items
  pub ends_is : es ≡ ends_near 0 0 items
  pub rows_view_is : s ≡ view_of_items items

are_read : (t : List ℕ) (n : ℕ) (o : Option Cut) (os : List declared.Offsets) (es : List EndPlace) (s : RowsView) → n ≡ 0 →
    ((c : Cut) → o ≡ Some c → t ≡ cut_text c) → parts_placed [] n o ≡ Some os → ends_placed [] n 0 o ≡ Some es → read_view o ≡ Some s →
    AreRead t os es s
are_read t n o os es s h6 text h g e = search (rules, items_of_text, same_Some, items_view_is)

pub near_read : (t : List ℕ) (os : List declared.Offsets) (es : List EndPlace) (s : RowsView) →
    parts_placed [] (length t - length t) (all_parts true t) ≡ Some os → ends_placed [] (length t - length t) 0 (all_parts true t) ≡ Some es →
    read_view (all_parts true t) ≡ Some s → AreRead t os es s
near_read t os es s h g e = are_read t (length t - length t) (all_parts true t) os es s (omega arith) (λ c read. (parts_take (suc (length t)) true t c read).0) h g e

-- a row by its index
abbrev start_in : ℕ → ℕ → ℕ → List Item → ℕ
start_in n k i xs = n + (sum_by row_length (take i (rows_in_items xs)) + sum_by (passed_length (k + i)) (bounds_in_items k xs))

none_passed : (j k : ℕ) (xs : List Item) → j < k → sum_by (passed_length j) (bounds_in_items k xs) ≡ 0
none_passed j k [] less = refl
none_passed j k (row_item r ∷ xs) less = none_passed j (k + 1) xs (omega (arith, less))
none_passed j k (end_item gap marker ∷ xs) less = search (rules, lt-leb, sum_by-cons, none_passed j k xs less)

pub near_at : (xs : List Item) (n k i : ℕ) (s : Slices) → slice_get (rows_in_items xs) i ≡ Some s → slice_get (near n xs) i ≡ Some (offsets_of (start_in n k i xs) s)
near_at [] n k i s h = cc
near_at (row_item r ∷ xs) n k zero s h = search (rules, none_passed, same_Some)
near_at (row_item r ∷ xs) n k (suc i) s h = grind (arith, common_steps, print-length, sum_by-cons, near_at xs (n + length (print_row r [])) (k + 1) i s h)
near_at (end_item gap marker ∷ xs) n k i s h = grind (arith, common_steps, le-leb, sum_by-cons, length-append, near_at xs (n + length (gap ++ marker)) k i s h)

pub row_near : (xs : List Item) (i : ℕ) (s : Slices) → slice_get (rows_in_items xs) i ≡ Some s → slice_get (near 0 xs) i ≡ Some (offsets_of (row_start i (view_of_items xs)) s)
row_near xs i s there =
    let place : start_in 0 0 i xs ≡ row_start i (view_of_items xs) = omega (arith, ap (λ (j : ℕ). sum_by (passed_length j) (bounds_in_items 0 xs)) (zero_plus i)) in
    near_at xs 0 0 i s there ∙ ap (λ (m : ℕ). Some (offsets_of m s)) place
  where
    zero_plus : (i : ℕ) → 0 + i ≡ i
    zero_plus i = omega arith

pub some_row : (ss : List Slices) (i : ℕ) → i < length ss → (s : Slices) × (slice_get ss i ≡ Some s)
some_row [] i less = absurd (omega (arith, less))
some_row (s ∷ ss) zero less = (s, refl)
some_row (s ∷ ss) (suc i) less = some_row ss i (omega (arith, less))
