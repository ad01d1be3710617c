-- Parts and markers, as the code lends them.
use Rattle.std.proofs.Common.{rules, ◌≡◌, ℕ, ◌+◌, ◌-◌, ◌<◌, ◌≤◌, Bool, true, false, eqb, List, [], ◌∷◌, ◌++◌, length, map, take, drop}
use Rattle.std.proofs.Common.{Option, Some, None, refl, sym, ap, ◌∙◌, append_assoc, length-append}
use Rattle.std.{proofs.lemmas.Bool.{eqb-true, false_from_ne_true}, proofs.lemmas.List.{take-append-drop, length-map, map-append}}
use Rattle.std.{proofs.lemmas.Option.same_Some, specs.Str.{IsUtf8, IsCharBoundary}}
use Rattle.yq_core.{specs.Answers.◌>>=◌, specs.Text.{is_empty, is_marker}, proofs.Bools.bind_some}
use Rattle.yq_row_table.{specs.Grammar.begins_document, specs.Slicing.{rows_sliced, after_parts, parts_sliced}}
use Rattle.yq_row_table.{specs.Reading.{read_tail, marker_at, read_cut_part, all_parts}, specs.Rows.{rows_text, Part, Cut, last, marked}}
use Rattle.yq_row_table.{specs.View.{Slices, slices, Bound, RowsView}, specs.Ends.{bound_in, bounds_in}}
use Rattle.yq_row_table.{specs.Items.{items_text, rows_items}, specs.Offsets.Ends}
use Rattle.yq_row_table.proofs.PartsLaws.{parts_refused, parts_last, parts_no_marker, parts_marked, part_marker, parts_smaller, part_takes}
use Rattle.yq_row_table.{proofs.ItemLaws.rows_items_text, proofs.KeptLaws.items_apart, proofs.OffsetLaws.ends_next}
use Rattle.yq_row_table.{proofs.PieceLaws.tail_takes, proofs.FrontLaws.{front_take, front_boundary, front_le}}
use Rattle.yq_row_table.specs.declared.ends.EndPlace as ends

-- the line of a marker
marker_is : (t after tail rest : List ℕ) → after ≡ drop 3 t → read_tail after ≡ Some (tail, rest) → t ≡ (take 3 t ++ tail) ++ rest
marker_is t after tail rest three h =
    let is : drop 3 t ≡ tail ++ rest = sym three ∙ (tail_takes after (tail, rest) h).0 in
    sym (take-append-drop 3 t) ∙ (ap (λ r. take 3 t ++ r) is ∙ sym (append_assoc (take 3 t) tail rest))

pub marker_within : (t after tail rest : List ℕ) → after ≡ drop 3 t → read_tail after ≡ Some (tail, rest) → length rest ≤ length t
marker_within t after tail rest three h = front_le t (take 3 t ++ tail) rest (marker_is t after tail rest three h)

pub marker_boundary : (t after tail rest : List ℕ) → after ≡ drop 3 t → read_tail after ≡ Some (tail, rest) → IsUtf8 rest → IsCharBoundary t (length t - length rest)
marker_boundary t after tail rest three h u = front_boundary t (take 3 t ++ tail) rest (marker_is t after tail rest three h) u

pub marker_some : (t after tail rest line : List ℕ) → after ≡ drop 3 t → read_tail after ≡ Some (tail, rest) → line ≡ take (length t - length rest) t → marker_at t ≡ Some (line, rest)
unfolding marker_at
marker_some t after tail rest line three h e =
    let whole = e ∙ front_take t (take 3 t ++ tail) rest (marker_is t after tail rest three h) in
    ap (λ o. o >>= λ x. Some (take 3 t ++ x.0, x.1)) (ap read_tail (sym three) ∙ h) ∙ ap (λ (l : List ℕ). Some (l, rest)) (sym whole)

-- A part that was read, after other rows.
pub record OnePart (rows : List Slices) (started : Bool) (t : List ℕ) (found : List Slices) (end after : List ℕ) : Type 0 where
  pub part : Part
  pub read : read_cut_part started t ≡ Some (part, after)
  pub rows_is : found ≡ rows ++ map slices part.rows
  pub end_is : end ≡ part.end
  pub count : length found ≡ length rows + length part.rows

pub one_part : (rows : List Slices) (started : Bool) (t : List ℕ) (found : List Slices) (end after : List ℕ) → rows_sliced rows (read_cut_part started t) ≡ Some (found, end, after) → OnePart rows started t found end after
one_part rows started t found end after h = search (rules, bind_some, same_Some, length-append, length-map)

pub part_is_marker : (rows : List Slices) (started : Bool) (t : List ℕ) (found : List Slices) (end after : List ℕ) → rows_sliced rows (read_cut_part started t) ≡ Some (found, end, after) → is_empty after ≡ false → is_marker after ≡ true
part_is_marker rows started t found end after h some = let p = one_part rows started t found end after h in part_marker started t (p.part, after) p.read some

pub part_smaller : (rows : List Slices) (started : Bool) (t : List ℕ) (found : List Slices) (end after marker next : List ℕ) →
    rows_sliced rows (read_cut_part started t) ≡ Some (found, end, after) → is_empty after ≡ false → marker_at after ≡ Some (marker, next) →
    length next < length t
part_smaller rows started t found end after marker next h some m = let p = one_part rows started t found end after h in parts_smaller started t (p.part, after) (marker, next) p.read some m

no_part : (rows : List Slices) (o : Option (Part × List ℕ)) → rows_sliced rows o ≡ None → o ≡ None
no_part rows o h = search rules

pub parts_none : (rows : List Slices) (bounds : List Bound) (started : Bool) (t : List ℕ) → rows_sliced rows (read_cut_part started t) ≡ None → parts_sliced rows bounds (all_parts started t) ≡ None
parts_none rows bounds started t h = ap (parts_sliced rows bounds) (parts_refused started t (no_part rows (read_cut_part started t) h))

pub parts_unmarked : (rows : List Slices) (bounds : List Bound) (started : Bool) (t : List ℕ) (found : List Slices) (end after : List ℕ) →
    rows_sliced rows (read_cut_part started t) ≡ Some (found, end, after) → is_empty after ≡ false → marker_at after ≡ None →
    parts_sliced rows bounds (all_parts started t) ≡ None
parts_unmarked rows bounds started t found end after h some m = let p = one_part rows started t found end after h in ap (parts_sliced rows bounds) (parts_no_marker started t (p.part, after) p.read some m)

-- the last part
last_view : (rows : List Slices) (bounds : List Bound) (p : Part) (found : List Slices) (end : List ℕ) (k : ℕ) → k ≡ length rows + length p.rows → found ≡ rows ++ map slices p.rows → end ≡ p.end →
    after_parts rows bounds (last p) ≡ record { rows = found; bounds = bounds ++ record { rows = k; end = end; marker = [] } ∷ [] }
last_view rows bounds p found end k count rows_is end_is = rw (count, rows_is, end_is) refl

pub parts_done : (rows : List Slices) (bounds : List Bound) (started : Bool) (t : List ℕ) (found : List Slices) (end after : List ℕ) (k : ℕ) →
    rows_sliced rows (read_cut_part started t) ≡ Some (found, end, after) → is_empty after ≡ true → k ≡ length found →
    parts_sliced rows bounds (all_parts started t) ≡ Some (record { rows = found; bounds = bounds ++ record { rows = k; end = end; marker = [] } ∷ [] })
parts_done rows bounds started t found end after k h none e =
    let p = one_part rows started t found end after h in
    ap (parts_sliced rows bounds) (parts_last started t (p.part, after) p.read none)
    ∙ ap Some (last_view rows bounds p.part found end k (e ∙ p.count) p.rows_is p.end_is)

-- a part with a marker after it
more_view : (rows : List Slices) (bounds : List Bound) (p : Part) (found : List Slices) (end marker : List ℕ) (k : ℕ) (o : Option Cut) → k ≡ length rows + length p.rows → found ≡ rows ++ map slices p.rows → end ≡ p.end → k ≡ length found →
    parts_sliced rows bounds (o >>= λ c. Some (marked p marker c)) ≡ parts_sliced found (bounds ++ record { rows = k; end = end; marker = marker } ∷ []) o
more_view rows bounds p found end marker k o count rows_is end_is e = search (rules, map-append, append_assoc)

pub parts_more : (rows : List Slices) (bounds : List Bound) (started : Bool) (t : List ℕ) (found : List Slices) (end after marker next : List ℕ)
    (k : ℕ) → rows_sliced rows (read_cut_part started t) ≡ Some (found, end, after) → is_empty after ≡ false →
    marker_at after ≡ Some (marker, next) → k ≡ length found →
    parts_sliced rows bounds (all_parts started t) ≡ parts_sliced found (bounds ++ record { rows = k; end = end; marker = marker } ∷ []) (all_parts (begins_document marker) next)
parts_more rows bounds started t found end after marker next k h some m e =
    let p = one_part rows started t found end after h in
    ap (parts_sliced rows bounds) (parts_marked started t (p.part, after) (marker, next) p.read some m)
    ∙ more_view rows bounds p.part found end marker k (all_parts (begins_document marker) next) (e ∙ p.count) p.rows_is p.end_is e

pub bounds_push : (t : List ℕ) (old items : List ends.EndPlace) (e : ends.EndPlace) (b : Bound) → items ≡ old ++ e ∷ [] → bound_in t e ≡ b → bounds_in t items ≡ bounds_in t old ++ b ∷ []
bounds_push t old items e b pushed same = ap (bounds_in t) pushed ∙ (map-append (bound_in t) old (e ∷ []) ∙ ap (λ (x : Bound). bounds_in t old ++ x ∷ []) same)

pub parts_end : (rows found : List Slices) (bounds items : List Bound) (started : Bool) (t after end : List ℕ) (k : ℕ) (all : Option RowsView) →
    rows_sliced rows (read_cut_part started t) ≡ Some (found, end, after) → is_empty after ≡ true → k ≡ length found →
    items ≡ bounds ++ record { rows = k; end = end; marker = [] } ∷ [] → parts_sliced rows bounds (all_parts started t) ≡ all → all ≡ Some (record { rows = found; bounds = items })
parts_end rows found bounds items started t after end k all h h11 count pushed so_far = search (rules, parts_done)

-- what follows the rows of a part is an end of the text, as the part is
pub end_ends : (whole t end after : List ℕ) (started : Bool) (p : Part) → Ends t whole → read_cut_part started t ≡ Some (p, after) → end ≡ p.end → Ends (end ++ after) whole
end_ends whole t end after started p h read e =
    let text : t ≡ rows_text p.rows (p.end ++ after) = (part_takes started t (p, after) read).text in
    let front : t ≡ items_text (rows_items p.rows []) [] ++ (end ++ after) = text
    ∙ (sym (rows_items_text p.rows [] (p.end ++ after))
    ∙ (items_apart (rows_items p.rows []) (p.end ++ after)
    ∙ ap (λ (l : List ℕ). items_text (rows_items p.rows []) [] ++ (l ++ after)) (sym e))) in
    ends_next whole t (items_text (rows_items p.rows []) []) (end ++ after) h front

pub empty_by : (t : List ℕ) (b c : Bool) → b ≡ eqb (length t) 0 → b ≡ c → is_empty t ≡ c
empty_by t b c e f = search (rules, false_from_ne_true, eqb-true)
