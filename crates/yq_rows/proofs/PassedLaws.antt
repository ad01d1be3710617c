-- What a change keeps in front: the end of a part too, where it begins after the line of its marker.
use Rattle.std.proofs.Common.{◌≡◌, ⊎_elim, ◌&&◌, Bool, true, false, ℕ, ◌+◌, ◌-◌, ◌<◌, ◌≤◌, if◌then◌else◌, List, [], ◌∷◌, ◌++◌, length, take}
use Rattle.std.proofs.Common.{drop, Option, slice_get, refl, sym, ap, ◌∙◌, subst, arith, append_assoc, append-nil, length-append}
use Rattle.std.{proofs.Common.{length-drop, length-take}, proofs.lemmas.Bool.and_parts, proofs.lemmas.List.{append_cancel_left, take_at}}
use Rattle.yq_core.specs.Text.{is_line}
use Rattle.yq_row_table.{specs.Ends.end_at, specs.Grammar.IsMarkerLine}
use Rattle.yq_row_table.specs.Items.{Item, end_item, items_of_cut, items_text, nothing_asked, asked_of, AreRowItems}
use Rattle.yq_row_table.{specs.Kept.{near, ends_near}, specs.Meter.begins_line, specs.Reading.all_parts}
use Rattle.yq_row_table.{specs.Regions.{IsReadAlone, no_items}, specs.Rows.{Cut, marked}, specs.Touched.{in_back, before_offset}}
use Rattle.yq_row_table.{specs.declared.ends.EndPlace.EndPlace, specs.declared.places.Places.Places}
use Rattle.yq_row_table.{proofs.ItemLaws.{items_joined, items_of_text, parts_are_items}, proofs.RegionLaws.region}
use Rattle.yq_rows.specs.Following.{Follows, exchanged, after_end_item, is_end_of, keeps_end, read_text, text_read}
use Rattle.yq_rows.{specs.Sides.{AreAt, IsSideBefore, IsSplitAt, past_end, side_of, text_length}, specs.declared.kept.Kept.Kept}
use Rattle.yq_rows.{specs.declared.sides.Side.Side, proofs.BeginLaws.{first_long, joined_long}, proofs.CountLaws.ends_joined}
use Rattle.yq_rows.proofs.ItemPlaces.{cut_long, cut_places, text_split}
use Rattle.yq_rows.{proofs.KeptSides.{all_before_offset, back_long, cut_some, front_long}, proofs.LineStarts.line_of_marker}
use Rattle.yq_rows.proofs.SideLaws.{ends_end, front_taken, rows_end, sides_same}
use Rattle.yq_rows.proofs.PassedEnds.{FirstEnd, end_joined, end_read, first_end, past_is, slice_next, test, uncons}

-- ---- items in front

-- What a change keeps in front, what it touches and what it writes after that, and what is read of this.
pub record FrontStays (t new : List ℕ) (kept : Kept) (p : Places) (h : Follows t p kept new) (x : Side) : Type 0 where
  pub front : List Item
  pub touched : List Item
  pub written : List Item
  pub old_are : items_of_cut h.old_cut ≡ front ++ (touched ++ in_back kept.back (items_of_cut h.old_cut))
  pub new_are : items_of_cut h.new_cut ≡ front ++ (written ++ in_back kept.back (items_of_cut h.old_cut))
  pub first : text_length front ≤ kept.front
  pub some : no_items (written ++ in_back kept.back (items_of_cut h.old_cut)) ≡ false
  pub side : x ≡ side_of front
  pub rows : take x.rows p.front.items ≡ near 0 front
  pub read_is : read_text kept h.old_cut h.new_cut h.touches ≡ text_read (kept.back - text_length (in_back kept.back (items_of_cut h.old_cut))) touched written

module _ (t new : List ℕ) (kept : Kept) (p : Places) (h : Follows t p kept new) (split : IsSplitAt kept.front (length t) p) (begins : Bool) (begins_is : begins ≡ begins_line t kept.front)
    (before : Side) (before_is : IsSideBefore p kept.front before) (x : Side) (past : x ≡ past_end (slice_get p.ends before.ends) before kept.front begins) where
  abbrev xs : List Item
  xs = items_of_cut h.old_cut

  abbrev f : List Item
  f = before_offset kept.front xs

  abbrev z : List Item
  z = in_back kept.back xs

  abbrev tch : List Item
  tch = h.touches.touched

  abbrev w : List Item
  w = h.touches.written

  long : length t ≡ text_length xs
  long = cut_long t h.old_cut h.old_is

  at_xs : AreAt p xs
  at_xs = cut_places p h.old_cut h.placed

  here : IsSplitAt kept.front (text_length xs) p
  here = subst (λ (n : ℕ). IsSplitAt kept.front n p) long split

  fits : kept.front + kept.back ≤ text_length xs
  fits = omega (arith, h.within, long)

  side_is : before ≡ side_of f
  side_is = before_is xs at_xs here (omega (arith, fits))

  low : text_length f ≤ kept.front
  low = front_long kept.front xs

  new_size : length (exchanged kept t new) ≡ (text_length f + text_length w) + text_length z
  new_size = cut_long (exchanged kept t new) h.new_cut h.new_is ∙ (ap text_length h.touches.new_are ∙ omega (arith, joined_long f (w ++ z), joined_long w z))

  some_left : (l : List Item) → items_of_cut h.new_cut ≡ f ++ l → no_items l ≡ false
  some_left (i ∷ l) e = refl
  some_left [] e =
      let all : items_of_cut h.new_cut ≡ f = e ∙ append-nil f in
      let less = all_before_offset (items_of_cut h.new_cut) kept.front (h.touches.front_same ∙ sym all) (cut_some h.new_cut) in
      absurd (omega (arith, less, cut_long (exchanged kept t new) h.new_cut h.new_is, length-append (take kept.front t) (new ++ drop (length t - kept.back) t), length-take kept.front t, h.within))

  -- whether an end is kept
  abbrev n : ℕ
  n = kept.front - text_length f

  abbrev keeps : Bool
  keeps = begins && is_end_of n tch

  keeps_is : keeps_end kept h.old_cut tch ≡ keeps
  keeps_is = ap (λ (b : Bool). b && is_end_of n tch) (sym (begins_is ∙ ap (λ (l : List ℕ). begins_line l kept.front) h.old_is.text))

  none : tch ≡ [] → n ≡ 0
  none e = omega (arith, fits, low, back_long kept.back xs, ap text_length e, ap text_length h.touches.old_are, joined_long f (tch ++ z), joined_long tch z)

  next : slice_get p.ends before.ends ≡ slice_get (ends_near (text_length f) (length (near 0 f)) (tch ++ z)) 0
  next =
      let bytes : 0 + text_length f ≡ text_length f = omega arith in
      let count : 0 + length (near 0 f) ≡ length (near 0 f) = omega arith in
      let all : p.ends ≡ ends_near 0 0 f ++ ends_near (text_length f) (length (near 0 f)) (tch ++ z) =
      at_xs.ends_are ∙ (ap (ends_near 0 0) h.touches.old_are ∙ (ends_joined 0 0 f (tch ++ z) ∙ (λ i. ends_near 0 0 f ++ ends_near (bytes i) (count i) (tch ++ z)))) in
      (λ i. slice_get (all i) (side_is i).ends) ∙ slice_next (ends_near 0 0 f) (ends_near (text_length f) (length (near 0 f)) (tch ++ z))

  chosen : x ≡ (if keeps then record { rows = before.rows; ends = before.ends + 1; bytes = kept.front } else before)
  chosen =
      past
      ∙ (ap (λ (o : Option EndPlace). past_end o before kept.front begins) next
      ∙ (past_is (text_length f) (length (near 0 f)) kept.front begins before (tch ++ z) (ap (λ (s : Side). s.rows) side_is) low
      ∙ ap (test begins kept.front before) (end_joined n tch z none)))

  -- none is
  strict : keeps ≡ false → FrontStays t new kept p h x
  strict e =
      let side : x ≡ side_of f = chosen ∙ (ap (λ (b : Bool). if b then record { rows = before.rows; ends = before.ends + 1; bytes = kept.front } else before) e ∙ side_is) in
      record {
        front = f;
        touched = tch;
        written = w;
        old_are = h.touches.old_are;
        new_are = h.touches.new_are;
        first = low;
        some = some_left (w ++ z) h.touches.new_are;
        side = side;
        rows = ap (λ (k : ℕ). take k p.front.items) (ap (λ (s : Side). s.rows) side) ∙ front_taken p xs kept.front at_xs here (omega (arith, fits));
        read_is = ap (λ (b : Bool). text_read (kept.back - text_length z) (after_end_item b tch) (after_end_item b w)) (keeps_is ∙ e);
      }

  -- one is
  module _ (e : keeps ≡ true) (i : FirstEnd n tch) where
    abbrev end : List Item
    end = end_item i.gap i.marker ∷ []

    abbrev y : List ℕ
    y = items_text (i.rest ++ z) []

    abbrev head : List ℕ
    head = items_text f [] ++ (i.gap ++ i.marker)

    size : kept.front ≡ length head
    size = omega (arith, i.long, low, length-append (items_text f []) (i.gap ++ i.marker))

    text : t ≡ head ++ y
    text =
        let parted : items_text f [] ++ (i.gap ++ (i.marker ++ y)) ≡ head ++ y = ap (λ l. items_text f [] ++ l) (sym (append_assoc i.gap i.marker y)) ∙ sym (append_assoc (items_text f []) (i.gap ++ i.marker) y) in
        h.old_is.text ∙ (sym (items_of_text h.old_cut) ∙ (ap (λ (l : List Item). items_text l []) h.touches.old_are ∙ (text_split f (tch ++ z) ∙ (ap (λ (l : List Item). items_text f [] ++ items_text (l ++ z) []) i.items ∙ parted))))

    own : AreRowItems (asked_of nothing_asked f) (end_item i.gap i.marker ∷ (i.rest ++ z)) []
    own = items_joined f (end_item i.gap i.marker ∷ (i.rest ++ z)) nothing_asked []
        (subst (λ (l : List Item). AreRowItems nothing_asked l []) (h.touches.old_are ∙ ap (λ (l : List Item). f ++ (l ++ z)) i.items) (parts_are_items h.old_cut true h.old_is.parts))

    line : IsMarkerLine i.marker y
    line = ⊎_elim {0, 0, 0} (λ (l : IsMarkerLine i.marker y). l) (λ no. absurd (omega (arith, i.some, ap length no.0))) own.0.1

    ends : is_line i.marker ≡ true
    ends = line_of_marker (items_text f []) i.gap i.marker y kept.front size (subst (λ (l : List ℕ). begins_line l kept.front ≡ true) text (sym begins_is ∙ (and_parts begins (is_end_of n tch) e).0)) i.some line

    -- the new text
    abbrev u : List ℕ
    u = new ++ drop (length t - kept.back) t

    come : i.gap ++ (i.marker ++ u) ≡ items_text (w ++ z) []
    come =
        let first : take kept.front t ≡ head = ap (take kept.front) text ∙ take_at head y kept.front (sym size) in
        let all : head ++ u ≡ items_text f [] ++ items_text (w ++ z) [] =
        ap (λ l. l ++ u) (sym first) ∙ (h.new_is.text ∙ (sym (items_of_text h.new_cut) ∙ (ap (λ (l : List Item). items_text l []) h.touches.new_are ∙ text_split f (w ++ z)))) in
        sym (append_assoc i.gap i.marker u) ∙ append_cancel_left (items_text f []) ((i.gap ++ i.marker) ++ u) (items_text (w ++ z) []) (sym (append_assoc (items_text f []) (i.gap ++ i.marker) u) ∙ all)

    alone : IsReadAlone (w ++ z) []
    alone =
        let own_list : w ++ z ≡ (w ++ z) ++ [] = sym (append-nil (w ++ z)) in
        region (w ++ z) [] (record {
          text = exchanged kept t new;
          cut = h.new_cut;
          is_cut = h.new_is;
          front = f;
          items = h.touches.new_are ∙ ap (λ (l : List Item). f ++ l) own_list;
          some = subst (λ (l : List Item). no_items l ≡ false) own_list (some_left (w ++ z) h.touches.new_are);
        })

    read : (d : Cut) × (alone.cut ≡ marked (record { rows = []; end = i.gap }) i.marker d)
    read = end_read i.gap i.marker y u own.0.0 line ends alone.cut (ap (all_parts true) come ∙ alone.read)

    many : 0 < text_length w
    many = omega (
      arith,
      new_size,
      back_long kept.back xs,
      low,
      i.some,
      i.long,
      length-append i.gap i.marker,
      length-append (take kept.front t) u,
      length-append new (drop (length t - kept.back) t),
      length-take kept.front t,
      length-drop (length t - kept.back) t,
      h.within,
    )

    later : (rest : List Item) × (w ≡ end_item i.gap i.marker ∷ rest) × (rest ++ z ≡ items_of_cut read.0)
    later = uncons w z (end_item i.gap i.marker) (items_of_cut read.0) (sym alone.items ∙ ap items_of_cut read.1) many

    bytes : kept.front ≡ text_length (f ++ end)
    bytes = omega (arith, joined_long f end, first_long (end_item i.gap i.marker) [], i.long, low)

    side : x ≡ side_of (f ++ end)
    side =
        let more = length-append (ends_near 0 0 f) (end_at (text_length f) (length (near 0 f)) i.gap i.marker ∷ []) in
        chosen
        ∙ (ap (λ (b : Bool). if b then record { rows = before.rows; ends = before.ends + 1; bytes = kept.front } else before) e
        ∙ sides_same before.rows (before.ends + 1) kept.front (side_of (f ++ end))
        (ap (λ (s : Side). s.rows) side_is ∙ ap length (sym (rows_end f i.gap i.marker)))
        (omega (arith, ap (λ (s : Side). s.ends) side_is, ap length (ends_end f i.gap i.marker), more))
        bytes)

    passed : FrontStays t new kept p h x
    passed = record {
      front = f ++ end;
      touched = i.rest;
      written = later.0;
      old_are = h.touches.old_are ∙ (ap (λ (l : List Item). f ++ (l ++ z)) i.items ∙ sym (append_assoc f end (i.rest ++ z)));
      new_are = h.touches.new_are ∙ (ap (λ (l : List Item). f ++ (l ++ z)) later.1 ∙ sym (append_assoc f end (later.0 ++ z)));
      first = omega (arith, bytes);
      some = subst (λ (l : List Item). no_items l ≡ false) (sym later.2) (cut_some read.0);
      side = side;
      rows = ap (λ (k : ℕ). take k p.front.items) (ap (λ (s : Side). s.rows) side ∙ ap length (rows_end f i.gap i.marker)) ∙ (front_taken p xs kept.front at_xs here (omega (arith, fits)) ∙ sym (rows_end f i.gap i.marker));
      read_is = ap (λ (b : Bool). text_read (kept.back - text_length z) (after_end_item b tch) (after_end_item b w)) (keeps_is ∙ e)
          ∙ (λ j. text_read (kept.back - text_length z) (drop 1 (i.items j)) (drop 1 (later.1 j)));
    }

  pub stays : FrontStays t new kept p h x
  stays = go keeps refl
    where
      go : (b : Bool) → keeps ≡ b → FrontStays t new kept p h x
      go false e = strict e
      go true e = passed e (first_end n tch (and_parts begins (is_end_of n tch) e).1)
