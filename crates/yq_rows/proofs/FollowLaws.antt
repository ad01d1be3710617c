-- What a change touches, and what is read and exchanged for it.
use Rattle.std.proofs.Common.{◌≡◌, ⊎_elim, ltb, ◌||◌, true, false, not, ℕ, ◌+◌, ◌-◌, ◌≤◌, List, [], ◌∷◌, ◌++◌, length, take, drop, Option}
use Rattle.std.proofs.Common.{Some, None, refl, sym, ap, ◌∙◌, subst, arith, append_assoc, append-nil, length-append, rules}
use Rattle.std.{proofs.lemmas.Bool.{cases_lt, le-ltb, lt-ltb, or_right}, proofs.lemmas.List.{append_cancel_left, append_cancel_right}}
use Rattle.std.{proofs.lemmas.Str.IsUtf8-nil, specs.Str.IsUtf8}
use Rattle.yq_row_table.specs.Grammar.{IsCut, IsMarkerLine}
use Rattle.yq_row_table.specs.Items.{Item, end_item, items_of_cut, items_text, nothing_asked, asked_of, AreRowItems}
use Rattle.yq_row_table.{specs.Kept.{kept_rows, near, ends_near, TextsIn}, specs.Meter.begins_line}
use Rattle.yq_row_table.{specs.Regions.{AreItemsIn, ended, no_items}, specs.Rows.Cut, specs.Touched.{TouchesOnly, in_back, before_offset}}
use Rattle.yq_row_table.{specs.declared.ends.EndPlace.EndPlace, specs.declared.places.Places.Places}
use Rattle.yq_row_table.{proofs.ItemLaws.{items_joined, items_of_text, parts_are_items}, proofs.KeptLaws.{items_texts, near_joined}}
use Rattle.yq_row_table.{proofs.RegionEnds.region_end, proofs.RegionLaws.region, proofs.ScanLaws.one_cut}
use Rattle.yq_rows.specs.Exchanging.{TextChange}
use Rattle.yq_rows.specs.Following.{Follows, after_end_item, exchanged, keeps_end, read_text, text_read, without_line}
use Rattle.yq_rows.specs.Reading.{AreEdges, IsRead, IsUnread, read_part, region_text, unread_end}
use Rattle.yq_rows.specs.Sides.{AreAt, IsSplitAt, IsSideAfter, marked_end, not_in_back, side_of, text_length}
use Rattle.yq_rows.{specs.declared.kept.Kept.Kept, specs.declared.sides.Side.Side, specs.declared.touched.Touched.Touched}
use Rattle.yq_rows.{proofs.BackLaws.back_taken, proofs.BeginLaws.{back_found, joined_long}}
use Rattle.yq_rows.proofs.CountLaws.{near_count, ends_count, ends_joined}
use Rattle.yq_rows.proofs.EdgeLaws.{Pieces, begin_edge, back_edge, end_edge, region_ends, region_is}
use Rattle.yq_rows.{proofs.ExchangeLaws.{kept_count, texts_first, texts_second}, proofs.KeptSides.{back_long, last_long, some_after}}
use Rattle.yq_rows.{proofs.ItemPlaces.{cut_long, cut_places, text_split}, proofs.MarkedLaws.{KeepsEnd, KeepsMarker, agrees}}
use Rattle.yq_rows.{proofs.MarkerLaws.{marker_stays, marker_there}, proofs.ReadLaws.{unread_is, without, without_none}}
use Rattle.yq_rows.proofs.PassedLaws.{FrontStays}

-- the text of three lists of items
three : (a b c : List Item) → items_text (a ++ (b ++ c)) [] ≡ items_text a [] ++ (items_text b [] ++ items_text c [])
three a b c = text_split a (b ++ c) ∙ ap (λ l. items_text a [] ++ l) (text_split b c)

module _ (t new : List ℕ) (kept : Kept) (p : Places) (x : Touched) (h : Follows t p kept new) (split : IsSplitAt kept.front (length t) p) (s : FrontStays t new kept p h x.front) (after : IsSideAfter p (length t) kept.back x.old)
    (marked_is : x.marked ≡ marked_end p.ends x.front x.old (length t - kept.back)) (more_is : x.more ≡ (ltb x.old.rows (length (kept_rows p)) || ltb x.old.ends (length p.ends))) where
  abbrev xs : List Item
  xs = items_of_cut h.old_cut

  abbrev f : List Item
  f = s.front

  abbrev z : List Item
  z = in_back kept.back xs

  abbrev tch : List Item
  tch = s.touched

  abbrev w : List Item
  w = s.written

  long : length t ≡ text_length xs
  long = cut_long t h.old_cut h.old_is

  at_xs : AreAt p xs
  at_xs = cut_places p h.old_cut h.placed

  here : IsSplitAt kept.front (text_length xs) p
  here = subst (λ (n : ℕ). IsSplitAt kept.front n p) long split

  fits : kept.front + kept.back ≤ text_length xs
  fits = omega (arith, h.within, long)

  group : xs ≡ (f ++ tch) ++ z
  group = s.old_are ∙ sym (append_assoc f tch z)

  old_is : x.old ≡ side_of (f ++ tch)
  old_is =
      let b = back_found xs 0 kept.back in
      let y : List Item = not_in_back kept.back xs in
      let all : y ++ z ≡ (f ++ tch) ++ z = (λ i. b.is_front i ++ b.comes_later i) ∙ (sym b.split ∙ group) in
      after xs kept.front at_xs split h.within long ∙ ap side_of (append_cancel_right y (f ++ tch) z all)

  placed : AreAt p (f ++ (tch ++ z))
  placed = subst (AreAt p) s.old_are at_xs

  size : text_length xs ≡ text_length (f ++ tch) + text_length z
  size = ap text_length group ∙ joined_long (f ++ tch) z

  pieces : Pieces t (items_text f []) (items_text tch []) (items_text z []) kept.front kept.back
  pieces = record {
    text = h.old_is.text ∙ (sym (items_of_text h.old_cut) ∙ (ap (λ (l : List Item). items_text l []) s.old_are ∙ three f tch z));
    first = s.first;
    last = back_long kept.back xs;
    within = h.within;
  }

  begin : x.front.bytes ≡ length (items_text f [])
  begin = ap (λ (a : Side). a.bytes) s.side

  end : x.old.bytes ≡ length (items_text f []) + length (items_text tch [])
  end = ap (λ (a : Side). a.bytes) old_is ∙ joined_long f tch

  abbrev part : List ℕ
  part = region_text t x kept new

  part_is : part ≡ items_text w []
  part_is =
      let all : exchanged kept t new ≡ items_text f [] ++ (items_text w [] ++ items_text z []) =
      h.new_is.text ∙ (sym (items_of_text h.new_cut) ∙ (ap (λ (l : List Item). items_text l []) s.new_are ∙ three f w z)) in
      region_is t (items_text f []) (items_text tch []) (items_text z []) kept.front kept.back pieces new (items_text w []) x.front.bytes x.old.bytes begin end all

  new_size : length (exchanged kept t new) ≡ (text_length f + text_length w) + text_length z
  new_size = cut_long (exchanged kept t new) h.new_cut h.new_is ∙ (ap text_length s.new_are ∙ omega (arith, joined_long f (w ++ z), joined_long w z))

  -- texts
  front_texts : TextsIn f
  front_texts = texts_first f (tch ++ z) placed.texts

  back_texts : TextsIn z
  back_texts = texts_second tch z (texts_second f (tch ++ z) placed.texts)

  utf8 : IsUtf8 t
  utf8 = subst IsUtf8 (items_of_text h.old_cut ∙ sym h.old_is.text) (items_texts xs [] at_xs.texts IsUtf8-nil)

  edges : AreEdges t x kept
  edges =
      let back_utf8 = items_texts z [] back_texts IsUtf8-nil in
      record {
        front = h.front_edge;
        begin = begin_edge t (items_text f []) (items_text tch []) (items_text z []) kept.front kept.back pieces x.front.bytes begin utf8 (items_texts f [] front_texts IsUtf8-nil) h.front_edge;
        back = back_edge t (items_text f []) (items_text tch []) (items_text z []) kept.front kept.back pieces x.old.bytes end h.back_edge;
        end = end_edge t (items_text f []) (items_text tch []) (items_text z []) kept.front kept.back pieces x.old.bytes end back_utf8;
      }

  -- whether items come after
  more : x.more ≡ not (no_items z)
  more = more_is ∙ go z (omega (arith, ap (λ (a : Side). a.rows) old_is, rows)) (omega (arith, ap (λ (a : Side). a.ends) old_is, ends))
    where
      rows : length (kept_rows p) ≡ length (near 0 (f ++ tch)) + length (near 0 z)
      rows = kept_count (text_length xs) p
          ∙ (ap length at_xs.rows_are
          ∙ (ap (λ (l : List Item). length (near 0 l)) group
          ∙ (ap length (near_joined 0 (f ++ tch) z)
          ∙ (length-append (near 0 (f ++ tch)) (near (0 + text_length (f ++ tch)) z)
          ∙ ap (λ (n : ℕ). length (near 0 (f ++ tch)) + n) (near_count (0 + text_length (f ++ tch)) 0 z)))))

      ends : length p.ends ≡ length (ends_near 0 0 (f ++ tch)) + length (ends_near 0 0 z)
      ends =
          let m : ℕ = 0 + text_length (f ++ tch) in
          let k : ℕ = 0 + length (near 0 (f ++ tch)) in
          ap length at_xs.ends_are
          ∙ (ap (λ (l : List Item). length (ends_near 0 0 l)) group
          ∙ (ap length (ends_joined 0 0 (f ++ tch) z)
          ∙ (length-append (ends_near 0 0 (f ++ tch)) (ends_near m k z)
          ∙ ap (λ (n : ℕ). length (ends_near 0 0 (f ++ tch)) + n) (ends_count m k 0 0 z))))

      go : (l : List Item) → length (kept_rows p) ≡ x.old.rows + length (near 0 l) → length p.ends ≡ x.old.ends + length (ends_near 0 0 l) → (ltb x.old.rows (length (kept_rows p)) || ltb x.old.ends (length p.ends)) ≡ not (no_items l)
      go l h1 h2 = search (rules, le-ltb, ⊎_elim, lt-ltb, some_after, cases_lt, or_right)

  -- the items that are read
  are_items_in : (a b : List Item) → w ++ z ≡ a ++ b → AreItemsIn a b
  are_items_in a b is = record {
    text = exchanged kept t new;
    cut = h.new_cut;
    is_cut = h.new_is;
    front = f;
    items = s.new_are ∙ ap (λ (l : List Item). f ++ l) is;
    some = subst (λ (l : List Item). no_items l ≡ false) is s.some;
  }

  -- the marker that is kept
  reports : KeepsMarker tch (kept.back - text_length z) x.marked
  reports = subst (KeepsMarker tch (kept.back - text_length z)) (sym marked_is) (agrees f tch z p.ends x.front x.old (length t) kept.back (record {
    rest = ends_near (0 + text_length (f ++ tch)) (0 + length (near 0 (f ++ tch))) z;
    ends = at_xs.ends_are ∙ (ap (ends_near 0 0) group ∙ ends_joined 0 0 (f ++ tch) z);
    front_is = s.side;
    old_is = old_is;
    long = long ∙ size;
    last = pieces.last;
    within = omega (arith, h.within);
  }))

  module _ (e : EndPlace) (k : KeepsEnd tch (kept.back - text_length z) e) where
    -- the text before the marker's line
    abbrev inner : List ℕ
    inner = items_text k.front [] ++ k.gap

    touched_ends : items_text f [] ++ items_text tch [] ≡ (items_text f [] ++ inner) ++ k.marker
    touched_ends = search (rules, text_split, append-nil, append_assoc)

    line : IsMarkerLine k.marker (items_text z [])
    line = marker_there xs (f ++ k.front) z k.gap k.marker (subst (λ (l : List Item). AreRowItems nothing_asked l []) refl (parts_are_items h.old_cut true h.old_is.parts))
        (group ∙ (ap (λ (l : List Item). (f ++ l) ++ z) k.items ∙ ap (λ (l : List Item). l ++ z) (sym (append_assoc f k.front (end_item k.gap k.marker ∷ []))))) k.some

    ends_so : (lead : List ℕ) × (items_text w [] ≡ lead ++ k.marker)
    ends_so =
        let y : List ℕ = items_text f [] ++ inner in
        let low : length t - kept.back ≤ length y = omega (arith, k.within, pieces.last, long, size, joined_long f tch, ap length touched_ends, length-append y k.marker, length-append (items_text f []) (items_text tch [])) in (
          drop x.front.bytes (take kept.front t) ++ (new ++ drop (length t - kept.back) y),
          sym part_is
              ∙ region_ends t (items_text f []) (items_text tch []) (items_text z []) kept.front kept.back pieces new y k.marker x.front.bytes
              x.old.bytes end touched_ends low,
        )

    stays : begins_line (items_text w []) (length (items_text w []) - e.marker) ≡ true → (front : List Item) × (gap : List ℕ) × (w ≡ ended front gap k.marker)
    stays begins =
        let lead = ends_so.0 in
        let place : length (items_text w []) - e.marker ≡ length lead = omega (arith, k.long, ap length ends_so.1, length-append lead k.marker) in
        let after = items_joined f (w ++ z) nothing_asked [] (subst (λ (l : List Item). AreRowItems nothing_asked l []) s.new_are (parts_are_items h.new_cut true h.new_is.parts)) in
        marker_stays (asked_of nothing_asked f) w z lead k.marker after line ends_so.1 (subst (λ (n : ℕ). begins_line (items_text w []) n ≡ true) place begins) k.some
        (λ u i is. omega (arith, k.within, pieces.last, last_long kept.back f u z i (ap (λ (l : List Item). in_back kept.back (f ++ (l ++ z))) (sym is) ∙ (ap (in_back kept.back) (sym s.new_are) ∙ h.touches.back_same))))

    unread : begins_line (items_text w []) (length (items_text w []) - e.marker) ≡ true → IsUnread w e
    unread begins =
        let y = stays begins in
        let texts = texts_second k.front (end_item k.gap k.marker ∷ []) (subst TextsIn k.items (texts_first tch z (texts_second f (tch ++ z) placed.texts))) in
        record { front = y.0; gap = y.1; marker = k.marker; items = y.2; long = k.long; text = texts.1; read = region_end y.0 z y.1 k.marker (are_items_in (ended y.0 y.1 k.marker) z (ap (λ (l : List Item). l ++ z) y.2)) }

  read : IsRead part x
  read =
      record {
        written = w;
        after = z;
        text = part_is;
        read = region w z (are_items_in w z refl);
        more = more;
        unread = λ d is. go x.marked reports d (ap (λ (l : List ℕ). unread_end l x.marked) (sym part_is) ∙ is);
        small = omega (arith, ap length part_is, new_size, h.new_is.size);
      }
    where
      go : (o : Option EndPlace) → KeepsMarker tch (kept.back - text_length z) o → (d : EndPlace) → unread_end (items_text w []) o ≡ Some d → IsUnread w d
      go o h1 d h2 = search (rules, unread_is, unread)

  -- what is counted
  abbrev m : ℕ
  m = kept.back - text_length z

  by_reports : (o : Option EndPlace) → KeepsMarker tch m o → text_read m tch w ≡ read_part (items_text w []) o
  by_reports None none = ap (λ (k : ℕ). without_line k (items_text w [])) none ∙ without_none (items_text w [])
  by_reports (Some e) k = ap (λ (j : ℕ). without_line j (items_text w [])) (k.kept ∙ sym k.long) ∙ without (items_text w []) e

  -- of what is touched and written there are no two
  same_read : (j : TouchesOnly kept.front kept.back h.old_cut h.new_cut) → read_text kept h.old_cut h.new_cut j ≡ read_text kept h.old_cut h.new_cut h.touches
  same_read j =
      let y : List Item = before_offset kept.front xs in
      let old : j.touched ≡ h.touches.touched =
      append_cancel_right j.touched h.touches.touched z (append_cancel_left y (j.touched ++ z) (h.touches.touched ++ z) (sym j.old_are ∙ h.touches.old_are)) in
      let come : j.written ≡ h.touches.written =
      append_cancel_right j.written h.touches.written z (append_cancel_left y (j.written ++ z) (h.touches.written ++ z) (sym j.new_are ∙ h.touches.new_are)) in
      λ i. text_read m (after_end_item (keeps_end kept h.old_cut (old i)) (old i)) (after_end_item (keeps_end kept h.old_cut (old i)) (come i))

  once : (c d : Cut) → IsCut t c → IsCut (exchanged kept t new) d → (j : TouchesOnly kept.front kept.back c d) → read_text kept c d j ≡ read_part part x.marked
  once c d was is =
      let own : (j : TouchesOnly kept.front kept.back h.old_cut h.new_cut) → read_text kept h.old_cut h.new_cut j ≡ read_part part x.marked =
      λ j. same_read j ∙ (s.read_is ∙ (by_reports x.marked reports ∙ ap (λ (l : List ℕ). read_part l x.marked) (sym part_is))) in
      subst (λ (k : Cut). (j : TouchesOnly kept.front kept.back k d) → read_text kept k d j ≡ read_part part x.marked) (one_cut t h.old_cut c h.old_is was)
      (subst (λ (k : Cut). (j : TouchesOnly kept.front kept.back h.old_cut k) → read_text kept h.old_cut k j ≡ read_part part x.marked) (one_cut (exchanged kept t new) h.new_cut d h.new_is is) own)

  pub changes : TextChange t new kept p x
  unfolding read
  changes = record {
    before = f;
    touched = tch;
    read = read;
    placed = placed;
    front_is = s.side;
    old_is = old_is;
    front_rows = s.rows;
    back_rows = back_taken p xs kept.front kept.back at_xs here fits;
    edges = edges;
    old_items = λ c is. sym s.old_are ∙ ap items_of_cut (one_cut t h.old_cut c h.old_is is);
    items = λ d is. sym s.new_are ∙ ap items_of_cut (one_cut (exchanged kept t new) h.new_cut d h.new_is is);
    small = omega (arith, new_size, h.new_is.size, joined_long f (w ++ z), joined_long w z);
    once = once;
  }
