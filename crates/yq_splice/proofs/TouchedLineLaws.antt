-- What is read where rows and ends of parts are exchanged has no more lines than the ranges of what is put touch.
use Rattle.std.proofs.Common.{◌≡◌, ◌⊎◌, inl, inr, ⊎_elim, ℕ, ◌+◌, ◌-◌, ◌<◌, ◌≤◌, ◌&&◌, ltb, eqb, leb, Bool, true, false, if◌then◌else◌}
use Rattle.std.proofs.Common.{List, [], ◌∷◌, ◌++◌, length, take, drop, refl, sym, ap, ◌∙◌, subst, arith, append_assoc, append-nil}
use Rattle.std.{proofs.Common.{length-append, length-take, length-drop, take-append-drop}, specs.Prelude.⊤}
use Rattle.std.proofs.lemmas.Bool.{and_from, and_parts, cases_Bool, cases_lt, cond-false, cond-true, eq-eqb, false≢true, leb-true, le-leb}
use Rattle.std.proofs.lemmas.Bool.{lt-ltb, or_cases, or_left, or_right}
use Rattle.std.proofs.lemmas.List.{append_cancel_left, append_cancel_right, take_at}
use Rattle.yq_text.specs.Script.{Extent, Segment, keep, put, are_kept, extents, kept_back, new_text, swapped_segments}
use Rattle.yq_text.proofs.KeptSegments.{one_kept}
use Rattle.yq_core.{specs.Alike.fresh, specs.Text.{is_feed, is_line, put_byte, text_lines}}
use Rattle.yq_row_table.specs.Grammar.{IsCut, IsMarkerLine}
use Rattle.yq_row_table.specs.Items.{Item, row_item, end_item, items_of_cut, items_text, nothing_asked, asked_of, AreRowItems}
use Rattle.yq_row_table.{specs.Meter.{begins_line, line_count}, specs.Reading.all_parts, specs.Regions.{IsReadAlone, ended, no_items}}
use Rattle.yq_row_table.{specs.Rows.{Cut, cut_text, marked}, specs.Touched.{TouchesOnly, in_back, before_offset, item_text}}
use Rattle.yq_row_table.{proofs.ItemLaws.{items_joined, items_of_text, parts_are_items}, proofs.RegionLaws.region}
use Rattle.yq_rows.specs.Following.{after_end_item, exchanged, is_end_of, keeps_end, kept_marker, marker_line, read_text, text_read}
use Rattle.yq_rows.{specs.Following.without_line, specs.Sides.text_length, specs.declared.kept.Kept.Kept}
use Rattle.yq_rows.{proofs.BeginLaws.{first_long, joined_long}, proofs.ItemPlaces.{cut_long, text_split}}
use Rattle.yq_rows.{proofs.KeptSides.{back_long, front_long, last_long}, proofs.LineStarts.line_of_marker, proofs.MarkedLaws.last_marker_is}
use Rattle.yq_rows.proofs.MarkerLaws.{Cuts, fresh_any, fresh_joined, line_at, marker_stays, marker_there, two_cuts}
use Rattle.yq_rows.proofs.PassedEnds.{FirstEnd, end_read, first_end, uncons}
use Rattle.yq_edit_rules.proofs.ItemsLocal.{item_apart}
use Rattle.yq_edit_laws.{specs.TouchedRanges.{AreTouched, IsTouched, PutAreTouched, put_ranges}, proofs.ItemEnds.{back_stop, front_stop}}
use Rattle.yq_splice.specs.TouchedLines.{is_touched, keeps_line, own_text, touched_lines}

-- ---- lines of two texts, one after the other

put_more : (b : ℕ) (ls ms : List (List ℕ)) (k : ℕ) → length ls ≤ length ms + k → length (put_byte b ls) ≤ length (put_byte b ms) + k
put_more b [] [] k h = omega arith
put_more b [] (m ∷ ms) k h = omega arith
put_more b (l ∷ ls) [] k h = omega (arith, h)
put_more b (l ∷ ls) (m ∷ ms) k h = omega (arith, h)

put_some : (b : ℕ) (ls : List (List ℕ)) → length ls ≤ length (put_byte b ls)
put_some b [] = omega arith
put_some b (l ∷ ls) = omega arith

lines_joined : (a b : List ℕ) → line_count (a ++ b) ≤ line_count a + line_count b
unfolding text_lines
lines_joined [] b = omega arith
lines_joined (x ∷ a) b =
    let more = lines_joined a b in
    ⊎_elim {0, 0, 0}
    (λ e. rw e (omega (arith, more)))
    (λ e. rw e (put_more x (text_lines (a ++ b)) (text_lines a) (line_count b) more))
    (cases_Bool (is_feed x))

lines_first : (a b : List ℕ) → line_count a ≤ line_count (a ++ b)
unfolding text_lines
lines_first [] b = omega arith
lines_first (x ∷ a) b =
    let more = lines_first a b in
    ⊎_elim {0, 0, 0}
    (λ e. rw e (omega (arith, more)))
    (λ e. rw e (omega (arith, put_more x (text_lines a) (text_lines (a ++ b)) 0 (omega (arith, more)))))
    (cases_Bool (is_feed x))

-- a text without its last line has no more lines
fewer : (n : ℕ) (t : List ℕ) → line_count (without_line n t) ≤ line_count t
fewer n t = go (begins_line t (length t - n))
  where
    less : line_count (take (length t - n) t) ≤ line_count t
    less = omega (arith, lines_first (take (length t - n) t) (drop (length t - n) t), ap line_count (take-append-drop (length t - n) t))

    go : (b : Bool) → line_count (if b then take (length t - n) t else t) ≤ line_count t
    go true = less
    go false = omega arith

-- ---- where lines begin

begins_is : (q m : List ℕ) → begins_line (q ++ m) (length q) ≡ fresh true q
begins_is [] m = refl
begins_is (b ∷ q) m = sym (line_at true b q m)

begins_at : (q m : List ℕ) (n : ℕ) → n ≡ length q → begins_line (q ++ m) n ≡ fresh true q
begins_at q m n e = ap (begins_line (q ++ m)) e ∙ begins_is q m

-- ---- ranges

touched_true : (from to : ℕ) (es : List Extent) → IsTouched from to es → is_touched from to es ≡ true
touched_true from to [] h = absurd h
touched_true from to (e ∷ es) (inl h) = or_left (leb e.from to && leb from e.to) (is_touched from to es) (and_from (leb e.from to) (leb from e.to) (le-leb e.from to h.0) (le-leb from e.to h.1))
touched_true from to (e ∷ es) (inr h) = or_right (leb e.from to && leb from e.to) (is_touched from to es) (touched_true from to es h)

back_within : (ss : List Segment) → length (kept_back ss) ≤ length (new_text ss)
back_within [] = omega arith
back_within (put o w ∷ ss) = omega (arith, back_within ss, length-append w (new_text ss))
back_within (keep t ∷ ss) = go (back_within ss) (are_kept ss)
  where
    go : length (kept_back ss) ≤ length (new_text ss) → (b : Bool) → length (if b then t ++ kept_back ss else kept_back ss) ≤ length (t ++ new_text ss)
    go less true = omega (arith, less, length-append t (new_text ss), length-append t (kept_back ss))
    go less false = omega (arith, less, length-append t (new_text ss))

none_put : (n from to : ℕ) (ss : List Segment) → are_kept ss ≡ true → IsTouched from to (extents n (swapped_segments ss)) → ⊥
none_put n from to [] all h = h
none_put n from to (keep t ∷ ss) all h = none_put (n + length t) from to ss all h
none_put n from to (put o w ∷ ss) all h = false≢true all

-- what a range touches it touches too where it goes on no farther than up to what is kept at the end
narrow : (n from to low : ℕ) (ss : List Segment) → n + length (new_text ss) ≤ low + length (kept_back ss) → IsTouched from to (extents n (swapped_segments ss)) → IsTouched from low (extents n (swapped_segments ss))
narrow n from to low [] le h = h
narrow n from to low (put o w ∷ ss) le (inl h) = inl (omega (arith, le, back_within ss, length-append w (new_text ss)), h.1)
narrow n from to low (put o w ∷ ss) le (inr h) = inr (narrow (n + length w) from to low ss (omega (arith, le, length-append w (new_text ss))) h)
narrow n from to low (keep t ∷ ss) le h = ⊎_elim {0, 0, 0}
    (λ all. absurd (none_put (n + length t) from to ss all h))
    (λ some. narrow (n + length t) from to low ss (omega (arith, le, ap length (one_kept t ss false some), length-append t (new_text ss))) h)
    (cases_Bool (are_kept ss))

-- ---- items that are touched, each with what belongs to it

module _ (t new : List ℕ) (kept : Kept) (es : List Extent) where
  abbrev Own : ℕ → Item → List ℕ
  Own n i = own_text t new kept n i

  abbrev Lines : ℕ → List Item → ℕ
  Lines n is = touched_lines t new kept es n is

  -- each is touched, and all of it belongs to it
  abbrev Owned : ℕ → List Item → Type 0
  Owned n [] = ⊤
  Owned n (i ∷ is) = (Own n i ≡ item_text i) × IsTouched n (n + length (item_text i)) es × Owned (n + length (item_text i)) is

  one_is : (n : ℕ) (i : Item) (x : List ℕ) → Own n i ≡ x → IsTouched n (n + length x) es → (if is_touched n (n + length (Own n i)) es then line_count (Own n i) else 0) ≡ line_count x
  one_is n i x e h = (λ j. if is_touched n (n + length (e j)) es then line_count (e j) else 0) ∙ cond-true (is_touched n (n + length x) es) (line_count x) 0 (touched_true n (n + length x) es h)

  owned_lines : (n : ℕ) (is : List Item) → Owned n is → line_count (items_text is []) ≤ Lines n is
  unfolding text_lines
  owned_lines n [] h = omega arith
  owned_lines n (i ∷ is) h =
      omega (arith, owned_lines (n + length (item_text i)) is h.2, ap line_count (item_apart i is []), lines_joined (item_text i) (items_text is []), one_is n i (item_text i) h.0 h.1)

  owned_more : (n m : ℕ) (u : List Item) (i : Item) → m ≡ n + text_length u → Owned n u → Own m i ≡ item_text i → IsTouched m (m + length (item_text i)) es → Owned n (u ++ (i ∷ []))
  owned_more n m [] i at h own here =
      let place : m ≡ n = omega (arith, at) in
      (subst (λ (k : ℕ). Own k i ≡ item_text i) place own, subst (λ (k : ℕ). IsTouched k (k + length (item_text i)) es) place here, tt)
  owned_more n m (x ∷ u) i at h own here = (h.0, h.1, owned_more (n + length (item_text x)) m u i (omega (arith, at, first_long x u)) h.2 own here)

  last_lines : (n m : ℕ) (u : List Item) (gap marker : List ℕ) → m ≡ n + text_length u → Owned n u → Own m (end_item gap marker) ≡ gap → IsTouched m (m + length gap) es → line_count (items_text u [] ++ gap) ≤ Lines n (ended u gap marker)
  last_lines n m [] gap marker at h own here =
      let place : m ≡ n = omega (arith, at) in
      omega (arith, one_is n (end_item gap marker) gap (subst (λ (k : ℕ). Own k (end_item gap marker) ≡ gap) place own) (subst (λ (k : ℕ). IsTouched k (k + length gap) es) place here))
  last_lines n m (i ∷ u) gap marker at h own here =
      let apart : items_text (i ∷ u) [] ++ gap ≡ item_text i ++ (items_text u [] ++ gap) = ap (λ l. l ++ gap) (item_apart i u []) ∙ append_assoc (item_text i) (items_text u []) gap in
      omega (arith, last_lines (n + length (item_text i)) m u gap marker (omega (arith, at, first_long i u)) h.2 own here, ap line_count apart, lines_joined (item_text i) (items_text u [] ++ gap), one_is n i (item_text i) h.0 h.1)

  -- items among others
  first_lines : (n : ℕ) (a b : List Item) → Lines n a ≤ Lines n (a ++ b)
  first_lines n [] b = omega arith
  first_lines n (i ∷ a) b = omega (arith, first_lines (n + length (item_text i)) a b)

  later_lines : (n m : ℕ) (a b : List Item) → m ≡ n + text_length a → Lines m b ≤ Lines n (a ++ b)
  later_lines n m [] b at = let place : m ≡ n = omega (arith, at) in omega (arith, ap (λ k. Lines k b) place)
  later_lines n m (i ∷ a) b at = omega (arith, later_lines (n + length (item_text i)) m a b (omega (arith, at, first_long i a)))

  -- The last of items is the end of a part whose marker's line is kept at the end, and all before it is touched.
  record KeptLast (n : ℕ) (w : List Item) : Type 0 where
    front : List Item
    gap : List ℕ
    marker : List ℕ
    items : w ≡ ended front gap marker
    some : 0 < length marker
    after : length new ≤ ((n + text_length front) + length gap) + kept.back
    began : begins_line t (length t - (length new - ((n + text_length front) + length gap))) ≡ true
    begins : begins_line new ((n + text_length front) + length gap) ≡ true
    lines : line_count (items_text front [] ++ gap) ≤ Lines n w

  -- all that is in items belongs to them, or all but the line of such a marker
  abbrev Within : ℕ → List Item → Type 0
  Within n w = (line_count (items_text w []) ≤ Lines n w) ⊎ KeptLast n w

  module _ (n : ℕ) (w : List Item)
      (passed : (u : List Item) (gap marker : List ℕ) (ws : List Item) → w ≡ u ++ (end_item gap marker ∷ ws) → 0 < length marker →
      (n + text_length u) + length (gap ++ marker) ≤ kept.front → begins_line new ((n + text_length u) + length (gap ++ marker)) ≡ true → ⊥)
      (last : (u : List Item) (gap marker : List ℕ) (ws : List Item) → w ≡ u ++ (end_item gap marker ∷ ws) → 0 < length marker → length new ≤ ((n + text_length u) + length gap) + kept.back →
      (ws ≡ []) × (IsTouched (n + text_length u) ((n + text_length u) + length (gap ++ marker)) es → IsTouched (n + text_length u) ((n + text_length u) + length gap) es)) where
    one_by_one : (u ws : List Item) → w ≡ u ++ ws → Owned n u → AreTouched (n + text_length u) ws es → Within n w
    one_by_one u [] is own touched = inl (owned_lines n w (subst (Owned n) (sym (append-nil u) ∙ sym is) own))
    one_by_one u (i ∷ ws) is own touched = decide (λ v e o a. one_by_one v ws e o a) i is touched.0 touched.1
      where
        m : ℕ
        m = n + text_length u

        next : ((v : List Item) → w ≡ v ++ ws → Owned n v → AreTouched (n + text_length v) ws es → Within n w) → (i : Item) → w ≡ u ++ (i ∷ ws) →
            IsTouched m (m + length (item_text i)) es → AreTouched (m + length (item_text i)) ws es → Own m i ≡ item_text i → Within n w
        next again i is here more whole =
            let at : m + length (item_text i) ≡ n + text_length (u ++ (i ∷ [])) = omega (arith, joined_long u (i ∷ []), first_long i []) in
            again (u ++ (i ∷ [])) (is ∙ sym (append_assoc u (i ∷ []) ws)) (owned_more n m u i refl own whole here) (subst (λ (k : ℕ). AreTouched k ws es) at more)

        decide : ((v : List Item) → w ≡ v ++ ws → Owned n v → AreTouched (n + text_length v) ws es → Within n w) → (i : Item) → w ≡ u ++ (i ∷ ws) →
            IsTouched m (m + length (item_text i)) es → AreTouched (m + length (item_text i)) ws es → Within n w
        decide again (row_item r) is here more = next again (row_item r) is here more refl
        decide again (end_item gap marker) is here more = ⊎_elim {0, 0, 0}
            (λ (stays : keeps_line t new kept (m + length gap) (m + length (gap ++ marker)) ≡ true). ⊎_elim {0, 0, 0}
            (λ (some : 0 < length marker). by_side stays some)
            (λ (none : length marker ≤ 0). next again (end_item gap marker) is here more (nothing stays none)) (cases_lt 0 (length marker)))
            (λ (goes : keeps_line t new kept (m + length gap) (m + length (gap ++ marker)) ≡ false). next again (end_item gap marker) is here more
            (cond-false (keeps_line t new kept (m + length gap) (m + length (gap ++ marker))) gap (gap ++ marker) goes))
            (cases_Bool (keeps_line t new kept (m + length gap) (m + length (gap ++ marker))))
          where
            after : Bool
            after = leb (length new) ((m + length gap) + kept.back) && (begins_line t (length t - (length new - (m + length gap))) && begins_line new (m + length gap))

            before : Bool
            before = leb (m + length (gap ++ marker)) kept.front && begins_line new (m + length (gap ++ marker))

            own_is : keeps_line t new kept (m + length gap) (m + length (gap ++ marker)) ≡ true → Own m (end_item gap marker) ≡ gap
            own_is stays = cond-true (keeps_line t new kept (m + length gap) (m + length (gap ++ marker))) gap (gap ++ marker) stays

            no_marker : (x : List ℕ) → length x ≤ 0 → gap ≡ gap ++ x
            no_marker [] none = sym (append-nil gap)
            no_marker (b ∷ x) none = absurd (omega (arith, none))

            nothing : keeps_line t new kept (m + length gap) (m + length (gap ++ marker)) ≡ true → length marker ≤ 0 → Own m (end_item gap marker) ≡ gap ++ marker
            nothing stays none = own_is stays ∙ no_marker marker none

            before_it : before ≡ true → 0 < length marker → ⊥
            before_it e some =
                let both = and_parts (leb (m + length (gap ++ marker)) kept.front) (begins_line new (m + length (gap ++ marker))) e in
                passed u gap marker ws is some (leb-true (m + length (gap ++ marker)) kept.front both.0) both.1

            at_end : after ≡ true → 0 < length marker → keeps_line t new kept (m + length gap) (m + length (gap ++ marker)) ≡ true → Within n w
            at_end e some stays =
                let both = and_parts (leb (length new) ((m + length gap) + kept.back)) (begins_line t (length t - (length new - (m + length gap))) && begins_line new (m + length gap)) e in
                let lines = and_parts (begins_line t (length t - (length new - (m + length gap)))) (begins_line new (m + length gap)) both.1 in
                let far = leb-true (length new) ((m + length gap) + kept.back) both.0 in
                let k = last u gap marker ws is some far in
                let all : w ≡ ended u gap marker = is ∙ ap (λ (l : List Item). u ++ (end_item gap marker ∷ l)) k.0 in
                inr (record {
                  front = u;
                  gap = gap;
                  marker = marker;
                  items = all;
                  some = some;
                  after = far;
                  began = lines.0;
                  begins = lines.1;
                  lines = omega (arith, last_lines n m u gap marker refl own (own_is stays) (k.1 here), ap (Lines n) all);
                })

            by_side : keeps_line t new kept (m + length gap) (m + length (gap ++ marker)) ≡ true → 0 < length marker → Within n w
            by_side stays some = ⊎_elim {0, 0, 0}
                (λ (e : before ≡ true). absurd (before_it e some))
                (λ (e : after ≡ true). at_end e some stays)
                (or_cases before after stays)

    within_lines : AreTouched n w es → Within n w
    within_lines touched = let at : n ≡ n + text_length [] = omega arith in one_by_one [] w refl tt (subst (λ (k : ℕ). AreTouched k w es) at touched)

-- ---- what a change exchanges, keeps and writes

-- A change of a text between bytes that stay, made by segments, and the cuts of the text before and after it.
pub record Changed (t new : List ℕ) (kept : Kept) (c d : Cut) (ss : List Segment) : Type 0 where
  pub old_is : IsCut t c
  pub new_is : IsCut new d
  pub touches : TouchesOnly kept.front kept.back c d
  pub come : List ℕ
  pub becomes : new ≡ exchanged kept t come
  pub within : kept.front + kept.back ≤ length t
  pub text_is : new_text ss ≡ new
  pub back_is : kept.back ≡ length (kept_back ss)
  pub each : PutAreTouched ss kept.front kept.back c d touches

module _ (t new : List ℕ) (kept : Kept) (c d : Cut) (ss : List Segment) (h : Changed t new kept c d ss) where
  abbrev f : List Item
  f = before_offset kept.front (items_of_cut c)

  abbrev z : List Item
  z = in_back kept.back (items_of_cut c)

  abbrev tch : List Item
  tch = h.touches.touched

  abbrev w : List Item
  w = h.touches.written

  abbrev es : List Extent
  es = put_ranges ss

  low : text_length f ≤ kept.front
  low = front_long kept.front (items_of_cut c)

  high : text_length z ≤ kept.back
  high = back_long kept.back (items_of_cut c)

  old_size : length t ≡ (text_length f + text_length tch) + text_length z
  old_size = omega (arith, cut_long t c h.old_is, ap text_length h.touches.old_are, joined_long f (tch ++ z), joined_long tch z)

  new_size : length new ≡ (text_length f + text_length w) + text_length z
  new_size = omega (arith, cut_long new d h.new_is, ap text_length h.touches.new_are, joined_long f (w ++ z), joined_long w z)

  -- the bytes that stay
  abbrev front_bytes : List ℕ
  front_bytes = take kept.front t

  abbrev back_bytes : List ℕ
  back_bytes = drop (length t - kept.back) t

  front_size : length front_bytes ≡ kept.front
  front_size = omega (arith, length-take kept.front t, h.within)

  back_size : length back_bytes ≡ kept.back
  back_size = omega (arith, length-drop (length t - kept.back) t, h.within)

  old_split : t ≡ take (length t - kept.back) t ++ back_bytes
  old_split = sym (take-append-drop (length t - kept.back) t)

  new_split : new ≡ (front_bytes ++ h.come) ++ back_bytes
  new_split = h.becomes ∙ sym (append_assoc front_bytes h.come back_bytes)

  same_front : take kept.front new ≡ front_bytes
  same_front = ap (take kept.front) h.becomes ∙ take_at front_bytes (h.come ++ back_bytes) kept.front front_size

  old_text : t ≡ items_text f [] ++ (items_text tch [] ++ items_text z [])
  old_text =
      h.old_is.text ∙ (sym (items_of_text c) ∙ (ap (λ (l : List Item). items_text l []) h.touches.old_are ∙ (text_split f (tch ++ z) ∙ ap (λ l. items_text f [] ++ l) (text_split tch z))))

  new_text_of : (a b : List Item) → items_of_cut d ≡ a ++ b → new ≡ items_text a [] ++ items_text b []
  new_text_of a b e = h.new_is.text ∙ (sym (items_of_text d) ∙ (ap (λ (l : List Item). items_text l []) e ∙ text_split a b))

  new_rows : (a b : List Item) → items_of_cut d ≡ a ++ b → AreRowItems (asked_of nothing_asked a) b []
  new_rows a b e = items_joined a b nothing_asked [] (subst (λ (l : List Item). AreRowItems nothing_asked l []) e (parts_are_items d true h.new_is.parts))

  -- the end with which what is written begins, where it ends with the first bytes that are kept, and a line begins after it: it was there before
  module _ (gap marker : List ℕ) (rest : List Item) (first : w ≡ end_item gap marker ∷ rest) (some : 0 < length marker) (at : text_length f + length (gap ++ marker) ≡ kept.front) (begins : begins_line new kept.front ≡ true) where
    abbrev y : List ℕ
    y = items_text (rest ++ z) []

    abbrev head : List ℕ
    head = items_text f [] ++ (gap ++ marker)

    size : kept.front ≡ length head
    size = omega (arith, at, length-append (items_text f []) (gap ++ marker))

    are : items_of_cut d ≡ f ++ (end_item gap marker ∷ (rest ++ z))
    are = h.touches.new_are ∙ ap (λ (l : List Item). f ++ (l ++ z)) first

    text : new ≡ head ++ y
    text = new_text_of f (end_item gap marker ∷ (rest ++ z)) are ∙ (ap (λ l. items_text f [] ++ l) (sym (append_assoc gap marker y)) ∙ sym (append_assoc (items_text f []) (gap ++ marker) y))

    own : AreRowItems (asked_of nothing_asked f) (end_item gap marker ∷ (rest ++ z)) []
    own = new_rows f (end_item gap marker ∷ (rest ++ z)) are

    line : IsMarkerLine marker y
    line = ⊎_elim {0, 0, 0} (λ (l : IsMarkerLine marker y). l) (λ no. absurd (omega (arith, some, ap length no.0))) own.0.1

    ends : is_line marker ≡ true
    ends = line_of_marker (items_text f []) gap marker y kept.front size (subst (λ (l : List ℕ). begins_line l kept.front ≡ true) text begins) some line

    abbrev u : List ℕ
    u = drop kept.front t

    head_is : front_bytes ≡ head
    head_is = sym same_front ∙ (ap (take kept.front) text ∙ take_at head y kept.front (sym size))

    old_is : t ≡ head ++ u
    old_is = sym (take-append-drop kept.front t) ∙ ap (λ l. l ++ u) head_is

    come : gap ++ (marker ++ u) ≡ items_text (tch ++ z) []
    come =
        let all : head ++ u ≡ items_text f [] ++ items_text (tch ++ z) [] = sym old_is ∙ (old_text ∙ ap (λ l. items_text f [] ++ l) (sym (text_split tch z))) in
        sym (append_assoc gap marker u) ∙ append_cancel_left (items_text f []) ((gap ++ marker) ++ u) (items_text (tch ++ z) []) (sym (append_assoc (items_text f []) (gap ++ marker) u) ∙ all)

    some_left : (l : List Item) → length t ≡ text_length f + text_length l → no_items l ≡ false
    some_left [] e = absurd (omega (arith, e, at, some, length-append gap marker, h.within))
    some_left (i ∷ l) e = refl

    alone : IsReadAlone (tch ++ z) []
    alone =
        let own_list : tch ++ z ≡ (tch ++ z) ++ [] = sym (append-nil (tch ++ z)) in
        region (tch ++ z) [] (record {
          text = t;
          cut = c;
          is_cut = h.old_is;
          front = f;
          items = h.touches.old_are ∙ ap (λ (l : List Item). f ++ l) own_list;
          some = subst (λ (l : List Item). no_items l ≡ false) own_list (some_left (tch ++ z) (omega (arith, old_size, joined_long tch z)));
        })

    read : (e : Cut) × (alone.cut ≡ marked (record { rows = []; end = gap }) marker e)
    read = end_read gap marker y u own.0.0 line ends alone.cut (ap (all_parts true) come ∙ alone.read)

    there : (more : List Item) × (tch ≡ end_item gap marker ∷ more) × (more ++ z ≡ items_of_cut read.0)
    there = uncons tch z (end_item gap marker) (items_of_cut read.0) (sym alone.items ∙ ap items_of_cut read.1) (omega (arith, old_size, high, h.within, at, some, length-append gap marker))

    begun : begins_line (cut_text c) kept.front ≡ true
    begun =
        ap (λ (l : List ℕ). begins_line l kept.front) (sym h.old_is.text ∙ old_is)
        ∙ (begins_at head u kept.front size ∙ (sym (begins_at head y kept.front size) ∙ (ap (λ (l : List ℕ). begins_line l kept.front) (sym text) ∙ begins)))

    kept_end : keeps_end kept c tch ≡ true
    kept_end =
        let n : ℕ = kept.front - text_length f in
        let long : length (gap ++ marker) ≡ n = omega (arith, at) in
        and_from (begins_line (cut_text c) kept.front) (is_end_of n tch) begun
        (ap (is_end_of n) there.1 ∙ and_from (ltb 0 (length marker)) (eqb (length (gap ++ marker)) n) (lt-ltb 0 (length marker) some) (eq-eqb (length (gap ++ marker)) n long))

  -- the first of the items that are written reaches the bytes' end
  reaches : (i : Item) (is : List Item) → w ≡ i ∷ is → kept.front ≤ text_length f + length (item_text i)
  reaches i is e =
      let all : items_of_cut d ≡ before_offset kept.front (items_of_cut d) ++ (i ∷ (is ++ z)) = h.touches.new_are ∙ ((λ j. sym h.touches.front_same j ++ (e j ++ z))) in
      omega (arith, front_stop kept.front (items_of_cut d) i (is ++ z) all, ap text_length h.touches.front_same)

  -- what is read, after items that aren't
  module _ (pre written : List Item) (are : items_of_cut d ≡ pre ++ (written ++ z)) where
    -- no item is after one whose marker is kept at the end
    last_is : (u : List Item) (gap marker : List ℕ) (ws : List Item) → written ≡ u ++ (end_item gap marker ∷ ws) → 0 < length marker → length new ≤ ((text_length pre + text_length u) + length gap) + kept.back →
        (ws ≡ []) × (IsTouched (text_length pre + text_length u) ((text_length pre + text_length u) + length (gap ++ marker)) es → IsTouched (text_length pre + text_length u) ((text_length pre + text_length u) + length gap) es)
    last_is u gap marker ws is some far = (
      none ws is,
      λ here. narrow 0 (text_length pre + text_length u) ((text_length pre + text_length u) + length (gap ++ marker)) ((text_length pre + text_length u) + length gap) ss (omega (arith, far, ap length h.text_is, h.back_is)) here,
    )
      where
        back_same : in_back kept.back (items_of_cut d) ≡ z
        back_same = h.touches.back_same

        none : (ws : List Item) → written ≡ u ++ (end_item gap marker ∷ ws) → ws ≡ []
        none [] e = refl
        none (i ∷ ws) e =
            let lead : List Item = pre ++ (u ++ (end_item gap marker ∷ [])) in
            let group : pre ++ ((u ++ (end_item gap marker ∷ (i ∷ ws))) ++ z) ≡ lead ++ (i ∷ (ws ++ z)) =
            ap (λ (l : List Item). pre ++ l) (append_assoc u (end_item gap marker ∷ (i ∷ ws)) z ∙ sym (append_assoc u (end_item gap marker ∷ []) (i ∷ (ws ++ z)))) ∙ sym (append_assoc pre (u ++ (end_item gap marker ∷ [])) (i ∷ (ws ++ z))) in
            let all : items_of_cut d ≡ lead ++ (i ∷ (ws ++ z)) = are ∙ (ap (λ (l : List Item). pre ++ (l ++ z)) e ∙ group) in
            let stop = back_stop kept.back (items_of_cut d) lead i ws (all ∙ ap (λ (l : List Item). lead ++ (i ∷ (ws ++ l))) (sym back_same)) in
            absurd (omega (
              arith,
              stop,
              ap (λ (l : List Item). text_length (i ∷ (ws ++ l))) back_same,
              cut_long new d h.new_is,
              ap text_length all,
              joined_long lead (i ∷ (ws ++ z)),
              joined_long pre (u ++ (end_item gap marker ∷ [])),
              joined_long u (end_item gap marker ∷ []),
              first_long (end_item gap marker) [],
              length-append gap marker,
              far,
              some,
            ))

    -- the lines of what is read are those of items between others
    among : Lines t new kept es (text_length pre) written ≤ Lines t new kept es 0 (items_of_cut d)
    among =
        let at : text_length pre ≡ 0 + text_length pre = omega arith in
        omega (arith, first_lines t new kept es (text_length pre) written z, later_lines t new kept es 0 (text_length pre) pre (written ++ z) at, ap (Lines t new kept es 0) are)

    -- the marker at the end is that of the last item that was touched
    module _ (k : KeptLast t new kept es (text_length pre) written) where
      abbrev q : List ℕ
      q = items_text k.front [] ++ k.gap

      abbrev from : ℕ
      from = (text_length pre + text_length k.front) + length k.gap

      inner : items_text written [] ≡ q ++ k.marker
      inner = ap (λ (l : List Item). items_text l []) k.items
          ∙ (text_split k.front (end_item k.gap k.marker ∷ [])
          ∙ (ap (λ l. items_text k.front [] ++ (k.gap ++ l)) (append-nil k.marker) ∙ sym (append_assoc (items_text k.front []) k.gap k.marker)))

      whole_is : new ≡ (items_text pre [] ++ q) ++ (k.marker ++ items_text z [])
      whole_is =
          new_text_of pre (written ++ z) are
          ∙ (ap (λ l. items_text pre [] ++ l) (text_split written z ∙ (ap (λ l. l ++ items_text z []) inner ∙ append_assoc q k.marker (items_text z []))) ∙ sym (append_assoc (items_text pre []) q (k.marker ++ items_text z [])))

      at_is : from ≡ length (items_text pre [] ++ q)
      at_is = omega (arith, length-append (items_text pre []) q, length-append (items_text k.front []) k.gap)

      sizes : length new ≡ (from + length k.marker) + text_length z
      sizes = omega (arith, ap length whole_is, length-append (items_text pre [] ++ q) (k.marker ++ items_text z []), length-append k.marker (items_text z []), at_is)

      room : length k.marker ≤ kept.back - text_length z
      room = omega (arith, sizes, k.after)

      line_there : IsMarkerLine k.marker (items_text z [])
      line_there = marker_there (items_of_cut d) (pre ++ k.front) z k.gap k.marker (parts_are_items d true h.new_is.parts)
          (are ∙ (ap (λ (l : List Item). pre ++ (l ++ z)) k.items ∙ (sym (append_assoc pre (ended k.front k.gap k.marker) z) ∙ ap (λ (l : List Item). l ++ z) (sym (append_assoc pre k.front (end_item k.gap k.marker ∷ [])))))) k.some

      -- a line begins with it among what is read
      fresh_there : fresh true q ≡ true
      fresh_there =
          let whole : fresh true (items_text pre [] ++ q) ≡ true = sym (begins_at (items_text pre [] ++ q) (k.marker ++ items_text z []) from at_is) ∙ (ap (λ (l : List ℕ). begins_line l from) (sym whole_is) ∙ k.begins) in
          fresh_any (fresh true (items_text pre [])) q (sym (fresh_joined true (items_text pre []) q) ∙ whole)

      left_out : without_line (length k.marker) (items_text written []) ≡ q
      left_out =
          let place : length (items_text written []) - length k.marker ≡ length q = omega (arith, ap length inner, length-append q k.marker) in
          let begins : begins_line (items_text written []) (length (items_text written []) - length k.marker) ≡ true =
          ap (λ (l : List ℕ). begins_line l (length (items_text written []) - length k.marker)) inner ∙ (begins_at q k.marker (length (items_text written []) - length k.marker) place ∙ fresh_there) in
          cond-true (begins_line (items_text written []) (length (items_text written []) - length k.marker)) (take (length (items_text written []) - length k.marker) (items_text written [])) (items_text written []) begins
          ∙ (ap (take (length (items_text written []) - length k.marker)) inner ∙ take_at q k.marker (length (items_text written []) - length k.marker) (sym place))

      -- the same in the text before
      cut_back : Cuts (front_bytes ++ h.come) back_bytes (items_text pre [] ++ q) (k.marker ++ items_text z [])
      cut_back = two_cuts (front_bytes ++ h.come) back_bytes (items_text pre [] ++ q) (k.marker ++ items_text z []) (sym new_split ∙ whole_is) (omega (arith, room, back_size, high, k.some, length-append k.marker (items_text z [])))

      abbrev lead_bytes : List ℕ
      lead_bytes = take (length t - kept.back) t ++ cut_back.0

      old_all : items_text f [] ++ items_text tch [] ≡ lead_bytes ++ k.marker
      old_all =
          let first : t ≡ (items_text f [] ++ items_text tch []) ++ items_text z [] = old_text ∙ sym (append_assoc (items_text f []) (items_text tch []) (items_text z [])) in
          let second : t ≡ (lead_bytes ++ k.marker) ++ items_text z [] =
          old_split ∙ (ap (λ l. take (length t - kept.back) t ++ l) cut_back.1 ∙ (sym (append_assoc (take (length t - kept.back) t) cut_back.0 (k.marker ++ items_text z [])) ∙ sym (append_assoc lead_bytes k.marker (items_text z [])))) in
          append_cancel_right (items_text f [] ++ items_text tch []) (lead_bytes ++ k.marker) (items_text z []) (sym first ∙ second)

      cut_tch : Cuts (items_text f []) (items_text tch []) lead_bytes k.marker
      cut_tch = two_cuts (items_text f []) (items_text tch []) lead_bytes k.marker old_all (omega (arith, room, old_size, low, high, h.within))

      abbrev lead : List ℕ
      lead = cut_tch.0

      begins_there : begins_line (items_text tch []) (length lead) ≡ true
      begins_there =
          let place : length t - (length new - from) ≡ length lead_bytes = omega (arith, sizes, old_size, ap length old_all, length-append (items_text f []) (items_text tch []), length-append lead_bytes k.marker) in
          let text : t ≡ lead_bytes ++ (k.marker ++ items_text z []) =
          old_split ∙ (ap (λ l. take (length t - kept.back) t ++ l) cut_back.1 ∙ sym (append_assoc (take (length t - kept.back) t) cut_back.0 (k.marker ++ items_text z []))) in
          let whole : fresh true lead_bytes ≡ true = sym (begins_at lead_bytes (k.marker ++ items_text z []) (length t - (length new - from)) place)
          ∙ (ap (λ (l : List ℕ). begins_line l (length t - (length new - from))) (sym text) ∙ k.began) in
          let own : fresh true lead ≡ true = fresh_any (fresh true (items_text f [])) lead (sym (fresh_joined true (items_text f []) lead) ∙ (ap (fresh true) (sym cut_tch.2) ∙ whole)) in
          ap (λ (l : List ℕ). begins_line l (length lead)) cut_tch.1 ∙ (begins_is lead k.marker ∙ own)

      stays : (front : List Item) × (gap : List ℕ) × (tch ≡ ended front gap k.marker)
      stays =
          marker_stays (asked_of nothing_asked f) tch z lead k.marker (items_joined f (tch ++ z) nothing_asked [] (subst (λ (l : List Item). AreRowItems nothing_asked l []) h.touches.old_are (parts_are_items c true h.old_is.parts)))
          line_there cut_tch.1 begins_there k.some
          (λ u i is. omega (arith, room, high, last_long kept.back f u z i (ap (λ (l : List Item). in_back kept.back (f ++ (l ++ z))) (sym is) ∙ ap (in_back kept.back) (sym h.touches.old_are))))

      kept_there : (x : List Item) (front : List Item) (gap : List ℕ) → x ≡ ended front gap k.marker → kept_marker (kept.back - text_length z) x ≡ length k.marker
      kept_there x front gap e =
          let own : marker_line x ≡ k.marker = ap marker_line e ∙ last_marker_is front (end_item gap k.marker) in
          cond-true (leb (length (marker_line x)) (kept.back - text_length z)) (length (marker_line x)) 0 (le-leb (length (marker_line x)) (kept.back - text_length z) (omega (arith, room, ap length own))) ∙ ap length own

    -- so what is read has no more lines
    read_lines : (touched : List Item) → ((k : KeptLast t new kept es (text_length pre) written) → kept_marker (kept.back - text_length z) touched ≡ length k.marker) → Within t new kept es (text_length pre) written →
        line_count (text_read (kept.back - text_length z) touched written) ≤ Lines t new kept es 0 (items_of_cut d)
    read_lines touched marker (inl all) = omega (arith, fewer (kept_marker (kept.back - text_length z) touched) (items_text written []), all, among)
    read_lines touched marker (inr k) =
        let same : text_read (kept.back - text_length z) touched written ≡ items_text k.front [] ++ k.gap = ap (λ (n : ℕ). without_line n (items_text written [])) (marker k) ∙ left_out k in
        omega (arith, ap line_count same, k.lines, among)

  -- where no end is kept among the first bytes
  strict : keeps_end kept c tch ≡ false → line_count (text_read (kept.back - text_length z) tch w) ≤ Lines t new kept es 0 (items_of_cut d)
  strict none = read_lines f w h.touches.new_are tch
      (λ k. let s = stays f w h.touches.new_are k in kept_there f w h.touches.new_are k tch s.0 s.1 s.2)
      (within_lines t new kept es (text_length f) w passed (last_is f w h.touches.new_are) h.each)
    where
      passed : (u : List Item) (gap marker : List ℕ) (ws : List Item) → w ≡ u ++ (end_item gap marker ∷ ws) → 0 < length marker →
          (text_length f + text_length u) + length (gap ++ marker) ≤ kept.front →
          begins_line new ((text_length f + text_length u) + length (gap ++ marker)) ≡ true → ⊥
      passed [] gap marker ws is some less begins =
          let at : text_length f + length (gap ++ marker) ≡ kept.front = omega (arith, less, reaches (end_item gap marker) ws is) in
          let place : (text_length f + text_length []) + length (gap ++ marker) ≡ kept.front = omega (arith, at) in
          false≢true (sym none ∙ kept_end gap marker ws is some at (subst (λ (n : ℕ). begins_line new n ≡ true) place begins))
      passed (x ∷ u) gap marker ws is some less begins = omega (arith, less, reaches x (u ++ (end_item gap marker ∷ ws)) is, first_long x u, length-append gap marker, some)

  -- where one is
  passing : keeps_end kept c tch ≡ true → (l : List Item) → w ≡ l → line_count (text_read (kept.back - text_length z) (drop 1 tch) (drop 1 l)) ≤ Lines t new kept es 0 (items_of_cut d)
  unfolding text_lines
  passing keeps [] none = omega (arith, fewer (kept_marker (kept.back - text_length z) (drop 1 tch)) [])
  passing keeps (x ∷ ws) first = read_lines pre ws are (drop 1 tch) same_marker (within_lines t new kept es (text_length pre) ws passed (last_is pre ws are) touched)
    where
      pre : List Item
      pre = f ++ (x ∷ [])

      are : items_of_cut d ≡ pre ++ (ws ++ z)
      are = h.touches.new_are ∙ (ap (λ (l : List Item). f ++ (l ++ z)) first ∙ sym (append_assoc f (x ∷ []) (ws ++ z)))

      long : text_length pre ≡ text_length f + length (item_text x)
      long = omega (arith, joined_long f (x ∷ []), first_long x [])

      touched : AreTouched (text_length pre) ws es
      touched =
          let all : AreTouched (text_length f) (x ∷ ws) es = subst (λ (l : List Item). AreTouched (text_length f) l es) first h.each in
          subst (λ (n : ℕ). AreTouched n ws es) (sym long) all.1

      passed : (u : List Item) (gap marker : List ℕ) (vs : List Item) → ws ≡ u ++ (end_item gap marker ∷ vs) → 0 < length marker →
          (text_length pre + text_length u) + length (gap ++ marker) ≤ kept.front →
          begins_line new ((text_length pre + text_length u) + length (gap ++ marker)) ≡ true → ⊥
      passed u gap marker vs is some less begins = omega (arith, less, reaches x ws first, long, length-append gap marker, some)

      same_marker : (k : KeptLast t new kept es (text_length pre) ws) → kept_marker (kept.back - text_length z) (drop 1 tch) ≡ length k.marker
      same_marker k = let s = stays pre ws are k in go s.0 s.1 s.2
        where
          n : ℕ
          n = kept.front - text_length f

          one : FirstEnd n tch
          one = first_end n tch (and_parts (begins_line (cut_text c) kept.front) (is_end_of n tch) keeps).1

          first_size : List Item → ℕ
          first_size [] = 0
          first_size (i ∷ is) = length (item_text i)

          go : (front : List Item) (gap : List ℕ) → tch ≡ ended front gap k.marker → kept_marker (kept.back - text_length z) (drop 1 tch) ≡ length k.marker
          go [] gap is =
              let alone : text_length tch ≡ length (gap ++ k.marker) = ap text_length is ∙ omega (arith, first_long (end_item gap k.marker) []) in
              let same : length (one.gap ++ one.marker) ≡ length (gap ++ k.marker) = ap first_size (sym one.items ∙ is) in
              absurd (omega (arith, alone, same, one.long, old_size, low, h.within, room pre ws are k, k.some, high))
          go (i ∷ front) gap is = kept_there pre ws are k (drop 1 tch) front gap (ap (drop 1) is)

  -- what is read has no more lines than what is put touches
  pub read_within : line_count (read_text kept c d h.touches) ≤ touched_lines t new kept es 0 (items_of_cut d)
  read_within = go (keeps_end kept c tch) refl
    where
      go : (b : Bool) → keeps_end kept c tch ≡ b → line_count (text_read (kept.back - text_length z) (after_end_item b tch) (after_end_item b w)) ≤ Lines t new kept es 0 (items_of_cut d)
      go true e = passing e w refl
      go false e = strict e
