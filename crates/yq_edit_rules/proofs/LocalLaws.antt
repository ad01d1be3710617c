-- Items of a cut, and rows of a document, exchanged for others.
use Rattle.std.proofs.Common.{◌≡◌, ℕ, ◌≤◌, List, [], ◌∷◌, ◌++◌, length, Some, false, refl, sym, ap, ◌∙◌, subst, append_assoc, arith, rules}
use Rattle.std.{proofs.lemmas.List.{append_cancel_right, length-append}, proofs.lemmas.Option.same_Some, specs.List.slice_get}
use mathlib.Core.List.{head-eq_of_cons-eq, tail-eq_of_cons-eq}
use Rattle.yq_row_table.proofs.ItemLaws.{rows_items_text, items_of_text, items_text-append}
use Rattle.yq_row_table.specs.Items.{Item, row_item, end_item, rows_items, items_text}
use Rattle.yq_row_table.{specs.Rows.{Row, rows_text, Part, part_text, Cut, cut_text}, proofs.KeptLaws.items_apart}
use Rattle.yq_documents.{specs.Documents.document_parts, specs.Reading.read_at}
use Rattle.yq_places.proofs.RunSpans.{rows_then}
use Rattle.yq_edit_rules.{specs.Changed.put_document, specs.DocumentItems.HasItems, specs.DocumentRows.after_document}
use Rattle.yq_edit_rules.proofs.DocumentItemLaws.{document_has_items, rows_before, rows_joined}
use Rattle.yq_edit_rules.specs.Local.{InFirst, InLast, IsLocal, IsLocalTo}
use Rattle.yq_edit_rules.proofs.ItemsLocal.{IsInside, ItemsGiveWay, gone_inside, come_inside, items_local, one_first, one_last}
use Rattle.yq_text.{specs.Script.{Segment, old_text, new_text, are_kept, kept_front, kept_back}, proofs.KeptSegments.{IsBetween, between}}

-- the new text has one cut
pub cut_known : (ss : List Segment) (c d : Cut) → read_at (cut_text d) ≡ Some d → cut_text d ≡ new_text ss → IsLocal ss c d → IsLocalTo ss c
cut_known ss c d read text local new is = subst (IsLocal ss c) (same_Some _ _ (sym read ∙ (ap read_at text ∙ is))) local

-- ---- rows of a document

-- Rows of document k are replaced by others, between those before and those after, and the gap after them stays.
pub record RowsGiveWay (ss : List Segment) (c : Cut) (k : ℕ) (q : Part) : Type 0 where
  pub p : Part
  pub there : slice_get (document_parts c) k ≡ Some p
  pub start : List ℕ
  pub put : (x : Part) → cut_text (put_document k x c) ≡ start ++ part_text x (after_document k c)
  pub front : List Row
  pub gone : List Row
  pub come : List Row
  pub back : List Row
  pub rows_are : p.rows ≡ front ++ (gone ++ back)
  pub come_are : q.rows ≡ front ++ (come ++ back)
  pub end_is : q.end ≡ p.end
  pub lead : List ℕ
  pub trail : List ℕ
  pub before_is : kept_front ss ≡ (start ++ rows_text front []) ++ lead
  pub following_is : kept_back ss ≡ trail ++ rows_text back (p.end ++ after_document k c)
  pub puts : are_kept ss ≡ false
  pub old_is : old_text ss ≡ cut_text c
  pub new_is : new_text ss ≡ cut_text (put_document k q c)

pub at_row : (start : List ℕ) (front : List Row) (lead : List ℕ) → start ++ rows_text front lead ≡ (start ++ rows_text front []) ++ lead
at_row start front lead = ap (λ t. start ++ t) (rows_then front lead) ∙ sym (append_assoc start (rows_text front []) lead)

-- The items of a document, and the text above it.
module _ (c : Cut) (k : ℕ) (p : Part) (there : slice_get (document_parts c) k ≡ Some p) (start : List ℕ) (put : (x : Part) → cut_text (put_document k x c) ≡ start ++ part_text x (after_document k c)) where
  abbrev pub h : HasItems c k p
  h = document_has_items c k p there

  put_text : (q : Part) → cut_text (put_document k q c) ≡ items_text h.above (part_text q (after_document k c))
  put_text q =
      let tail : List Item = end_item q.end h.marker ∷ h.below in
      sym (items_of_text (put_document k q c))
      ∙ (ap (λ is. items_text is []) (h.put q)
      ∙ (items_text-append h.above (rows_items q.rows tail) [] ∙ ap (items_text h.above) (rows_items_text q.rows tail [] ∙ ap (λ t. rows_text q.rows (q.end ++ t)) (sym h.after))))

  pub above_is : (t : List ℕ) → items_text h.above t ≡ start ++ t
  above_is t = search (rules, items_apart, append_cancel_right, put_text)

  abbrev pub front_items : List Row → List Item
  front_items front = h.above ++ rows_items front []

  abbrev pub back_items : List Row → List ℕ → List Item
  back_items back end = rows_items back (end_item end h.marker ∷ h.below)

  -- the items of a part between those before and those after
  pub around : (front mid back : List Row) (q : Part) → q.rows ≡ front ++ (mid ++ back) → h.above ++ back_items q.rows q.end ≡ front_items front ++ (rows_items mid [] ++ back_items back q.end)
  around front mid back q e =
      let tail : List Item = end_item q.end h.marker ∷ h.below in
      ap (λ is. h.above ++ is)
      (ap (λ rs. rows_items rs tail) e
      ∙ (rows_joined front (mid ++ back) tail
      ∙ (rows_before front [] (rows_items (mid ++ back) tail) ∙ ap (λ is. rows_items front [] ++ is) (rows_joined mid back tail ∙ rows_before mid [] (rows_items back tail)))))
      ∙ sym (append_assoc h.above (rows_items front []) (rows_items mid [] ++ rows_items back tail))

  pub front_text : (front : List Row) (t : List ℕ) → items_text (front_items front) t ≡ (start ++ rows_text front []) ++ t
  front_text front t = items_text-append h.above (rows_items front []) t ∙ (ap (items_text h.above) (rows_items_text front [] t) ∙ (above_is (rows_text front t) ∙ at_row start front t))

  pub back_text : (back : List Row) (end : List ℕ) → items_text (back_items back end) [] ≡ rows_text back (end ++ after_document k c)
  back_text back end = rows_items_text back (end_item end h.marker ∷ h.below) [] ∙ ap (λ t. rows_text back (end ++ t)) (sym h.after)

  -- the text of the cut, by rows of the document
  cut_at : (front mid back : List Row) → p.rows ≡ front ++ (mid ++ back) → cut_text c ≡ (start ++ rows_text front []) ++ (rows_text mid [] ++ rows_text back (p.end ++ after_document k c))
  cut_at front mid back e =
      sym (items_of_text c)
      ∙ (ap (λ is. items_text is []) (h.old ∙ around front mid back p e)
      ∙ (items_text-append (front_items front) (rows_items mid [] ++ back_items back p.end) []
      ∙ (front_text front _
      ∙ ap (λ t. (start ++ rows_text front []) ++ t)
      (items_text-append (rows_items mid []) (back_items back p.end) [] ∙ (items_apart (rows_items mid []) _ ∙ (λ i. rows_items_text mid [] [] i ++ back_text back p.end i))))))

module _ (ss : List Segment) (c : Cut) (k : ℕ) (q : Part) (e : RowsGiveWay ss c k q) where
  -- as items
  abbrev pub rows_way : ItemsGiveWay ss c (put_document k q c)
  rows_way = record {
    front = front_items c k e.p e.there e.start e.put e.front;
    gone = rows_items e.gone [];
    come = rows_items e.come [];
    back = back_items c k e.p e.there e.start e.put e.back e.p.end;
    old_are = (h c k e.p e.there e.start e.put).old ∙ around c k e.p e.there e.start e.put e.front e.gone e.back e.p e.rows_are;
    new_are = (h c k e.p e.there e.start e.put).put q
        ∙ (around c k e.p e.there e.start e.put e.front e.come e.back q e.come_are
        ∙ ap (λ end. front_items c k e.p e.there e.start e.put e.front ++ (rows_items e.come [] ++ back_items c k e.p e.there e.start e.put e.back end)) e.end_is);
    lead = e.lead;
    trail = e.trail;
    before_is = e.before_is ∙ sym (front_text c k e.p e.there e.start e.put e.front e.lead);
    following_is = e.following_is ∙ ap (λ t. e.trail ++ t) (sym (back_text c k e.p e.there e.start e.put e.back e.p.end));
    puts = e.puts;
    old_is = e.old_is;
    new_is = e.new_is;
  }

  pub gone_text : IsInside (rows_items e.gone []) e.lead e.trail
  gone_text = gone_inside ss c (put_document k q c) rows_way

  pub come_text : IsInside (rows_items e.come []) e.lead e.trail
  come_text = come_inside ss c (put_document k q c) rows_way

  pub rows_local : InFirst e.lead (rows_items e.gone []) → InFirst e.lead (rows_items e.come []) → InLast e.trail (rows_items e.gone []) → InLast e.trail (rows_items e.come []) → IsLocal ss c (put_document k q c)
  rows_local = items_local ss c (put_document k q c) rows_way

  -- Rows are replaced by one.
  pub one_local : (s : Row) → e.come ≡ s ∷ [] → InFirst e.lead (rows_items e.gone []) → InLast e.trail (rows_items e.gone []) → IsLocal ss c (put_document k q c)
  one_local s is b0 e0 =
      let one : IsInside (row_item s ∷ []) e.lead e.trail = subst (λ rs. IsInside (rows_items rs []) e.lead e.trail) is come_text in
      rows_local b0 (subst (λ rs. InFirst e.lead (rows_items rs [])) (sym is) (one_first (row_item s) e.lead e.trail one)) e0 (subst (λ rs. InLast e.trail (rows_items rs [])) (sym is) (one_last (row_item s) e.lead e.trail one))

  -- One row is replaced by another.
  pub row_local : (r s : Row) → e.gone ≡ r ∷ [] → e.come ≡ s ∷ [] → IsLocal ss c (put_document k q c)
  row_local r s was is =
      let one : IsInside (row_item r ∷ []) e.lead e.trail = subst (λ rs. IsInside (rows_items rs []) e.lead e.trail) was gone_text in
      one_local s is (subst (λ rs. InFirst e.lead (rows_items rs [])) (sym was) (one_first (row_item r) e.lead e.trail one)) (subst (λ rs. InLast e.trail (rows_items rs [])) (sym was) (one_last (row_item r) e.lead e.trail one))

-- ---- by lengths

-- a text that begins as another one does, and isn't shorter
pub longer_front : (a b t r : List ℕ) → a ++ b ≡ t ++ r → length a ≤ length t → (u : List ℕ) × (t ≡ a ++ u)
longer_front [] b t r e h = (t, refl)
longer_front (x ∷ a) b [] r e h = absurd (omega (arith, h))
longer_front (x ∷ a) b (y ∷ t) r e h = let k = longer_front a b t r (tail-eq_of_cons-eq e) (omega (arith, h)) in (k.0, λ i. sym (head-eq_of_cons-eq e) i ∷ k.1 i)

-- the longer one of two ends of a text ends in the other one
pub longer_end : (a b t r : List ℕ) → a ++ b ≡ t ++ r → length b ≤ length r → (u : List ℕ) × (r ≡ u ++ b) × (a ≡ t ++ u)
longer_end a b [] r e h = (a, sym e, refl)
longer_end [] b (x ∷ t) r e h = absurd (omega (arith, h, ap length e, length-append t r))
longer_end (y ∷ a) b (x ∷ t) r e h = let k = longer_end a b t r (tail-eq_of_cons-eq e) h in (k.0, k.1, λ i. head-eq_of_cons-eq e i ∷ k.2 i)

-- One row is replaced by another, where segments keep what is in front of it and what comes after it.
pub row_by_size : (c : Cut) (k : ℕ) (p : Part) (there : slice_get (document_parts c) k ≡ Some p) (start : List ℕ) (put : (x : Part) → cut_text (put_document k x c) ≡ start ++ part_text x (after_document k c))
    (front : List Row) (r s : Row) (back : List Row) (q : Part) (ss : List Segment) → p.rows ≡ front ++ (r ∷ back) → q.rows ≡ front ++ (s ∷ back) → q.end ≡ p.end → are_kept ss ≡ false →
    old_text ss ≡ cut_text c → new_text ss ≡ cut_text (put_document k q c) → length (start ++ rows_text front []) ≤ length (kept_front ss) → length (rows_text back (p.end ++ after_document k c)) ≤ length (kept_back ss) →
    IsLocal ss c (put_document k q c)
row_by_size c k p there start put front r s back q ss was is end puts old new before after =
    let f : List ℕ = start ++ rows_text front [] in
    let z : List ℕ = rows_text back (p.end ++ after_document k c) in
    let b : IsBetween ss = between ss puts in
    let whole : f ++ (rows_text (r ∷ []) [] ++ z) ≡ kept_front ss ++ (b.old ++ kept_back ss) = sym (cut_at c k p there start put front (r ∷ []) back was) ∙ (sym old ∙ b.old_is) in
    let lead = longer_front f (rows_text (r ∷ []) [] ++ z) (kept_front ss) (b.old ++ kept_back ss) whole before in
    let trail = longer_end (f ++ rows_text (r ∷ []) []) z (kept_front ss ++ b.old) (kept_back ss) (append_assoc f (rows_text (r ∷ []) []) z ∙ (whole ∙ sym (append_assoc (kept_front ss) b.old (kept_back ss)))) after in
    row_local ss c k q (record {
      p = p;
      there = there;
      start = start;
      put = put;
      front = front;
      gone = r ∷ [];
      come = s ∷ [];
      back = back;
      rows_are = was;
      come_are = is;
      end_is = end;
      lead = lead.0;
      trail = trail.0;
      before_is = lead.1;
      following_is = trail.1;
      puts = puts;
      old_is = old;
      new_is = new;
    }) r s refl refl
