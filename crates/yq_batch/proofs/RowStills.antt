-- Rows that are known stay known after a value is put in another one.
use Rattle.std.proofs.Common.{◌≡◌, inr, ℕ, suc, ◌+◌, ◌<◌, false, List, [], ◌∷◌, ◌++◌, length, Some, refl, sym, ap, ◌∙◌, subst, arith, ◌≤◌}
use Rattle.std.{proofs.Common.{append_assoc, length-append}, proofs.lemmas.List.{append_cancel_left, append_cancel_right}}
use Rattle.yq_text.specs.Script.{Segment}
use Rattle.yq_core.{specs.Paths.Step, specs.Text.is_empty}
use Rattle.yq_outline.specs.Outline.{null_node}
use Rattle.yq_row_table.{specs.Exchange.row_front, specs.Rows.{Cut, Row, cut_text, rows_text}, specs.Seams.is_block, specs.View.slices}
use Rattle.yq_documents.specs.Reading.{read_at}
use Rattle.yq_places.{specs.RowPieces.{anchor_before, space_before}, specs.Placements.{RowsOfEntry, held, rows_of_entry}}
use Rattle.yq_edit_rules.{specs.Changed.put_document, specs.RowChanges.{ChangesRow, HoldsInline}, specs.RowStays.StaysInRows}
use Rattle.yq_edit_rules.proofs.RowStayLaws.{rows_stay_there}
use Rattle.yq_batch.specs.OpenRows.{AreRowsStill, IsHeadAt, IsRowStill, IsRowThere, head_back, head_front}
use Rattle.yq_batch.{proofs.RowOrder.{StaysBefore, comes_before, front_stays, others_stay, q}, proofs.RowPutLaws.value_text_is}
use Rattle.yq_batch.{proofs.SlotLaws.{front_of, order_at}, proofs.SlotStills.{new_text_is, old_text}}
use Rattle.yq_batch.{specs.declared.slots.SlotPlace.SlotPlace, specs.Slots.{AreInOrder, SlotView, slot_places, slot_text, text_from}}

-- what holds an inline node in a row does so wherever the row is
pub holds_now : (e now : RowsOfEntry) → now.row ≡ e.row → now.line ≡ e.line → HoldsInline e → HoldsInline now
holds_now e now row line h = record {
  last = line ∙ (h.last ∙ ap (λ (r : Row). length r.dashes) (sym row));
  block = ap (λ (r : Row). is_block r.content) row ∙ h.block;
  some = ap (λ (r : Row). is_empty (slices r).head) row ∙ h.some;
}

-- a text before a rest comes before as much of it, if an inline node is held after it
pub some_between : (m : ℕ) (u : Step) (us : List Step) (d : Cut) (e : RowsOfEntry) (rest : List ℕ) (n : ℕ) → read_at (cut_text d) ≡ Some d → rows_of_entry m (u ∷ us) d ≡ Some e → HoldsInline e → head_back e ≡ rest → n ≤ length rest →
    n + length (head_front e) < length (cut_text d)
some_between m u us d e rest n read found holds back less =
    omega (
      arith,
      less,
      ap length back,
      some (slices e.row).head holds.some,
      ap length (value_text_is m u us null_node d e read found holds refl),
      length-append (head_front e) ((held e).head ++ head_back e),
      length-append (held e).head (head_back e),
    )
  where
    some : (l : List ℕ) → is_empty l ≡ false → 0 < length l
    some [] e = absurd (cc)
    some (x ∷ l) e = omega arith

-- which isn't nothing
pub head_some : (e : RowsOfEntry) → HoldsInline e → (p : SlotPlace) → IsHeadAt e p → p.start < p.end
head_some e h p at = go (slices e.row).head h.some at.end
  where
    go : (l : List ℕ) → is_empty l ≡ false → p.end ≡ p.start + length l → p.start < p.end
    go [] e is = absurd (cc)
    go (x ∷ l) some is = omega (arith, is)

-- An item or entry before a text that is exchanged for another one, up to which there is a text, if its row stays.
module _ (c d next : Cut) (m : ℕ) (read_d : read_at (cut_text d) ≡ Some d) (read_next : read_at (cut_text next) ≡ Some next) (front gone made : List ℕ) (text_d : cut_text d ≡ front ++ gone) (text_next : cut_text next ≡ front ++ made) where
  pub row_at_front : (s : SlotView) (mid : List ℕ) → IsRowStill c d m s (mid ++ gone) →
      ((u : Step) (us : List Step) (e : RowsOfEntry) → rows_of_entry m (u ∷ us) c ≡ Some e → HoldsInline e → IsHeadAt e s.place → (k : IsRowThere e m (u ∷ us) d (mid ++ gone)) → StaysBefore k.now m (u ∷ us) next) →
      IsRowStill c next m s (mid ++ made)
  row_at_front s mid h stays none u us e found holds at =
      let k = h none u us e found holds at in
      let w = stays u us e found holds at k in
      let holds_k : HoldsInline k.now = holds_now e k.now k.row k.line holds in
      let holds_w : HoldsInline w.now = holds_now k.now w.now w.row w.line holds_k in
      let lead : List ℕ = head_front k.now ++ (held k.now).head in
      let same : head_front w.now ++ (held w.now).head ≡ lead =
      (λ i. ((((w.start i ++ rows_text (w.front i) []) ++ row_front (w.row i)) ++ anchor_before (slices (w.row i))) ++ space_before (slices (w.row i))) ++ (slices (w.row i)).head) in
      let old : front ++ gone ≡ (lead ++ mid) ++ gone =
      sym text_d ∙ (value_text_is m u us null_node d k.now read_d k.found holds_k refl
      ∙ (ap (λ (l : List ℕ). head_front k.now ++ ((held k.now).head ++ l)) k.back
      ∙ (sym (append_assoc (head_front k.now) (held k.now).head (mid ++ gone)) ∙ sym (append_assoc lead mid gone)))) in
      let before : front ≡ lead ++ mid = append_cancel_right front (lead ++ mid) gone old in
      let new : lead ++ head_back w.now ≡ lead ++ (mid ++ made) =
      ap (λ (l : List ℕ). l ++ head_back w.now) (sym same)
      ∙ (append_assoc (head_front w.now) (held w.now).head (head_back w.now)
      ∙ (sym (value_text_is m u us null_node next w.now read_next w.found holds_w refl)
      ∙ (text_next ∙ (ap (λ (l : List ℕ). l ++ made) before ∙ append_assoc lead mid made)))) in
      record {
        now = w.now;
        found = w.found;
        row = w.row ∙ k.row;
        line = w.line ∙ k.line;
        size = ap length w.front ∙ k.size;
        back = append_cancel_left lead _ _ new;
      }

-- A value comes in the row of this item or entry of cut c, which is now in cut d: the next cut has another row of the shape there, and the text before it is
-- the same.
module _ (c d : Cut) (m : ℕ) (read_c : read_at (cut_text c) ≡ Some c) (read_d : read_at (cut_text d) ≡ Some d) (s0 : Step) (ss0 : List Step) (e0 : RowsOfEntry)
    (found0 : rows_of_entry m (s0 ∷ ss0) c ≡ Some e0) (holds0 : HoldsInline e0) (now0 : RowsOfEntry) (size0 : length now0.front ≡ length e0.front) (segments : List Segment)
    (y : ChangesRow m d now0 segments) where
  abbrev pub next : Cut
  next = put_document m (q d m y.part y.front y.back y.row y.new y.there y.rows_are y.shape) d

  module _ (read_next : read_at (cut_text next) ≡ Some next) (front gone made : List ℕ) (text_d : cut_text d ≡ front ++ gone) (text_next : cut_text next ≡ front ++ made) where
    abbrev t : List ℕ
    t = cut_text c

    -- one that begins after it
    following_row : (s : SlotView) (rest : List ℕ) → IsRowStill c d m s rest → length (head_front e0) < s.place.start → IsRowStill c next m s rest
    following_row s rest h later none u us e found holds at =
        let k = h none u us e found holds at in
        let order : length e0.front < length e.front = comes_before m u s0 us ss0 c e e0 read_c found found0 (omega (arith, later, at.start)) in
        let z : StaysInRows k.now m (u ∷ us) next = rows_stay_there.entries d m (suc (length y.front)) y.part _ m (u ∷ us) k.now y.there (others_stay d m y.part y.front y.back y.row y.new y.there y.rows_are y.shape) k.found
        (inr (refl, omega (arith, order, size0, y.front_size, k.size))) in
        record { now = record k.now { start = z.start; front = z.front }; found = z.found; row = k.row; line = k.line; size = z.size ∙ k.size; back = k.back }

    -- one that begins before it, up to which there is a text
    row_before : (s : SlotView) (mid : List ℕ) → IsRowStill c d m s (mid ++ gone) → s.place.start < length (head_front e0) → IsRowStill c next m s (mid ++ made)
    row_before s mid h earlier =
        row_at_front c d next m read_d read_next front gone made text_d text_next s mid h (λ u us e found holds at k.
        let order : length e.front < length e0.front = comes_before m s0 u ss0 us c e0 e read_c found0 found (omega (arith, earlier, at.start)) in
        front_stays d m y.part y.front y.back y.row y.new y.there y.rows_are y.shape (u ∷ us) k.now k.found (omega (arith, order, size0, y.front_size, k.size)))

    -- those at places after its own
    pub following_rows : (p : ℕ) (ss : List SlotView) → length (head_front e0) < p → AreInOrder p (slot_places ss) (length t) → AreRowsStill c d m ss → AreRowsStill c next m ss
    following_rows p [] less order h = tt
    following_rows p (s ∷ ss) less order h = (
      following_row s (text_from t s.place.end ss) h.0 (omega (arith, less, order.0)),
      following_rows s.place.end ss (omega (arith, less, order.0, order.1)) order.3 h.1,
    )

    module _ (s s2 : SlotView) (bs : List SlotView) (same : s2.place ≡ s.place) (old new : List ℕ) (old_is : slot_text t s ≡ [] ++ old) (new_is : slot_text t s2 ≡ [] ++ new)
        (gone_is : gone ≡ old ++ text_from t s.place.end bs) (made_is : made ≡ new ++ text_from t s.place.end bs) (own : IsRowStill c next m s2 (text_from t s.place.end bs)) (at0 : IsHeadAt e0 s.place) where
      -- those at all places
      pub rows_around : (p : ℕ) (fs : List SlotView) → AreInOrder p (slot_places (fs ++ (s ∷ bs))) (length t) → AreRowsStill c d m (fs ++ (s ∷ bs)) → AreRowsStill c next m (fs ++ (s2 ∷ bs))
      rows_around p [] order h =
          let some = head_some e0 holds0 s.place at0 in
          (subst (λ (x : SlotPlace). IsRowStill c next m s2 (text_from t x.end bs)) (sym same) own, following_rows s.place.end bs (omega (arith, some, at0.start)) order.3 h.1)
      rows_around p (a ∷ fs) order h =
          let mid : List ℕ = front_of t a.place.end fs s.place.start ++ [] in
          let was : text_from t a.place.end (fs ++ (s ∷ bs)) ≡ mid ++ gone = old_text c s s2 bs same [] old new old_is new_is a.place.end fs order.3 ∙ ap (λ (l : List ℕ). mid ++ l) (sym gone_is) in
          let is : text_from t a.place.end (fs ++ (s2 ∷ bs)) ≡ mid ++ made = new_text_is c s s2 bs same [] old new old_is new_is a.place.end fs order.3 ∙ ap (λ (l : List ℕ). mid ++ l) (sym made_is) in
          (first a fs mid was is order h.0, rows_around a.place.end fs order.3 h.1)
        where
          first : (b : SlotView) (gs : List SlotView) (mid : List ℕ) → text_from t b.place.end (gs ++ (s ∷ bs)) ≡ mid ++ gone → text_from t b.place.end (gs ++ (s2 ∷ bs)) ≡ mid ++ made →
              AreInOrder p (slot_places (b ∷ (gs ++ (s ∷ bs)))) (length t) → IsRowStill c d m b (text_from t b.place.end (gs ++ (s ∷ bs))) → IsRowStill c next m b (text_from t b.place.end (gs ++ (s2 ∷ bs)))
          first b gs mid was is order h none u us e found holds at =
              let some = head_some e holds b.place at in
              let after = (order_at b.place.end (length t) gs s bs order.3).0 in
              subst (IsRowThere e m (u ∷ us) next) (sym is)
              (row_before b mid (subst (IsRowStill c d m b) was h) (omega (arith, some, after, at0.start)) none u us e found holds at)
