-- Values put in rows in any order, as the code puts them.
use Rattle.std.proofs.Common.{◌≡◌, ℕ, zero, suc, ◌+◌, ◌-◌, ◌≤◌, ◌<◌, take_all, slice_index_or, slice_set, Bool, true, false, List, [], ◌∷◌}
use Rattle.std.proofs.Common.{◌++◌, drop, take, length, map, Option, Some, None, refl, sym, ap, ◌∙◌, subst, arith, append_assoc, append-nil}
use Rattle.std.{proofs.Common.{length-append, string_bytes}, specs.Prelude.{IfSome, String, Vec}, specs.Str.IsCharBoundary}
use Rattle.std.{specs.declared.alloc.Global.Global, proofs.Math.Seq.drop-append_seam, proofs.lemmas.List.map-append}
use Rattle.yq_core.{specs.Paths.Step, specs.Tree.Node}
use Rattle.yq_row_table.specs.Rows.{Cut, cut_text}
use Rattle.yq_documents.specs.Reading.{cut_of, read_at}
use Rattle.yq_places.{specs.NodesAt.node_in, specs.Placements.{RowsOfEntry, held}, specs.PlacementViews.IsHeldRow}
use Rattle.yq_places.{specs.declared.places.held_row.HeldRow.HeldRow, proofs.HeldRowLaws.no_root_rows}
use Rattle.yq_semantics.{specs.Operations.{Operation, append, operation_of, operations_of, replace}, specs.declared.op.Op.Op}
use Rattle.yq_edit_laws.{specs.Carried.carried, specs.Edit.gives, specs.Theorems.IsFitting, proofs.ApplyLaws.applied_by}
use Rattle.yq_edit_laws.{specs.Valid.HaveOperands, proofs.CutLaws.text_read}
use Rattle.yq_text.{specs.Limit.text_limit, specs.Script.splice_at, specs.Splice.Splice}
use Rattle.yq_batch.specs.OpenRows.{AreBeforeEnd, ArePutInRows, AreRowsStill, BeginsInRows, BeginsInAnyRow, DoesBy, DoesInside, FindsPuts}
use Rattle.yq_batch.specs.OpenRows.{IsBeforeEnds, IsEndsDocument, IsOpenRows, MayDo, MayPut, OpensRow, PutsInside, RunsRows, head_back}
use Rattle.yq_batch.specs.OpenRows.{head_front}
use Rattle.yq_batch.specs.RowEnds.{AddsAtEnd, AddsThere, LeaveRoom, EndOfEntries, IsEndBelow, IsBeforeEnd, IsEndAt, IsKnownEnd, IsEndStill}
use Rattle.yq_batch.{specs.RowEnds.IsEndThere, specs.declared.row_ends.EntriesEnd.EntriesEnd, specs.RowRuns.{IsWrittenSo, bytes_in}}
use Rattle.yq_batch.{specs.KeptBreaks.KeepsFirstBreak, specs.OpenRuns.{HasKept, HasOpened, OpensAt, OpensRowsBy, Lands, OpensSo, open_text}}
use Rattle.yq_batch.{specs.Slots.{AreInOrder, HasCounts, empty_slot, slots_of, text_from}, specs.declared.any_order.SlotRun.SlotRun}
use Rattle.yq_batch.{specs.declared.change.HeadChange.HeadChange, specs.declared.slots.SlotPlace.SlotPlace, proofs.SlotEnds.last_of}
use Rattle.yq_batch.{proofs.SlotLaws.{places_empty, text_empty}, proofs.UnorderedAnswers.edges_empty}
use Rattle.yq_batch.proofs.RowPutLaws.{value_ends, value_starts, value_text_is}
use Rattle.yq_edit_rules.{specs.BlockReading.is_filled, specs.Operands.HasOperand, specs.RowChanges.HoldsInline}
use Rattle.yq_outline.specs.Outline.{null_node}
use Rattle.yq_batch.proofs.RowAdds as add
use Rattle.yq_batch.proofs.RowOpens as row

module _ (c : Cut) (m : ℕ) (o : Option EndOfEntries) (read : read_at (cut_text c) ≡ Some c) (op : Operation) (before : SlotRun) (y : HeadChange)
    (run : RunsRows c m o before) (fitting : IsFitting op (open_text c before)) (h : PutsInside op c m o y) where
  abbrev own : Operation
  own = replace m (h.step ∷ h.steps) h.value

  fits : IsFitting own (open_text c before)
  fits = subst (λ (x : Operation). IsFitting x (open_text c before)) h.operation fitting

  -- an operation that gives a text and splices goes on with a run
  goes_on : (after : SlotRun) (cs : List Splice) → carried own (open_text c before) ≡ gives (open_text c after) cs → after.splices.items ≡ before.splices.items ++ cs → RunsRows c m o after → OpensRow op c m o before after
  goes_on after cs comes splices runs =
      subst (λ (x : Operation). OpensRow x c m o before after) (sym h.operation)
      (record { new_bytes = cs; comes = comes; applied = applied_by own (open_text c before) h.valid fits (open_text c after) cs comes; splices = splices; run = runs })

  -- another value
  put_on : (w : String Global) → y.written ≡ Some w → (after : SlotRun) → HasOpened (cut_text c) y.place y.lead.now (string_bytes w) before after → OpensRow op c m o before after
  put_on w some after a =
      let is = subst (λ (o : Option (String Global)). IsWrittenSo (node_in m (h.step ∷ h.steps) c) h.value (held h.entry).head (bytes_in string_bytes o)) some h.written in
      let size : after.size ≡ length (open_text c after) =
      omega (
        arith,
        a.size,
        run.size,
        row.row_size c m h.step h.steps h.value (slots_of before.slots) (slots_of after.slots) read o run.run h.entry h.found h.inline h.plain y.place h.at h.before h.content y.lead.now (string_bytes w) h.lead a.at a.was a.put,
      ) in
      let small : length (open_text c after) ≤ text_limit = omega (arith, a.small, size) in
      goes_on after (splice_at a.at (drop y.place.start (take y.place.end (cut_text c))) (y.lead.now ++ string_bytes w))
      (row.row_comes c m h.step h.steps h.value (slots_of before.slots) (slots_of after.slots) read o run.run h.entry h.found h.inline h.plain y.place h.at h.before h.content y.lead.now (string_bytes w) h.lead a.at a.was a.put
      h.starts h.ends is.0 is.1 h.valid fits small)
      a.splices
      (record {
        run = row.row_goes_on c m h.step h.steps h.value (slots_of before.slots) (slots_of after.slots) read o run.run h.entry h.found h.inline h.plain y.place h.at h.before h.content y.lead.now (string_bytes w) h.lead a.at a.was a.put
            h.starts h.ends is.0 is.1 h.valid fits small;
        counts = a.counts;
        size = size;
      })

  -- an equal scalar
  kept_on : y.written ≡ None → (after : SlotRun) → HasKept (cut_text c) y.place before after → OpensRow op c m o before after
  kept_on none after a =
      let bytes : List ℕ = drop y.place.start (take y.place.end (cut_text c)) in
      let kept = subst (λ (o : Option (String Global)). IsWrittenSo (node_in m (h.step ∷ h.steps) c) h.value (held h.entry).head (bytes_in string_bytes o)) none h.written in
      let same : open_text c after ≡ open_text c before =
      row.row_same c m h.step h.steps h.value (slots_of before.slots) (slots_of after.slots) read o run.run h.entry h.found h.inline h.plain y.place h.at h.before h.content [] bytes refl a.at a.was a.put h.starts h.ends refl in
      goes_on after []
      (row.row_kept c m h.step h.steps h.value (slots_of before.slots) (slots_of after.slots) read o run.run h.entry h.found h.inline h.plain y.place h.at h.before h.content [] bytes refl a.at a.was a.put h.starts h.ends kept
      ∙ ap (λ (l : List ℕ). gives l []) (sym same))
      (a.splices ∙ sym (append-nil before.splices.items))
      (record {
        run = row.row_kept_on c m h.step h.steps h.value (slots_of before.slots) (slots_of after.slots) read o run.run h.entry h.found h.inline h.plain y.place h.at h.before h.content [] bytes refl a.at a.was a.put h.starts h.ends refl;
        counts = a.counts;
        size = a.size ∙ (run.size ∙ ap length (sym same));
      })

  -- what an operation puts in a row, as the code puts it
  pub opens_row : (t : List ℕ) → t ≡ cut_text c → (after : SlotRun) → OpensAt t y before after → OpensRow op c m o before after
  opens_row t all after has = go y.written refl (subst (λ (l : List ℕ). OpensAt l y before after) all has)
    where
      go : (w : Option (String Global)) → y.written ≡ w → OpensSo (cut_text c) y before after w → OpensRow op c m o before after
      go (Some w) some a = put_on w some after a
      go None none a = kept_on none after a

-- an entry at the end of a mapping
module _ (c : Cut) (m : ℕ) (o : Option EndOfEntries) (read : read_at (cut_text c) ≡ Some c) (op : Operation) (before after : SlotRun)
    (y : HeadChange) (run : RunsRows c m o before) (fitting : IsFitting op (open_text c before)) (h : AddsAtEnd op c m o y)
    (a : HasOpened (cut_text c) y.place (string_bytes h.written) [] before after) where
  abbrev append_own : Operation
  append_own = append m h.end.steps (Some h.key) h.value

  append_fits : IsFitting append_own (open_text c before)
  append_fits = subst (λ (x : Operation). IsFitting x (open_text c before)) h.operation fitting

  add_size : after.size ≡ length (open_text c after)
  add_size = omega (arith, a.size, run.size, add.add_size op c m (slots_of before.slots) (slots_of after.slots) read o run.run y h a.at a.was a.put)

  add_small : length (open_text c after) ≤ text_limit
  add_small = omega (arith, a.small, add_size)

  pub adds_row : OpensRow op c m o before after
  adds_row =
      let comes = add.add_comes op c m (slots_of before.slots) (slots_of after.slots) read o run.run y h a.at a.was a.put append_fits add_small in
      subst (λ (x : Operation). OpensRow x c m o before after) (sym h.operation)
      (record {
        new_bytes = splice_at a.at (drop y.place.start (take y.place.end (cut_text c))) (string_bytes h.written ++ []);
        comes = comes;
        applied = applied_by append_own (open_text c before) h.valid append_fits (open_text c after) _ comes;
        splices = a.splices;
        run = record { run = add.add_goes_on op c m (slots_of before.slots) (slots_of after.slots) read o run.run y h a.at a.was a.put append_fits add_small; counts = a.counts; size = add_size };
      })

-- what an operation does, as the code does it
pub opens_change : (c : Cut) (m : ℕ) (o : Option EndOfEntries) → read_at (cut_text c) ≡ Some c → (op : Operation) (before : SlotRun) (y : HeadChange) → RunsRows c m o before → IsFitting op (open_text c before) → DoesInside op c m o y →
    (t : List ℕ) → t ≡ cut_text c → (after : SlotRun) → Lands t y before after → OpensRow op c m o before after
opens_change c m o read op before y run fitting does t all after has = go y.place.more does (subst (λ (l : List ℕ). Lands l y before after) all has)
  where
    go : (b : Bool) → DoesBy b op c m o y → OpensRowsBy b (cut_text c) y before after y.written → OpensRow op c m o before after
    go false h a = opens_row c m o read op before y run fitting h (cut_text c) refl after a
    go true h a = adds_row c m o read op before after y run fitting h (subst (OpensRowsBy true (cut_text c) y before after) h.written_is a)

-- where it does it is between characters
pub change_edges : (c : Cut) (m : ℕ) (o : Option EndOfEntries) (op : Operation) (y : HeadChange) (before : SlotRun) → RunsRows c m o before →
    DoesInside op c m o y → IsCharBoundary (cut_text c) y.place.start × IsCharBoundary (cut_text c) y.place.end
change_edges c m o op y before run does = go y.place.more does
  where
    go : (b : Bool) → DoesBy b op c m o y → IsCharBoundary (cut_text c) y.place.start × IsCharBoundary (cut_text c) y.place.end
    go false h = (h.starts, h.ends)
    go true h =
        let k = subst (λ (x : Option EndOfEntries). IfSome x (IsEndStill c run.run.cut m (slots_of before.slots))) h.known run.run.ends in
        (subst (IsCharBoundary (cut_text c)) (sym h.start) k.known.edge, subst (IsCharBoundary (cut_text c)) (sym h.finish) k.known.edge)

pub change_order : (c : Cut) (m : ℕ) (o : Option EndOfEntries) (op : Operation) (y : HeadChange) → DoesInside op c m o y → y.place.start ≤ y.place.end
change_order c m o op y does = go y.place.more does
  where
    go : (b : Bool) → DoesBy b op c m o y → y.place.start ≤ y.place.end
    go false h = omega (arith, h.at.end)
    go true h = omega (arith, h.start, h.finish)

-- ---- a run in which nothing was put

stills_empty : (c : Cut) (m : ℕ) (read : read_at (cut_text c) ≡ Some c) (ps : List SlotPlace) → AreRowsStill c c m (map empty_slot ps)
stills_empty c m read [] = tt
stills_empty c m read (p ∷ ps) = (
  λ none u us e found holds at.
      let text = value_text_is m u us null_node c e read found holds refl in
      let size : p.end ≡ length (head_front e ++ (held e).head) = omega (arith, at.start, at.end, length-append (head_front e) (held e).head) in
      record {
        now = e;
        found = found;
        row = refl;
        line = refl;
        size = refl;
        back =
            sym (text_empty (cut_text c) p.end ps
            ∙ ((λ i. drop (size i) ((text ∙ sym (append_assoc (head_front e) (held e).head (head_back e))) i)) ∙ drop-append_seam (head_front e ++ (held e).head) (head_back e)));
      },
  stills_empty c m read ps,
)

-- the end of a mapping in it
end_begins : (c : Cut) (m : ℕ) (ps : List SlotPlace) (w : Option EntriesEnd) (e : Option EndOfEntries) → AreInOrder 0 ps (length (cut_text c)) →
    IfSome w (IsBeforeEnds (cut_text c) ps) → IsKnownEnd c m w e → IfSome e (IsEndStill c c m (map empty_slot ps))
end_begins c m ps None None order last is = tt
end_begins c m ps None (Some z) order last is = absurd is
end_begins c m ps (Some w) None order last is = absurd is
end_begins c m [] (Some w) (Some z) order last is = absurd last.1
end_begins c m (p ∷ ps) (Some w) (Some z) order last is =
    let x = last_of w.at p ps last.0 in
    record {
      known = is.known;
      front = map empty_slot x.0;
      last = empty_slot x.1;
      slots_are = ap (map empty_slot) x.2 ∙ map-append empty_slot x.0 (x.1 ∷ []);
      start = x.3 ∙ is.at;
      end = x.4 ∙ is.at;
      keeps = subst (KeepsFirstBreak (cut_text c)) (sym (places_empty (p ∷ ps))) last.1;
      breaks = refl;
      here = is.known.here;
    }

pub open_rows_begin : (t : List ℕ) (ps : List SlotPlace) (r : SlotRun) (m : ℕ) (w : Option EntriesEnd) (e : Option EndOfEntries) →
    read_at t ≡ Some (cut_of t) → AreInOrder 0 ps (length t) → AreBeforeEnd t ps w → IsKnownEnd (cut_of t) m w e →
    (slots_of r.slots ≡ map empty_slot ps) × HasCounts r.slots → r.size ≡ length t → r.splices.items ≡ [] → BeginsInAnyRow (cut_of t) m e t r
open_rows_begin t ps r m w e read order ends is slots size none =
    let c : Cut = cut_of t in
    let same : cut_text c ≡ t = text_read t c read in
    let again : read_at (cut_text c) ≡ Some c = ap read_at same ∙ read in
    let text : open_text c r ≡ cut_text c = ap (text_from (cut_text c) 0) slots.0 ∙ text_empty (cut_text c) 0 ps in
    let order_c : AreInOrder 0 ps (length (cut_text c)) = subst (AreInOrder 0 ps) (ap length (sym same)) order in
    let opened : IsOpenRows c m e (map empty_slot ps) = record {
      order = subst (λ (qs : List SlotPlace). AreInOrder 0 qs (length (cut_text c))) (sym (places_empty ps)) order_c;
      apart = subst LeaveRoom (sym (places_empty ps)) ends.0;
      edges = edges_empty (cut_text c) ps;
      cut = c;
      read = ap read_at (text_empty (cut_text c) 0 ps) ∙ again;
      still = stills_empty c m again ps;
      ends = end_begins c m ps w e order_c (subst (λ (l : List ℕ). IfSome w (IsBeforeEnds l ps)) (sym same) ends.1) is;
    } in
    record {
      run = record { run = subst (IsOpenRows c m e) (sym slots.0) opened; counts = slots.1; size = size ∙ (ap length (sym same) ∙ ap length (sym text)) };
      text = text ∙ same;
      none = none;
    }

-- ---- what operations put

-- a value on one line in the place of an inline node
puts_there : (t : List ℕ) (op : Operation) (n : ℕ) (w : Option EntriesEnd) (o : Option EndOfEntries) (steps : List Step) (v : Node) (x : HeldRow)
    (y : HeadChange) → IsKnownEnd (cut_of t) n w o → IfSome w (IsEndBelow x.row y.place.end) → op ≡ replace n steps v → read_at t ≡ Some (cut_of t) →
    IsHeldRow n steps (cut_of t) x → x.inline ≡ true →
    is_filled v ≡ false → HasOperand op → y.place.start ≡ x.start → y.place.end ≡ x.start + length x.head.now → y.place.more ≡ false → y.lead.now ≡ [] →
    IsWrittenSo (node_in n steps (cut_of t)) v x.head.now (bytes_in string_bytes y.written) → PutsInside op (cut_of t) n o y
puts_there t op n w o [] v x y is_end after same read is inline plain operand start finish one lead written = absurd (no_root_rows n (cut_of t) is.entry is.found)
puts_there t op n w o (u ∷ us) v x y is_end after same read is inline plain operand start finish one lead written =
    let c : Cut = cut_of t in
    let again : read_at (cut_text c) ≡ Some c = ap read_at (text_read t c read) ∙ read in
    let e : RowsOfEntry = is.entry in
    let h : HoldsInline e = record { last = is.last; block = (is.inline inline).0; some = (is.inline inline).1 } in
    let place : y.place.start ≡ length (head_front e) = start ∙ (is.start ∙ sym (length-append (held e).before (held e).space)) in
    let stop : y.place.end ≡ y.place.start + length (held e).head = finish ∙ (λ i. sym start i + length (is.head i)) in
    record {
      step = u;
      steps = us;
      value = v;
      operation = same;
      valid = subst HasOperand same operand;
      plain = plain;
      entry = e;
      found = is.found;
      inline = h;
      at = record { start = place; end = stop };
      before = end_before w o is_end after;
      content = one;
      lead = lead;
      written = subst (λ (l : List ℕ). IsWrittenSo (node_in n (u ∷ us) c) v l (bytes_in string_bytes y.written)) is.head written;
      starts = subst (IsCharBoundary (cut_text c)) (sym place) (value_starts n u us v c e again is.found h plain);
      ends = subst (IsCharBoundary (cut_text c)) (sym (stop ∙ ap (λ (j : ℕ). j + length (held e).head) place)) (value_ends n u us v c e again is.found h plain);
    }
  where
    end_before : (w : Option EntriesEnd) (o : Option EndOfEntries) → IsKnownEnd (cut_of t) n w o → IfSome w (IsEndBelow x.row y.place.end) → IfSome o (IsBeforeEnd is.entry y.place)
    end_before None None at later = tt
    end_before None (Some z) at later = absurd at
    end_before (Some b) None at later = absurd at
    end_before (Some b) (Some z) at later = (omega (arith, later.1, at.at), at.first (length is.entry.front) (omega (arith, later.0, is.row)))

pub puts_here : (t : List ℕ) (op : Operation) (n m : ℕ) (w : Option EntriesEnd) (o : Option EndOfEntries) (steps : List Step) (v : Node)
    (x : HeldRow) (y : HeadChange) → n ≡ m → IsKnownEnd (cut_of t) m w o → IfSome w (IsEndBelow x.row y.place.end) → op ≡ replace n steps v →
    read_at t ≡ Some (cut_of t) → IsHeldRow n steps (cut_of t) x →
    x.inline ≡ true → is_filled v ≡ false → HasOperand op → y.place.start ≡ x.start → y.place.end ≡ x.start + length x.head.now → y.place.more ≡ false → y.lead.now ≡ [] →
    IsWrittenSo (node_in n steps (cut_of t)) v x.head.now (bytes_in string_bytes y.written) → PutsInside op (cut_of t) m o y
puts_here t op n m w o steps v x y doc is_end after same read is inline plain operand start finish one lead written =
    subst (λ (k : ℕ). PutsInside op (cut_of t) k o y) doc (puts_there t op n w o steps v x y (subst (λ (k : ℕ). IsKnownEnd (cut_of t) k w o) (sym doc) is_end) after same read is inline plain operand start finish one lead written)

-- of one operation more nothing is known
pub puts_more : (c : Cut) (m : ℕ) (e : Option EndOfEntries) (ops : List Op) (os : List (Option HeadChange)) → ArePutInRows c m e ops os → ArePutInRows c m e ops (os ++ None ∷ [])
puts_more c m e [] [] h = tt
puts_more c m e (op ∷ ops) [] h = (tt, tt)
puts_more c m e [] (o ∷ os) h = tt
puts_more c m e (op ∷ ops) (o ∷ os) h = (h.0, puts_more c m e ops os h.1)

-- the operand of one of them
pub operand_at : (ops : List Op) (i : ℕ) (op : Op) → op ≡ slice_index_or ops i op → i < length ops → HaveOperands (operations_of ops) → HasOperand (operation_of op)
operand_at [] i op at less h = absurd (omega (arith, less))
operand_at (x ∷ ops) zero op at less h = subst (λ (y : Op). HasOperand (operation_of y)) (sym at) h.0
operand_at (x ∷ ops) (suc i) op at less h = operand_at ops i op at (omega (arith, less)) h.1

-- what one of them puts is known
pub puts_set : (c : Cut) (m : ℕ) (e : Option EndOfEntries) (ops : List Op) (os : List (Option HeadChange)) (i : ℕ) (op : Op) (o : Option HeadChange) →
    ArePutInRows c m e ops os → op ≡ slice_index_or ops i op → i < length ops → MayPut c m e op o → ArePutInRows c m e ops (slice_set os i o)
puts_set c m e ops [] i op o h at less put = tt
puts_set c m e [] (x ∷ os) i op o h at less put = absurd (omega (arith, less))
puts_set c m e (p ∷ ops) (x ∷ os) zero op o h at less put = (subst (λ (q : Op). MayPut c m e q o) at put, h.1)
puts_set c m e (p ∷ ops) (x ∷ os) (suc i) op o h at less put = (h.0, puts_set c m e ops os i op o h.1 at (omega (arith, less)) put)

-- what the first one puts, and what the others do
pub first_put : (c : Cut) (m : ℕ) (e : Option EndOfEntries) (ops : List Op) (os : List (Option HeadChange)) (o : Option HeadChange)
    (y : HeadChange) → 1 ≤ length ops → 1 ≤ length os → ArePutInRows c m e ops os → o ≡ slice_index_or os 0 o → o ≡ Some y →
    (op : Op) × (op ≡ slice_index_or ops 0 op) × DoesInside (operation_of op) c m e y × ArePutInRows c m e (take (length ops - 1) (drop 1 ops)) (take (length os - 1) (drop 1 os))
first_put c m e [] os o y some known h at is = absurd (omega (arith, some))
first_put c m e (op ∷ ops) [] o y some known h at is = absurd (omega (arith, known))
first_put c m e (op ∷ ops) (x ∷ os) o y some known h at is = (
  op,
  refl,
  subst (λ (z : Option HeadChange). MayPut c m e op z) (sym at ∙ is) h.0,
  subst (λ (ps : List Op). ArePutInRows c m e ps (take (length (x ∷ os) - 1) os)) (sym (take_all (length (op ∷ ops) - 1) ops (omega arith)))
      (subst (ArePutInRows c m e ops) (sym (take_all (length (x ∷ os) - 1) os (omega arith))) h.1),
)

-- a run begins in which nothing was put yet
pub begins_in_rows : (t u : List ℕ) (ops : List Op) (doc : ℕ) (w : Option EntriesEnd) (o : Option (Vec (Option HeadChange) Global)) (v : Vec (Option HeadChange) Global) (r : SlotRun) → u ≡ t → FindsPuts t doc w ops o → o ≡ Some v →
    ((m : ℕ) (e : Option EndOfEntries) → IsKnownEnd (cut_of u) m w e → BeginsInAnyRow (cut_of u) m e u r) → IfSome w (IsEndThere t) → IsEndsDocument w doc → BeginsInRows ops t v.items r
begins_in_rows t u ops doc w o v r same puts is begins there doc_is =
    let z = end_is w there doc_is in
    record {
      document = doc;
      end = z.0;
      puts = subst (λ (x : Option (Vec (Option HeadChange) Global)). IfSome x (λ a. ArePutInRows (cut_of t) doc z.0 ops a.items)) is (puts z.0 z.1);
      begins = subst (λ (l : List ℕ). BeginsInAnyRow (cut_of l) doc z.0 l r) same (begins doc z.0 (subst (λ (l : List ℕ). IsKnownEnd (cut_of l) doc w z.0) (sym same) z.1));
    }
  where
    end_is : (w : Option EntriesEnd) → IfSome w (IsEndThere t) → IsEndsDocument w doc → (e : Option EndOfEntries) × IsKnownEnd (cut_of t) doc w e
    end_is None there doc_is = (None, tt)
    end_is (Some x) there doc_is = (Some there.0, subst (λ (k : ℕ). IsEndAt (cut_of t) k x there.0) doc_is there.1)

-- what one adds at the end of a mapping, if that is known
pub may_add : (t : List ℕ) (m : ℕ) (w : Option EntriesEnd) (x : EntriesEnd) (op : Op) (o : Option HeadChange) → w ≡ Some x → IfSome o (λ y. AddsThere (operation_of op) t x y) → MayDo t m w op o
may_add t m w x op None is h e at = tt
may_add t m w x op (Some y) is h e at = go e (subst (λ (v : Option EntriesEnd). IsKnownEnd (cut_of t) m v e) is at)
  where
    go : (e : Option EndOfEntries) → IsKnownEnd (cut_of t) m (Some x) e → DoesInside (operation_of op) (cut_of t) m e y
    go None at = absurd at
    go (Some z) at = let a = h m z at in subst (λ (b : Bool). DoesBy b (operation_of op) (cut_of t) m (Some z) y) (sym a.0) a.1
