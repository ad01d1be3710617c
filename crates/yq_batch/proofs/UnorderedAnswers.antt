-- Values put in any order in the collections of one head, as the code puts them.
use Rattle.std.proofs.Common.{◌≡◌, ℕ, ◌≤◌, Bool, true, false, List, [], ◌∷◌, ◌++◌, drop, take, length, map, Option, Some, None, option_map}
use Rattle.std.{proofs.Common.{refl, sym, ap, ◌∙◌, subst, arith, append-nil, string_bytes}, specs.Prelude.String, specs.Str.IsCharBoundary}
use Rattle.std.{specs.declared.alloc.Global.Global, proofs.lemmas.Option.{none-some, same_Some}, proofs.lemmas.Str.IsCharBoundary-start}
use Rattle.yq_core.specs.Paths.{Step}
use Rattle.yq_row_table.specs.Rows.{Cut, cut_text}
use Rattle.yq_documents.specs.Reading.{read_at}
use Rattle.yq_places.specs.NodesAt.{node_in}
use Rattle.yq_semantics.specs.Operations.{Operation, append, replace}
use Rattle.yq_edit_rules.specs.Operands.{HasOperand}
use Rattle.yq_edit_laws.{specs.PartPuts.{IsWrittenPart, IsPartOf, more_edit}, proofs.ApplyLaws.applied_by, proofs.CutLaws.text_read}
use Rattle.yq_edit_laws.{proofs.TextFaults.text_utf8, specs.Carried.carried, specs.Edit.gives, specs.Theorems.IsFitting}
use Rattle.yq_text.{specs.Limit.text_limit, specs.Script.splice_at, specs.Splice.Splice}
use Rattle.yq_batch.proofs.SlotLaws.{places_empty, text_empty}
use Rattle.yq_batch.specs.OpenRuns.{AreCharEdges, AreStill, BeginsOpen, HasKept, HasOpened, IsOpenRun, OpensAt, OpensSo, OpensOn, RunsOpen}
use Rattle.yq_batch.{specs.OpenRuns.open_text, specs.Runs.{AddsAt, ChangesAt, ChangesBy, IsInText, PutsAt, change_place, cut_with, stem_of}}
use Rattle.yq_batch.{specs.Slots.{AreInOrder, HasCounts, empty_slot, slots_of, text_from}, specs.declared.any_order.SlotRun.SlotRun}
use Rattle.yq_batch.{specs.declared.change.HeadChange.HeadChange, specs.declared.head.HeadInText.HeadInText}
use Rattle.yq_batch.specs.declared.slots.SlotPlace.{SlotPlace}
use Rattle.yq_batch.proofs.SlotMores as more
use Rattle.yq_batch.proofs.SlotPuts as put

-- an operation that gives a text and splices goes on with a run
pub opens_on : (op own : Operation) (x : HeadInText) (before after : SlotRun) (cs : List Splice) → op ≡ own →
    carried own (open_text (cut_with x) before) ≡ gives (open_text (cut_with x) after) cs → IsFitting op (open_text (cut_with x) before) →
    HasOperand own →
    after.splices.items ≡ before.splices.items ++ cs → RunsOpen x after → OpensOn op x before after
opens_on op own x before after cs same comes fitting operand splices run =
    subst (λ (o : Operation). OpensOn o x before after) (sym same)
    (record {
      new_bytes = cs;
      comes = comes;
      applied =
          applied_by own (open_text (cut_with x) before) operand (subst (λ (o : Operation). IsFitting o (open_text (cut_with x) before)) same fitting)
          (open_text (cut_with x) after) cs comes;
      splices = splices;
      run = run;
    })

module _ (x : HeadInText) (u : List ℕ) (all : u ≡ cut_text (cut_with x)) (op : Operation) (before : SlotRun) (y : HeadChange) (there : IsInText x) (run : RunsOpen x before) (fitting : IsFitting op (open_text (cut_with x) before)) where
  abbrev c : Cut
  c = cut_with x

  abbrev at : Bool → SlotPlace
  at more = record { start = y.place.start; end = y.place.end; more = more }

  again : read_at (cut_text c) ≡ Some c
  again = ap read_at (text_read x.cut.now c there.read) ∙ there.read

  -- another value
  put_on : (h : PutsAt op x y) (s : String Global) → y.written ≡ Some s → (after : SlotRun) → HasOpened (cut_text c) (at false) y.lead.now (string_bytes s) before after → OpensOn op x before after
  put_on h s some after a =
      let is = subst (IsWrittenPart (node_in x.doc h.path c) h.value h.part) some h.written in
      let size : after.size ≡ length (open_text c after) =
      omega (
        arith,
        a.size,
        run.size,
        put.new_size c x.doc (stem_of x) h.path h.value (slots_of before.slots) (slots_of after.slots) again run.run h.ends h.part h.placement
            (change_place y) h.placed y.lead.now (string_bytes s) a.at a.was a.put,
      ) in
      let small : length (open_text c after) ≤ text_limit = omega (arith, a.small, size) in
      let fits = subst (λ (o : Operation). IsFitting o (open_text c before)) h.operation fitting in
      opens_on op (replace x.doc h.path h.value) x before after (splice_at a.at (drop y.place.start (take y.place.end (cut_text c))) (y.lead.now ++ string_bytes s)) h.operation
      (put.put_there c x.doc (stem_of x) h.path h.value (slots_of before.slots) (slots_of after.slots) again run.run h.ends h.part h.placement
      (change_place y) h.placed y.lead.now (string_bytes s) a.at a.was a.put is.0 refl is.1 h.valid fits small)
      fitting h.valid a.splices
      (record {
        run = put.put_goes_on c x.doc (stem_of x) h.path h.value (slots_of before.slots) (slots_of after.slots) again run.run h.ends h.part
            h.placement (change_place y) h.placed y.lead.now (string_bytes s) a.at a.was a.put is.0 refl is.1 h.valid fits small;
        counts = a.counts;
        size = size;
      })

  -- an equal scalar
  kept_on : (h : PutsAt op x y) → y.written ≡ None → (after : SlotRun) → HasKept (cut_text c) (at false) before after → OpensOn op x before after
  kept_on h none after a =
      let bytes : List ℕ = drop y.place.start (take y.place.end (cut_text c)) in
      let kept = subst (IsWrittenPart (node_in x.doc h.path c) h.value h.part) none h.written in
      let same : open_text c after ≡ open_text c before =
      put.same_text c x.doc (stem_of x) h.path h.value (slots_of before.slots) (slots_of after.slots) again run.run h.ends h.part h.placement
      (change_place y) h.placed [] bytes a.at a.was a.put refl refl in
      opens_on op (replace x.doc h.path h.value) x before after [] h.operation
      (put.kept_there c x.doc (stem_of x) h.path h.value (slots_of before.slots) (slots_of after.slots) again run.run h.ends h.part h.placement
      (change_place y) h.placed [] bytes a.at a.was a.put kept ∙ ap (λ (l : List ℕ). gives l []) (sym same))
      fitting h.valid (a.splices ∙ sym (append-nil before.splices.items))
      (record {
        run = put.kept_goes_on c x.doc (stem_of x) h.path h.value (slots_of before.slots) (slots_of after.slots) again run.run h.ends h.part h.placement (change_place y) h.placed [] bytes a.at a.was a.put refl refl;
        counts = a.counts;
        size = a.size ∙ (run.size ∙ ap length (sym same));
      })

  -- one more
  more_on : (h : AddsAt op x y) (s : String Global) → y.written ≡ Some s → (after : SlotRun) → HasOpened (cut_text c) (at true) y.lead.now (string_bytes s) before after → OpensOn op x before after
  more_on h s some after a =
      let written_is : string_bytes s ≡ (more_edit h.key h.value h.collection).written = same_Some _ _ (sym (ap (option_map string_bytes) some) ∙ h.written) in
      let size : after.size ≡ length (open_text c after) =
      omega (
        arith,
        a.size,
        run.size,
        more.new_size c x.doc (stem_of x) h.left h.key h.value (slots_of before.slots) (slots_of after.slots) run.run h.collection h.found h.takes
            (change_place y) h.placed (string_bytes s) written_is a.at a.was a.put,
      ) in
      let small : length (open_text c after) ≤ text_limit = omega (arith, a.small, size) in
      let fits = subst (λ (o : Operation). IsFitting o (open_text c before)) h.operation fitting in
      opens_on op (append x.doc (stem_of x ++ h.left) h.key h.value) x before after (splice_at a.at (drop y.place.start (take y.place.end (cut_text c))) (y.lead.now ++ string_bytes s)) h.operation
      (more.more_put_there c x.doc (stem_of x) h.left h.key h.value (slots_of before.slots) (slots_of after.slots) run.run h.collection h.found h.takes (change_place y) h.placed (string_bytes s) written_is a.at a.was a.put small)
      fitting h.valid a.splices
      (record {
        run = more.more_goes_on c x.doc (stem_of x) h.left h.key h.value (slots_of before.slots) (slots_of after.slots) run.run h.collection h.found
            h.takes (change_place y) h.placed (string_bytes s) written_is a.at a.was a.put small h.valid fits;
        counts = a.counts;
        size = size;
      })

  -- what was changed, as the code puts it
  pub opens : ChangesAt op x y → (after : SlotRun) → OpensAt u y before after → OpensOn op x before after
  opens h after has = go y.place.more h y.written refl (subst (λ (l : List ℕ). OpensAt l y before after) all has)
    where
      go : (b : Bool) → ChangesBy b op x y → (o : Option (String Global)) → y.written ≡ o → OpensSo (cut_text c) (record y { place = at b }) before after o → OpensOn op x before after
      go true h (Some s) some has = more_on h s some after has
      go true h None none has = absurd (none-some _ (sym (ap (option_map string_bytes) none) ∙ h.written))
      go false h (Some s) some has = put_on h s some after has
      go false h None none has = kept_on h none after has

-- ---- a run in which nothing was put

pub edges_empty : (t : List ℕ) (ps : List SlotPlace) → AreCharEdges t (map empty_slot ps)
edges_empty t [] = tt
edges_empty t (p ∷ ps) = (λ w e. absurd (none-some _ e), edges_empty t ps)

stills_empty : (c : Cut) (n : ℕ) (stem : List Step) (ps : List SlotPlace) → AreStill c c n stem (map empty_slot ps)
stills_empty c n stem [] = tt
stills_empty c n stem (p ∷ ps) = (
  record {
    part = λ none one left r y there is size. subst (λ (l : List ℕ). IsPartOf c n (stem ++ left) r (record y { rest = l })) (is ∙ sym (text_empty (cut_text c) p.end ps)) there;
    ends = λ more left w found is none. record { coll = w; is = found; close = refl; none = refl; after = is ∙ sym (text_empty (cut_text c) p.end ps) };
  },
  stills_empty c n stem ps,
)

pub open_begins : (x : HeadInText) (u : List ℕ) (ps : List SlotPlace) (r : SlotRun) → IsInText x → u ≡ cut_text (cut_with x) → AreInOrder 0 ps (length u) →
    (slots_of r.slots ≡ map empty_slot ps) × HasCounts r.slots → r.size ≡ length u → r.splices.items ≡ [] → BeginsOpen x r
open_begins x u ps r there all order slots size none =
    let c : Cut = cut_with x in
    let same : cut_text c ≡ x.cut.now = text_read x.cut.now c there.read in
    let text : open_text c r ≡ cut_text c = ap (text_from (cut_text c) 0) slots.0 ∙ text_empty (cut_text c) 0 ps in
    let opened : IsOpenRun c x.doc (stem_of x) (map empty_slot ps) = record {
      order = subst (λ (qs : List SlotPlace). AreInOrder 0 qs (length (cut_text c))) (sym (places_empty ps)) (subst (AreInOrder 0 ps) (ap length all) order);
      edges = edges_empty (cut_text c) ps;
      cut = c;
      read = ap read_at (text_empty (cut_text c) 0 ps ∙ same) ∙ there.read;
      leads = there.reports.leads;
      still = stills_empty c x.doc (stem_of x) ps;
    } in
    record {
      run = record { run = subst (IsOpenRun c x.doc (stem_of x)) (sym slots.0) opened; counts = slots.1; size = size ∙ (ap length all ∙ ap length (sym text)) };
      text = text ∙ same;
      none = none;
    }

-- where the text begins
pub open_starts : (x : HeadInText) → IsInText x → (u : List ℕ) → u ≡ cut_text (cut_with x) → IsCharBoundary u 0
open_starts x there u all =
    let again : read_at (cut_text (cut_with x)) ≡ Some (cut_with x) = ap read_at (text_read x.cut.now (cut_with x) there.read) ∙ there.read in
    subst (λ (l : List ℕ). IsCharBoundary l 0) (sym all) (IsCharBoundary-start (cut_text (cut_with x)) (text_utf8 (cut_text (cut_with x)) (cut_with x) again))
