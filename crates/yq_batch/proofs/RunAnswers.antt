-- Runs of values that are put in the collections of one head, as the code makes them.
use Rattle.std.proofs.Common.{◌≡◌, ℕ, ◌-◌, ◌≤◌, ◌<◌, Bool, true, false, List, [], ◌++◌, length, length-append, map, take, drop, Option}
use Rattle.std.{proofs.Common.{Some, None, sym, ap, ◌∙◌, subst, append-nil, arith, string_bytes, refl}, proofs.Math.Seq.take-append_seam}
use Rattle.std.{proofs.lemmas.List.{length-map, take-map}, proofs.lemmas.Str.IsCharBoundary-start, proofs.lemmas.Option.same_Some}
use Rattle.std.{specs.Prelude.String, specs.Str.IsCharBoundary, specs.Borrow.Bor, specs.declared.alloc.Global.Global}
use Rattle.yq_core.{specs.Paths.Step, specs.Tree.Node, specs.Entries.tree_step, specs.View.inline_view}
use Rattle.yq_row_table.specs.Rows.{cut_text}
use Rattle.yq_documents.specs.Reading.{cut_of, read_at}
use Rattle.yq_places.{specs.FlowNodes.flow_collection, specs.FlowViews.{FlowAgrees, LeadsToHead}, specs.NodesAt.node_in}
use Rattle.yq_places.{specs.Placements.last_step, specs.declared.places.flow_node.FlowHead.FlowHead}
use Rattle.yq_semantics.{specs.Operations.{Operation, replace}, specs.declared.refusal.Refusal.TheVariants.TooLarge}
use Rattle.yq_semantics.specs.Judgement.{ExprError}
use Rattle.yq_text.{specs.Limit.text_limit, specs.Script.splice_at, specs.Splice.Splice}
use Rattle.yq_edit_rules.{specs.Operands.HasOperand, specs.Replacing.keeps_scalar}
use Rattle.yq_edit_laws.{specs.EditPlaces.LiesIn, specs.PartPuts.{IsPlaceOf, IsValuePut, IsWrittenPart, place_after, put_edit}}
use Rattle.yq_edit_laws.{proofs.CutLaws.text_read, specs.Carried.carried, specs.Answers.EditFails, specs.Edit.{gives, refuses}}
use Rattle.yq_edit_laws.{specs.Theorems.IsFitting, proofs.ApplyLaws.applied_by, proofs.TextFaults.text_utf8, proofs.LaterEnds.ends_same}
use Rattle.yq_edit_laws.{specs.NearParts.{IsUniqueNode, head_with}, proofs.FlowKeys.collection_unique, proofs.NearCollections.own_along}
use Rattle.yq_flow_edits.specs.declared.flow_place.EditPlace.{EditPlace}
use Rattle.yq_batch.specs.Runs.{ChangesAt, ChangesBy, EndsAt, EndsInCollection, HasPut, IsInText, IsPutRun, PutFails, PutsAt, Runs, RunsOn}
use Rattle.yq_batch.{specs.Runs.{change_place, cut_with, now_text, run_front, stem_of, text_with_run}, specs.FilledRuns.IsKnownFilled}
use Rattle.yq_batch.{specs.declared.change.HeadChange.HeadChange, specs.declared.head.HeadInText.HeadInText}
use Rattle.yq_batch.{specs.declared.run.PutRun.PutRun, proofs.RunLaws.{goes_on, kept_there, large_there, put_there}}
use Rattle.yq_core.specs.declared.path.Step as declared
use Rattle.yq_failure.specs.declared.failure.Failure.TheVariants as failure

-- a run of nothing
pub run_begins : (t : List ℕ) (n : ℕ) (stem : List Step) → read_at t ≡ Some (cut_of t) → LeadsToHead (cut_of t) n stem → IsPutRun (cut_of t) n stem [] 0
run_begins t n stem read leads =
    let same : cut_text (cut_of t) ≡ t = text_read t (cut_of t) read in
    record {
      within = omega arith;
      edge = IsCharBoundary-start (cut_text (cut_of t)) (text_utf8 (cut_text (cut_of t)) (cut_of t) (ap read_at same ∙ read));
      cut = cut_of t;
      read = ap read_at same ∙ read;
      leads = leads;
      stays = λ left s y there less begins. there;
      ends = λ left w found after. (w, found, ends_same w);
      row = λ i x. (x, λ m steps e found later. record { start = e.start; front = e.front; found = found; size = refl });
    }

-- the same of a run that the code begins
pub begins : (t : List ℕ) (n : ℕ) (stem : List Step) (r : PutRun) → read_at t ≡ Some (cut_of t) → LeadsToHead (cut_of t) n stem → string_bytes r.text ≡ [] → r.done ≡ 0 →
    IsPutRun (cut_of t) n stem (string_bytes r.text) r.done
begins t n stem r read leads text done =
    subst (λ (d : ℕ). IsPutRun (cut_of t) n stem (string_bytes r.text) d) (sym done) (subst (λ (l : List ℕ). IsPutRun (cut_of t) n stem l 0) (sym text) (run_begins t n stem read leads))

-- the text of a run in which nothing was put
pub begins_with : (t : List ℕ) (r : PutRun) → read_at t ≡ Some (cut_of t) → string_bytes r.text ≡ [] → r.done ≡ 0 → now_text (cut_of t) r ≡ t
begins_with t r read text done = (λ i. text_with_run (cut_text (cut_of t)) (text i) (done i)) ∙ text_read t (cut_of t) read

-- a path ends there, if the steps above its last one are those to the head and others
pub ends_there : (path above stem left : List Step) (s : Step) → Some (above, s) ≡ last_step path → above ≡ stem ++ left → EndsAt stem left path
ends_there path above stem left s last same = (s, sym last ∙ ap (λ (ss : List Step). Some (ss, s)) same)

-- the steps to a head, by how many go on in it
pub stem_is : (above left : List declared.Step) (stem : List Step) (n : ℕ) → map tree_step above ≡ stem ++ map tree_step left → n ≡ length above - length left → map tree_step (take n above) ≡ stem
stem_is above left stem n same size =
    let long : length stem ≡ n = omega (arith, size, ap length same, length-append stem (map tree_step left), length-map above tree_step, length-map left tree_step) in
    sym (take-map tree_step n above) ∙ ((λ i. take (sym long i) (same i)) ∙ take-append_seam stem (map tree_step left))

-- the head is that of the collection in which a path ends, with the steps that go on to it
pub head_there : (x : HeadInText) → IsInText x → (m : ℕ) (above : List Step) (s : Step) (path : List Step) (left : Bor (List declared.Step)) →
    Some (above, s) ≡ last_step path → (m ≡ x.doc) × EndsAt (stem_of x) (map tree_step left.now) path →
    FlowAgrees x.cut.now (flow_collection m above (cut_with x)) (Some (head_with x.head left))
head_there x there m above s path left last ends =
    let above_is : above ≡ stem_of x ++ map tree_step left.now = ap (λ (y : List Step × Step). y.0) (same_Some _ _ (last ∙ ends.1.1)) in
    subst (λ (k : ℕ). FlowAgrees x.cut.now (flow_collection k above (cut_with x)) (Some (head_with x.head left))) (sym ends.0)
    (subst (λ (ss : List Step). FlowAgrees x.cut.now (flow_collection x.doc ss (cut_with x)) (Some (head_with x.head left))) (sym above_is) (there.reports.reports (head_with x.head left) refl refl refl))

-- the node of a head has no key twice, if it is a collection
pub unique_head : (x : HeadInText) → IsInText x → IsUniqueNode (inline_view x.head.node.value)
unique_head x there is =
    let root : FlowHead = record x.head { left = record x.head.left { now = [] } } in
    collection_unique x.cut.now x.doc (stem_of x ++ []) root there.read (there.reports.reports root refl refl refl) (inline_view x.head.node.value) (own_along [] (inline_view x.head.node.value) (None, inline_view x.head.node.value) refl is)

-- a value is put at a part in that collection
pub puts_at : (x : HeadInText) (op : Operation) (m : ℕ) (path : List Step) (v : Node) (r : EditPlace) (o : Option (String Global)) (y : HeadChange) → op ≡ replace m path v → HasOperand op → (m ≡ x.doc) × EndsInCollection (stem_of x) path →
    IsValuePut m path v (cut_with x) (place_after x.head.before r) o → change_place y ≡ place_after x.head.before r → y.written ≡ o → PutsAt op x y
puts_at x op m path v r o y is operand beside h place written =
    let a : IsValuePut x.doc path v (cut_with x) (place_after x.head.before r) o = subst (λ (k : ℕ). IsValuePut k path v (cut_with x) (place_after x.head.before r) o) beside.0 h in
    record {
      path = path;
      value = v;
      operation = is ∙ ap (λ (k : ℕ). replace k path v) beside.0;
      valid = subst HasOperand is operand;
      ends = beside.1;
      part = a.0;
      placement = a.1;
      placed = subst (IsPlaceOf (cut_text (cut_with x)) v a.0) (sym place) a.2;
      written = subst (IsWrittenPart (node_in x.doc path (cut_with x)) v a.0) (sym written) a.3;
    }

-- where a change comes
change_lies : (b : Bool) (op : Operation) (x : HeadInText) (y : HeadChange) → ChangesBy b op x y → LiesIn (cut_text (cut_with x)) (change_place y)
change_lies true op x y h = h.placed.lies
change_lies false op x y h = h.placed.lies

pub lies_in : (op : Operation) (x : HeadInText) (u : List ℕ) (y : HeadChange) → u ≡ cut_text (cut_with x) → ChangesAt op x y → LiesIn u (change_place y)
lies_in op x u y all h = subst (λ (l : List ℕ). LiesIn l (change_place y)) (sym all) (change_lies y.place.more op x y h)

-- where a run ends
pub edge_in : (x : HeadInText) (u : List ℕ) → u ≡ cut_text (cut_with x) → (r : PutRun) → Runs x r → IsCharBoundary u r.done
edge_in x u all r run = subst (λ (l : List ℕ). IsCharBoundary l r.done) (sym all) run.edge

-- a run, of which this is known
abbrev FilledOf : HeadInText → Option (Bor (List declared.Step)) → List ℕ → ℕ → Type 0
FilledOf x known out done = (on : IsPutRun (cut_with x) x.doc (stem_of x) out done) × IsKnownFilled (cut_with x) on.cut x.doc (stem_of x) done known

-- an operation exchanges what is between two places of the text that was read
module _ (x : HeadInText) (u : List ℕ) (all : u ≡ cut_text (cut_with x)) (op : Operation) (before : PutRun) (start finish : ℕ) (new : List ℕ) (operand : HasOperand op) (fitting : IsFitting op (now_text (cut_with x) before)) where
  abbrev out : List ℕ
  out = run_front (cut_text (cut_with x)) before start ++ new

  abbrev made : List ℕ
  made = text_with_run (cut_text (cut_with x)) out finish

  abbrev cs : List Splice
  cs = splice_at (length (run_front (cut_text (cut_with x)) before start)) (drop start (take finish (cut_text (cut_with x)))) new

  -- the run goes on, with what is known then of an empty collection that got an item or entry
  pub fill_on : (known : Option (Bor (List declared.Step))) → (length made ≤ text_limit → carried op (now_text (cut_with x) before) ≡ gives made cs) →
      (length made ≤ text_limit → FilledOf x known out finish) → (after : PutRun) → HasPut u start finish new before after →
      (on : RunsOn op x before after) × IsKnownFilled (cut_with x) on.run.cut x.doc (stem_of x) after.done known
  fill_on known there on after has_put =
      let a : HasPut (cut_text (cut_with x)) start finish new before after = subst (λ (l : List ℕ). HasPut l start finish new before after) all has_put in
      let text : made ≡ now_text (cut_with x) after = λ i. text_with_run (cut_text (cut_with x)) (sym a.text i) (sym a.done i) in
      let comes : carried op (now_text (cut_with x) before) ≡ gives (now_text (cut_with x) after) cs = there a.size ∙ ap (λ (l : List ℕ). gives l cs) text in
      let r = subst (λ (d : ℕ). FilledOf x known (string_bytes after.text) d) (sym a.done) (subst (λ (l : List ℕ). FilledOf x known l finish) (sym a.text) (on a.size)) in
      (record { new_bytes = cs; comes = comes; applied = applied_by op (now_text (cut_with x) before) operand fitting (now_text (cut_with x) after) cs comes; splices = a.splices; run = r.0 }, r.1)

  -- too large a text
  pub run_fails : (text_limit < length made → carried op (now_text (cut_with x) before) ≡ refuses TooLarge) → (e : ExprError) → PutFails e u start finish new before → EditFails e (carried op (now_text (cut_with x) before))
  run_fails large e fails = go e (subst (λ (l : List ℕ). PutFails e l start finish new before) all fails)
    where
      go : (e : ExprError) → PutFails e (cut_text (cut_with x)) start finish new before → EditFails e (carried op (now_text (cut_with x) before))
      go (failure.Fault why) fails = large fails.1 ∙ ap refuses (sym fails.0)
      go failure.Memory fails = tt

-- a value comes at a part
module _ (x : HeadInText) (u : List ℕ) (all : u ≡ cut_text (cut_with x)) (op : Operation) (before : PutRun) (y : HeadChange) (there : IsInText x) (run : Runs x before) (h : PutsAt op x y)
    (following : before.done ≤ y.place.start) (passes : before.done < y.place.end) (fitting : IsFitting op (now_text (cut_with x) before)) where
  abbrev own : Operation
  own = replace x.doc h.path h.value

  abbrev now : List ℕ
  now = now_text (cut_with x) before

  again : read_at (cut_text (cut_with x)) ≡ Some (cut_with x)
  again = ap read_at (text_read x.cut.now (cut_with x) there.read) ∙ there.read

  own_fits : IsFitting own now
  own_fits = subst (λ (o : Operation). IsFitting o now) h.operation fitting

  -- an equal scalar
  pub kept_on : y.written ≡ None → RunsOn op x before before
  kept_on none =
      let kept = subst (IsWrittenPart (node_in x.doc h.path (cut_with x)) h.value h.part) none h.written in
      let comes = kept_there (cut_with x) x.doc (stem_of x) h.path h.value (string_bytes before.text) before.done again run h.ends h.part h.placement (change_place y) h.placed following passes kept in
      subst (λ (o : Operation). RunsOn o x before before) (sym h.operation)
      (record { new_bytes = []; comes = comes; applied = applied_by own now h.valid own_fits now [] comes; splices = sym (append-nil before.splices.items); run = run })

  module _ (s : String Global) (some : y.written ≡ Some s) where
    abbrev new : List ℕ
    new = y.lead.now ++ string_bytes s

    is : (keeps_scalar (node_in x.doc h.path (cut_with x)) h.value ≡ false) × (string_bytes s ≡ (put_edit h.value h.part).written)
    is = subst (IsWrittenPart (node_in x.doc h.path (cut_with x)) h.value h.part) some h.written

    -- another value
    pub put_on : (after : PutRun) → HasPut u y.place.start y.place.end new before after → RunsOn op x before after
    put_on after has_put =
        subst (λ (o : Operation). RunsOn o x before after) (sym h.operation)
        (fill_on x u all own before y.place.start y.place.end new h.valid own_fits None
        (put_there (cut_with x) x.doc (stem_of x) h.path h.value (string_bytes before.text) before.done again run h.ends h.part h.placement (change_place y) h.placed following passes (string_bytes s) is.0 is.1)
        (λ small. (
          goes_on (cut_with x) x.doc (stem_of x) h.path h.value (string_bytes before.text) before.done again run h.ends h.part h.placement
              (change_place y) h.placed following passes (string_bytes s) is.0 is.1 h.valid own_fits small,
          tt,
        ))
        after has_put).0

    -- too large a text
    pub put_fails : (e : ExprError) → PutFails e u y.place.start y.place.end new before → EditFails e (carried op now)
    put_fails e fails =
        subst (λ (o : Operation). EditFails e (carried o now)) (sym h.operation)
        (run_fails x u all own before y.place.start y.place.end new h.valid own_fits
        (large_there (cut_with x) x.doc (stem_of x) h.path h.value (string_bytes before.text) before.done again run h.ends h.part h.placement (change_place y) h.placed following passes (string_bytes s) is.0 is.1) e fails)
