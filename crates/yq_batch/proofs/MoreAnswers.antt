-- Runs of items and entries that are put into the collections of one head, as the code makes them.
use Rattle.std.proofs.Common.{◌≡◌, ℕ, ◌≤◌, ◌<◌, Bool, true, false, cond, List, [], ◌∷◌, ◌++◌, drop, map, Option, Some, None, option_map}
use Rattle.std.{proofs.Common.{refl, sym, ap, ◌∙◌, subst, string_bytes}, proofs.lemmas.Option.same_Some, specs.Prelude.{IfSome, String}}
use Rattle.std.{specs.Borrow.Bor, specs.declared.alloc.Global.Global}
use mathlib.Core.List.{cons≢nil}
use Rattle.yq_core.{specs.Paths.Step, specs.Tree.Node, specs.Collections.CollPieces, specs.Entries.tree_step}
use Rattle.yq_flow_edits.{specs.FlowEdits.is_none, specs.FlowPlaces.PlacedEdit, specs.declared.flow_place.EditPlace.EditPlace}
use Rattle.yq_row_table.specs.Rows.{Cut, cut_text}
use Rattle.yq_places.{specs.FlowNodes.flow_collection, specs.FlowViews.FlowAgrees}
use Rattle.yq_semantics.{specs.Operations.{Operation, append}, specs.Judgement.ExprError}
use Rattle.yq_edit_rules.specs.Operands.{HasOperand}
use Rattle.yq_edit_laws.{specs.NearParts.head_with, specs.PartPuts.{AreMore, IsEditPlace, more_edit, place_after}, specs.Answers.EditFails}
use Rattle.yq_edit_laws.{specs.Carried.carried, specs.Theorems.IsFitting}
use Rattle.yq_batch.specs.Runs.{AddsAt, HasPut, IsInText, PutFails, Runs, RunsOn, change_place, cut_with, now_text, stem_of}
use Rattle.yq_batch.{specs.declared.change.HeadChange.HeadChange, specs.declared.head.HeadInText.HeadInText}
use Rattle.yq_batch.{specs.declared.run.PutRun.PutRun, specs.FilledRuns.{FillsFirst, IsFilledCollection, IsKnownFilled}}
use Rattle.yq_batch.{proofs.MoreRuns.{more_goes_on, more_large, more_put_there}, proofs.RunAnswers.{fill_on, run_fails}}
use Rattle.yq_core.specs.declared.path.Step as declared

-- the head is that of the collection to which the steps lead that go on to it
pub more_head : (x : HeadInText) → IsInText x → (m : ℕ) (path : List Step) (left : Bor (List declared.Step)) → m ≡ x.doc → path ≡ stem_of x
    ++ map tree_step left.now → FlowAgrees x.cut.now (flow_collection m path (cut_with x)) (Some (head_with x.head left))
more_head x there m path left same steps =
    subst (λ (k : ℕ). FlowAgrees x.cut.now (flow_collection k path (cut_with x)) (Some (head_with x.head left))) (sym same)
    (subst (λ (ss : List Step). FlowAgrees x.cut.now (flow_collection x.doc ss (cut_with x)) (Some (head_with x.head left))) (sym steps) (there.reports.reports (head_with x.head left) refl refl refl))

-- an item or entry is put into the collection there
pub adds_at : (x : HeadInText) (op : Operation) (m : ℕ) (path left : List Step) (key : Option (List ℕ)) (v : Node) (p : EditPlace × String Global)
    (y : HeadChange) → op ≡ append m path key v → HasOperand op → m ≡ x.doc → path ≡ stem_of x ++ left →
    AreMore m path key v (cut_with x) x.head.before (Some p) → left ≡ map tree_step y.steps.now → change_place y ≡ place_after x.head.before p.0 → y.written ≡ Some p.1 → AddsAt op x y
adds_at x op m path left key v p y is operand same steps h here place written =
    let own : op ≡ append x.doc (stem_of x ++ left) key v = is ∙ λ i. append (same i) (steps i) key v in
    let a : AreMore x.doc (stem_of x ++ left) key v (cut_with x) x.head.before (Some p) =
    subst (λ (ss : List Step). AreMore x.doc ss key v (cut_with x) x.head.before (Some p)) steps (subst (λ (k : ℕ). AreMore k path key v (cut_with x) x.head.before (Some p)) same h) in
    record {
      left = left;
      key = key;
      value = v;
      operation = own;
      left_is = here;
      valid = subst HasOperand own operand;
      collection = a.0;
      found = a.1;
      takes = a.2.0;
      placed = subst (IsEditPlace (cut_text (cut_with x)) (more_edit key v a.0)) (sym place) a.2.1;
      written = ap (option_map string_bytes) written ∙ ap Some a.2.2;
    }

-- a comma and a space lead to what comes after another one
no_lead : (b : Bool) → cond {A = List ℕ} b [] (44 ∷ (32 ∷ [])) ≡ [] → b ≡ true
no_lead true e = refl
no_lead false e = absurd (cons≢nil e)

-- what is known of a collection that has got one
pub known_at : (c cut : Cut) (n : ℕ) (stem left : List Step) (done : ℕ) (w : CollPieces) → flow_collection n (stem ++ left) c ≡ Some w → (k : Bor (List declared.Step)) → map tree_step k.now ≡ left →
    IsFilledCollection w cut n (stem ++ left) (drop done (cut_text c)) → IsKnownFilled c cut n stem done (Some k)
known_at c cut n stem left done w found k same filled v is =
    subst (λ (ss : List Step). IsFilledCollection v cut n (stem ++ ss) (drop done (cut_text c))) (sym same)
    (subst (λ (x : CollPieces). IsFilledCollection x cut n (stem ++ left) (drop done (cut_text c))) (same_Some _ _ (sym found ∙ (ap (λ (ss : List Step). flow_collection n (stem ++ ss) c) (sym same) ∙ is))) filled)

module _ (x : HeadInText) (u : List ℕ) (all : u ≡ cut_text (cut_with x)) (op : Operation) (before : PutRun) (y : HeadChange) (run : Runs x before) (h : AddsAt op x y)
    (following : before.done ≤ y.place.start) (opens : y.lead.now ≡ [] → before.done < y.place.start) (fitting : IsFitting op (now_text (cut_with x) before)) (s : String Global) (some : y.written ≡ Some s) where
  abbrev own : Operation
  own = append x.doc (stem_of x ++ h.left) h.key h.value

  own_fits : IsFitting own (now_text (cut_with x) before)
  own_fits = subst (λ (o : Operation). IsFitting o (now_text (cut_with x) before)) h.operation fitting

  abbrev new : List ℕ
  new = y.lead.now ++ string_bytes s

  written_is : string_bytes s ≡ (more_edit h.key h.value h.collection).written
  written_is = same_Some _ _ (sym (ap (option_map string_bytes) some) ∙ h.written)

  -- it was empty, if nothing leads to it
  was_empty : y.lead.now ≡ [] → is_none h.collection.items ≡ true
  was_empty lead = no_lead (is_none h.collection.items) (sym (ap (λ (q : PlacedEdit). q.lead) h.placed.place_is) ∙ lead)

  known_then : (known : Option (Bor (List declared.Step))) → IfSome known (FillsFirst y.lead.now (map tree_step y.steps.now)) → (cut : Cut) →
      (is_none h.collection.items ≡ true → IsFilledCollection h.collection cut x.doc (stem_of x ++ h.left) (drop y.place.end (cut_text (cut_with x)))) → IsKnownFilled (cut_with x) cut x.doc (stem_of x) y.place.end known
  known_then None fills cut filled = tt
  known_then (Some k) fills cut filled = known_at (cut_with x) cut x.doc (stem_of x) h.left y.place.end h.collection h.found k (fills.1 ∙ sym h.left_is) (filled (was_empty fills.0))

  pub more_on : (known : Option (Bor (List declared.Step))) → IfSome known (FillsFirst y.lead.now (map tree_step y.steps.now)) → (after : PutRun) → HasPut u y.place.start y.place.end new before after →
      (on : RunsOn op x before after) × IsKnownFilled (cut_with x) on.run.cut x.doc (stem_of x) after.done known
  more_on known fills after has_put =
      subst (λ (o : Operation). (on : RunsOn o x before after) × IsKnownFilled (cut_with x) on.run.cut x.doc (stem_of x) after.done known) (sym h.operation)
      (fill_on x u all own before y.place.start y.place.end new h.valid own_fits known
      (more_put_there (cut_with x) x.doc (stem_of x) h.left h.key h.value (string_bytes before.text) before.done run h.collection h.found h.takes (change_place y) h.placed following opens (string_bytes s) written_is)
      (λ small. let r = more_goes_on (cut_with x) x.doc (stem_of x) h.left h.key h.value (string_bytes before.text) before.done run h.collection
      h.found h.takes (change_place y) h.placed following opens (string_bytes s) written_is h.valid own_fits small in
      (r.0, known_then known fills r.0.cut r.1)) after has_put)

  pub more_fails : (e : ExprError) → PutFails e u y.place.start y.place.end new before → EditFails e (carried op (now_text (cut_with x) before))
  more_fails e fails =
      subst (λ (o : Operation). EditFails e (carried o (now_text (cut_with x) before))) (sym h.operation)
      (run_fails x u all own before y.place.start y.place.end new h.valid own_fits
      (more_large (cut_with x) x.doc (stem_of x) h.left h.key h.value (string_bytes before.text) before.done run h.collection h.found h.takes (change_place y) h.placed following opens (string_bytes s) written_is) e fails)
