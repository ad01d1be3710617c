-- Runs of values, items and entries that are put into the collections of one head, as the code makes them.
use Rattle.std.proofs.Common.{◌≡◌, ℕ, Bool, true, false, List, [], ◌∷◌, ◌++◌, drop, map, Option, Some, None, option_map, sym, ap, ◌∙◌}
use Rattle.std.{proofs.Common.{subst, string_bytes}, proofs.lemmas.Bool.false≢true, proofs.lemmas.Option.{none-some, same_Some}}
use Rattle.std.{specs.Borrow.Bor, specs.Prelude.{IfSome, String}, specs.declared.alloc.Global.Global}
use Rattle.yq_core.{specs.Paths.Step, specs.Entries.tree_step}
use Rattle.yq_row_table.specs.Rows.{Cut, cut_text}
use Rattle.yq_places.specs.FlowNodes.{flow_collection}
use Rattle.yq_semantics.{specs.Operations.{Operation, append}, specs.Judgement.ExprError}
use Rattle.yq_edit_laws.{specs.PartPuts.more_edit, specs.Answers.EditFails, specs.Carried.carried, specs.Theorems.IsFitting}
use Rattle.yq_batch.specs.Runs.{AddsAt, ChangesAt, ChangesBy, HasPut, IsAfterBy, IsAfterRun, IsInText, PutFails, RunsOn, cut_with, stem_of}
use Rattle.yq_batch.specs.FilledRuns.{FillsFirst, FillsOn, FillsSo, IsFilledCollection, IsSameFilled, IsKnownFilled, filled_text}
use Rattle.yq_batch.{specs.declared.adding.FilledRun.FilledRun, specs.declared.change.HeadChange.HeadChange}
use Rattle.yq_batch.{specs.declared.head.HeadInText.HeadInText, specs.declared.run.PutRun.PutRun}
use Rattle.yq_batch.{proofs.FilledLaws.{again_goes_on, again_large, again_there}, proofs.MoreAnswers.{known_at, more_fails, more_on}}
use Rattle.yq_batch.proofs.RunAnswers.{fill_on, kept_on, put_fails, put_on, run_fails}
use Rattle.yq_core.specs.declared.path.Step as declared

-- a change comes after what was put
module _ (x : HeadInText) (op : Operation) (before : FilledRun) (y : HeadChange) (there : IsInText x) (so : FillsSo x before) (h : ChangesAt op x y)
    (is_after : IsAfterRun before.run y.place y.lead.now) (fitting : IsFitting op (filled_text x before)) where
  abbrev After : Bool → Type 0
  After b = IsAfterBy b before.run.done y.place.start y.place.end y.lead.now

  -- an equal scalar
  pub change_kept : y.written ≡ None → FillsOn op x before (record before { filled = None })
  change_kept none = go y.place.more h is_after.1
    where
      go : (b : Bool) → ChangesBy b op x y → After b → FillsOn op x before (record before { filled = None })
      go true h after = absurd (none-some _ (sym (ap (option_map string_bytes) none) ∙ h.written))
      go false h after = record { on = kept_on x (cut_text (cut_with x)) (λ i. cut_text (cut_with x)) op before.run y there so.run h is_after.0 after fitting none; filled = tt }

  module _ (u : List ℕ) (all : u ≡ cut_text (cut_with x)) (s : String Global) (some : y.written ≡ Some s) (new : List ℕ) (new_is : new ≡ y.lead.now ++ string_bytes s) where
    -- a text comes there
    pub change_on : (known : Option (Bor (List declared.Step))) → IfSome known (λ k. (y.place.more ≡ true) × FillsFirst y.lead.now (map tree_step y.steps.now) k) → (after : PutRun) → HasPut u y.place.start y.place.end new before.run after →
        FillsOn op x before (record { run = after; filled = known })
    change_on known fills after put = go y.place.more h is_after.1 known fills
      where
        has_put : HasPut u y.place.start y.place.end (y.lead.now ++ string_bytes s) before.run after
        has_put = subst (λ (l : List ℕ). HasPut u y.place.start y.place.end l before.run after) new_is put

        first : (b : Bool) (known : Option (Bor (List declared.Step))) → IfSome known (λ k. (b ≡ true) × FillsFirst y.lead.now (map tree_step y.steps.now) k) → IfSome known (FillsFirst y.lead.now (map tree_step y.steps.now))
        first b None fills = tt
        first b (Some k) fills = fills.1

        go : (b : Bool) → ChangesBy b op x y → After b → (known : Option (Bor (List declared.Step))) →
            IfSome known (λ k. (b ≡ true) × FillsFirst y.lead.now (map tree_step y.steps.now) k) →
            FillsOn op x before (record { run = after; filled = known })
        go true h later known fills =
            let r = more_on x u all op before.run y so.run h is_after.0 later fitting s some known (first true known fills) after has_put in
            record { on = r.0; filled = r.1 }
        go false h later None fills = record { on = put_on x u all op before.run y there so.run h is_after.0 later fitting s some after has_put; filled = tt }
        go false h later (Some k) fills = absurd (false≢true fills.0)

    -- too large a text
    pub change_fails : (e : ExprError) → PutFails e u y.place.start y.place.end new before.run → EditFails e (carried op (filled_text x before))
    change_fails e fails = go y.place.more h is_after.1 (subst (λ (l : List ℕ). PutFails e u y.place.start y.place.end l before.run) new_is fails)
      where
        go : (b : Bool) → ChangesBy b op x y → After b → PutFails e u y.place.start y.place.end (y.lead.now ++ string_bytes s) before.run → EditFails e (carried op (filled_text x before))
        go true h later fails = more_fails x u all op before.run y so.run h is_after.0 later fitting s some e fails
        go false h later fails = put_fails x u all op before.run y there so.run h is_after.0 later fitting s some e fails

-- one more comes into the collection that is known
module _ (x : HeadInText) (u : List ℕ) (all : u ≡ cut_text (cut_with x)) (op : Operation) (before : FilledRun) (y : HeadChange)
    (so : FillsSo x before) (change : ChangesAt op x y) (known : (y.place.more ≡ true) × IsSameFilled before.filled (map tree_step y.steps.now))
    (fitting : IsFitting op (filled_text x before)) (s : String Global) (some : y.written ≡ Some s) (new : List ℕ) (new_is : new ≡ (44 ∷ (32 ∷ [])) ++ string_bytes s) where
  abbrev is : IsSameFilled before.filled (map tree_step y.steps.now)
  is = known.1

  h : AddsAt op x y
  h = subst (λ (b : Bool). ChangesBy b op x y) known.0 change

  abbrev own : Operation
  own = append x.doc (stem_of x ++ h.left) h.key h.value

  own_fits : IsFitting own (filled_text x before)
  own_fits = subst (λ (o : Operation). IsFitting o (filled_text x before)) h.operation fitting

  abbrev done : ℕ
  done = before.run.done

  abbrev put : List ℕ
  put = (44 ∷ (32 ∷ [])) ++ string_bytes s

  written_is : string_bytes s ≡ (more_edit h.key h.value h.collection).written
  written_is = same_Some _ _ (sym (ap (option_map string_bytes) some) ∙ h.written)

  same_left : map tree_step is.0.now ≡ h.left
  same_left = is.2 ∙ sym h.left_is

  filled : IsFilledCollection h.collection so.run.cut x.doc (stem_of x ++ h.left) (drop done (cut_text (cut_with x)))
  filled =
      let own_known : IsKnownFilled (cut_with x) so.run.cut x.doc (stem_of x) done (Some is.0) = subst (IsKnownFilled (cut_with x) so.run.cut x.doc (stem_of x) done) is.1 so.filled in
      subst (λ (ss : List Step). IsFilledCollection h.collection so.run.cut x.doc (stem_of x ++ ss) (drop done (cut_text (cut_with x)))) same_left
      (own_known h.collection (ap (λ (ss : List Step). flow_collection x.doc (stem_of x ++ ss) (cut_with x)) same_left ∙ h.found))

  known_then : (cut : Cut) → IsFilledCollection h.collection cut x.doc (stem_of x ++ h.left) (drop done (cut_text (cut_with x))) → IsKnownFilled (cut_with x) cut x.doc (stem_of x) done before.filled
  known_then cut there = subst (IsKnownFilled (cut_with x) cut x.doc (stem_of x) done) (sym is.1) (known_at (cut_with x) cut x.doc (stem_of x) h.left done h.collection h.found is.0 same_left there)

  pub again_on : (after : PutRun) → HasPut u done done new before.run after → FillsOn op x before (record { run = after; filled = before.filled })
  again_on after has_put =
      let r : (on : RunsOn own x before.run after) × IsKnownFilled (cut_with x) on.run.cut x.doc (stem_of x) after.done before.filled =
      fill_on x u all own before.run done done put h.valid own_fits before.filled
      (again_there (cut_with x) x.doc (stem_of x) h.left h.key h.value (string_bytes before.run.text) done so.run h.collection h.takes filled (string_bytes s) written_is)
      (λ small. let r = again_goes_on (cut_with x) x.doc (stem_of x) h.left h.key h.value (string_bytes before.run.text) done so.run h.collection h.takes filled (string_bytes s) written_is h.valid own_fits small in
      (r.0, known_then r.0.cut r.1)) after (subst (λ (l : List ℕ). HasPut u done done l before.run after) new_is has_put) in
      subst (λ (o : Operation). FillsOn o x before (record { run = after; filled = before.filled })) (sym h.operation) (record { on = r.0; filled = r.1 })

  pub again_fails : (e : ExprError) → PutFails e u done done new before.run → EditFails e (carried op (filled_text x before))
  again_fails e fails =
      subst (λ (o : Operation). EditFails e (carried o (filled_text x before))) (sym h.operation)
      (run_fails x u all own before.run done done put h.valid own_fits
      (again_large (cut_with x) x.doc (stem_of x) h.left h.key h.value (string_bytes before.run.text) done so.run h.collection h.takes filled (string_bytes s) written_is) e
      (subst (λ (l : List ℕ). PutFails e u done done l before.run) new_is fails))
