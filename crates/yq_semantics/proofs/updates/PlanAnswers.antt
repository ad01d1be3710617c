-- What the laws of plans say of an answer that is exact.
use Rattle.std.{proofs.Common.{rules, ◌≡◌, ◌⊎◌, ℕ, zero, suc, List, [], ◌∷◌, Some, Result, Err, IfOk, subst}, specs.List.slice_get}
use Rattle.yq_documents.specs.Documents.{Document}
use Rattle.yq_semantics.{specs.Judgement.{ExprError, Judges, gives, refuses}, specs.declared.refusal.Refusal.Refusal, specs.After.all_after}
use Rattle.yq_semantics.{specs.Changes.Room, specs.Fits.AllFit, specs.Meaning.{AreReady, meaning}, specs.Operations.Operation}
use Rattle.yq_semantics.specs.Plans.{plan}
use Rattle.yq_semantics.specs.Program.{update_at, Update, assign, delete, comment, Program, updates, UpdatesHold, LiteralsHold}
use Rattle.yq_semantics.{proofs.updates.PlanFits.plan_fits, proofs.updates.PlanMeans.{plan_means, plan_refused, meaning_refused}}
use Rattle.yq_failure.specs.declared.failure.Failure.TheVariants as error

-- a literal of one update is one of the program
update_holds : (us : List Update) (n : ℕ) (u : Update) → UpdatesHold us → slice_get us n ≡ Some u → UpdatesHold (u ∷ [])
update_holds [] n u h at = absurd (cc)
update_holds (assign left op right ∷ us) zero u h at = let same : assign left op right ≡ u = cc in subst (λ (v : Update). UpdatesHold (v ∷ [])) same (h.0, tt)
update_holds (delete left ∷ us) zero u h at = let same : delete left ≡ u = cc in subst (λ (v : Update). UpdatesHold (v ∷ [])) same tt
update_holds (comment left place text ∷ us) zero u h at = let same : comment left place text ≡ u = cc in subst (λ (v : Update). UpdatesHold (v ∷ [])) same tt
update_holds (assign left op right ∷ us) (suc n) u h at = update_holds us n u h.1 at
update_holds (_ ∷ us) (suc n) u h at = update_holds us n u h at

-- literals of an update of a program are values, where all of the program are
pub literals_hold : (p : Program) (n : ℕ) (u : Update) → LiteralsHold p → update_at n p ≡ Some u → UpdatesHold (u ∷ [])
literals_hold p n u h at = search (rules, updates, update_holds)

module _ {X : Type 0} (view : X → List Operation) (u : Update) (rooms : ℕ → Room) (docs : List Document) where
  -- the operations of an exact answer lead to what the update means
  pub answer_means : (r : Result X ExprError) → AreReady rooms 0 docs → Judges view r (plan u rooms docs) → IfOk r (λ x. meaning u rooms docs ≡ gives (all_after rooms (view x) docs))
  answer_means r ready exact = search (rules, plan_means)

  -- each of them fits at its turn
  pub answer_fits : (r : Result X ExprError) → AreReady rooms 0 docs → UpdatesHold (u ∷ []) → Judges view r (plan u rooms docs) → IfOk r (λ x. AllFit rooms (view x) docs)
  answer_fits r ready holds exact = search (rules, plan_fits)

  -- its refusal is that of the update
  pub answer_refused : (r : Result X ExprError) (why : Refusal) → Judges view r (plan u rooms docs) → r ≡ Err (error.Fault why) → meaning u rooms docs ≡ refuses why
  answer_refused r why exact is = plan_refused u rooms docs why (subst (λ (q : Result X ExprError). Judges view q (plan u rooms docs)) is exact)

  -- and where the update is refused, so is the answer, but for want of memory
  pub answer_refuses : (r : Result X ExprError) (why : Refusal) → Judges view r (plan u rooms docs) → meaning u rooms docs ≡ refuses why → (r ≡ Err (error.Fault why)) ⊎ (r ≡ Err error.Memory)
  answer_refuses r why exact h = go r exact (meaning_refused u rooms docs why h)
    where
      go : (r : Result X ExprError) → Judges view r (plan u rooms docs) → plan u rooms docs ≡ refuses why → (r ≡ Err (error.Fault why)) ⊎ (r ≡ Err error.Memory)
      go r e is = search rules
