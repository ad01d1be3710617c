-- An update that is planned on the documents of a text and carried out.
use Rattle.std.proofs.Common.{rules, ◌≡◌, ℕ, ◌<◌, List, [], ◌∷◌, ◌++◌, Some, None, Result, Ok, Err, IfOk, IfErr, string_bytes, sym, ap, ◌∙◌}
use Rattle.std.{proofs.Common.{subst, arith}, proofs.lemmas.Option.none-some}
use Rattle.yq_row_table.specs.Rows.{Cut}
use Rattle.yq_documents.{specs.Reading.{documents, documents_of, cut_of, read_at}, proofs.ReadLaws.parts_read}
use Rattle.yq_semantics.{specs.Judgement.{Judges, ExprError}, specs.Operations.Operation, specs.Plans.plan}
use Rattle.yq_semantics.{specs.Program.{Program, Update, read, updates, update_at, update_count, UpdatesHold}, specs.Rooms.room_of}
use Rattle.yq_semantics.specs.declared.refusal.Refusal.{Refusal}
use Rattle.yq_text.{specs.Splice.Splice, proofs.PlaceInList.get_some, specs.declared.edited.Edited.Edited}
use Rattle.yq_edit_laws.{specs.Answers.{Edits, EditFails}, specs.Carried.{carry_all, carry_out, updated}}
use Rattle.yq_edit_laws.{specs.Edit.{Edit, gives, edit_after, by_reading}, specs.Theorems.HasReading}
use Rattle.yq_edit_laws.{specs.Valid.{HaveOperands, IsStep, UpdateFails, FailsAt}, proofs.MeaningLaws.{UpdateComes, plan_comes, plan_stops}}
use Rattle.yq_edit_laws.proofs.OrderLaws.{fails_itself}
use Rattle.yq_failure.specs.declared.failure.Failure.TheVariants as failure
use Rattle.yq_semantics.specs.Judgement as judgement

-- a text that isn't read has no reading
pub no_reading : (t : List ℕ) → read_at t ≡ None → ¬ HasReading t
no_reading t none h = none-some _ (sym none ∙ (parts_read t h.0 h.1).0)

-- an update by the reading of the text
read_updated : (u : Update) (t : List ℕ) (c : Cut) → read_at t ≡ Some c → updated u t ≡ carry_out t (plan u (room_of t) (documents c))
read_updated u t c is = ap (by_reading (λ k. carry_out t (plan u (room_of t) (documents k)))) is

-- an update that is planned, and whose literals and operands are valid
module _ (u : Update) (t : List ℕ) (c : Cut) (ops : List Operation) (is : read_at t ≡ Some c) (planned : plan u (room_of t) (documents c) ≡ judgement.gives ops)
    (holds : UpdatesHold (u ∷ [])) (operands : HaveOperands ops) where
  done : updated u t ≡ carry_all ops t
  done = read_updated u t c is ∙ ap (carry_out t) planned

  comes : UpdateComes u t (carry_all ops t)
  comes = plan_comes u t c is ops planned operands holds

  step_so : (ds : List Splice) (x : Edit) (new : List ℕ) (all : List Splice) → updated u t ≡ x → UpdateComes u t x → edit_after ds x ≡ gives new all → (cs : List Splice) × IsStep u t new cs × (all ≡ ds ++ cs)
  step_so ds x new all is_done means h = search rules

  pub update_ok : (r : Result Edited ExprError) (ds : List Splice) → Edits r (edit_after ds (carry_all ops t)) →
      IfOk r (λ e. (cs : List Splice) × IsStep u t (string_bytes e.text) cs × (e.splices.items ≡ ds ++ cs))
  update_ok (Ok e) ds h = step_so ds (carry_all ops t) (string_bytes e.text) e.splices.items done comes h
  update_ok (Err e) ds h = tt

  fails_so : (e : ExprError) → EditFails e (carry_all ops t) → UpdateFails e u t
  fails_so (failure.Fault why) h = subst (UpdateComes u t) h comes
  fails_so failure.Memory h = tt

  pub update_err : (r : Result Edited ExprError) (ds : List Splice) → Edits r (edit_after ds (carry_all ops t)) → IfErr r (λ e. FailsAt e u t)
  update_err (Ok e) ds h = tt
  update_err (Err e) ds h = let own = fails_itself e ds (carry_all ops t) h in record { fails = subst (EditFails e) (sym done) own; why = fails_so e own }

-- an update that is refused
update_refused : (u : Update) (t : List ℕ) (c : Cut) (why : Refusal) → read_at t ≡ Some c → plan u (room_of t) (documents c) ≡ judgement.refuses why → FailsAt (failure.Fault why) u t
update_refused u t c why is refused = record { fails = read_updated u t c is ∙ ap (carry_out t) refused; why = plan_stops u t c is why refused }

-- memory that ran out
pub memory_fails : (u : Update) (t : List ℕ) → FailsAt failure.Memory u t
memory_fails u t = record { fails = tt; why = tt }

-- an update that is not planned, by the documents of a text
pub update_unplanned : {X : Type 0} (view : X → List Operation) (u : Update) (t d : List ℕ) (p : ExprError) → read_at t ≡ Some (cut_of d) → d ≡ t →
    Judges view (Err p) (plan u (room_of d) (documents_of d)) → FailsAt p u t
update_unplanned view u t d (failure.Fault why) is same h = update_refused u t (cut_of d) why is (ap (λ (x : List ℕ). plan u (room_of x) (documents_of d)) (sym same) ∙ h)
update_unplanned view u t d failure.Memory is same h = memory_fails u t

-- and one that is
pub update_planned : (u : Update) (t d : List ℕ) (ops : List Operation) → d ≡ t → plan u (room_of d) (documents_of d) ≡ judgement.gives ops →
    plan u (room_of t) (documents (cut_of d)) ≡ judgement.gives ops
update_planned u t d ops same h = ap (λ (x : List ℕ). plan u (room_of x) (documents_of d)) (sym same) ∙ h

-- an update of that number
pub update_there : (p : Program) (n : ℕ) → n < update_count p → (u : Update) × (update_at n p ≡ Some u)
update_there (read stages) n h = absurd (omega (arith, h))
update_there (updates us) n h = get_some us n h
