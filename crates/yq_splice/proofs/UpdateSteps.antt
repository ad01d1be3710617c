-- Updates of a program that are carried out on a session.
use Rattle.std.proofs.Common.{◌≡◌, ℕ, ◌+◌, ◌<◌, List, [], ◌∷◌, ◌++◌, length, Option, Some, None, Result, Ok, Err, ap, sym, subst, ◌∙◌}
use Rattle.std.{proofs.Common.{append-nil, arith}, specs.declared.alloc.AllocError.AllocError}
use Rattle.yq_documents.{specs.Documents.Document, specs.Reading.{cut_of, documents, documents_of, read_at}}
use Rattle.yq_documents.proofs.ReadLaws.{one_reading, read_takes}
use Rattle.yq_semantics.{specs.Judgement.{gives, ExprError}, specs.Meaning.meaning, specs.Operations.Operation, specs.Plans.plan}
use Rattle.yq_semantics.{specs.Rooms.room_of, specs.Program.{Program, Update, UpdatesHold, update_at, update_count}}
use Rattle.yq_semantics.proofs.updates.RoomsLast.{plan_follows}
use Rattle.yq_expr.{specs.FixedPaths.{IfAny, IsSole, PlansOnly}, proofs.FixedLaws.{sole_stays, text_ready}}
use Rattle.yq_text.specs.Splice.{Splice}
use Rattle.yq_edit_rules.specs.Operands.{HasOperand}
use Rattle.yq_edit_laws.{specs.Answers.EditFails, specs.Carried.{carried, carry_all, carry_out, updated}}
use Rattle.yq_edit_laws.{specs.Edit.{by_reading, edit_then}, specs.Theorems.{HasReading, IsFitting, IsUpdated}}
use Rattle.yq_edit_laws.{specs.Valid.{FailsAt, IsStep, UpdateFails}, proofs.MeaningLaws.{UpdateComes, plan_comes}}
use Rattle.yq_edit_laws.proofs.OrderLaws.{fails_on}
use Rattle.yq_splice.{specs.Updates.{HaveFailed, HaveLed}, proofs.AnswerLaws.{step_fails, step_more}, proofs.SessionLaws.reading_cut}
use Rattle.yq_edit_laws.specs.Edit as edits
use Rattle.yq_failure.specs.declared.failure.Failure.TheVariants as failure

-- ---- an update whose plan is one operation

module _ (u : Update) (t : List ℕ) (op : Operation) (reads : HasReading t) (planned : PlansOnly u t op) (holds : UpdatesHold (u ∷ [])) where
  is : read_at t ≡ Some (cut_of t)
  is = reading_cut t reads

  -- the operation fits
  pub one_fits : IsFitting op t
  one_fits = record {
    before = documents_of t;
    read = read_takes t (cut_of t) is;
    fits = (plan_follows u (room_of t) (documents_of t) (op ∷ []) (text_ready t is) holds planned).fit.0;
  }

  module _ (valid : HasOperand op) where
    done : updated u t ≡ carry_all (op ∷ []) t
    done = ap (by_reading (λ k. carry_out t (plan u (room_of t) (documents k)))) is ∙ ap (carry_out t) planned

    comes : UpdateComes u t (carry_all (op ∷ []) t)
    comes = plan_comes u t (cut_of t) is (op ∷ []) planned (valid, tt) holds

    -- it carries the update out
    pub one_done : (m : List ℕ) (cs : List Splice) → carried op t ≡ edits.gives m cs → IsStep u t m cs
    one_done m cs h =
        let all : carry_all (op ∷ []) t ≡ edits.gives m cs = ap (edit_then (carry_all [])) h ∙ ap (edits.gives m) (append-nil cs) in
        record { exact = done ∙ all; is = subst (UpdateComes u t) all comes }

    fails_so : (e : ExprError) → EditFails e (carry_all (op ∷ []) t) → UpdateFails e u t
    fails_so (failure.Fault why) h = subst (UpdateComes u t) h comes
    fails_so failure.Memory h = tt

    -- where it fails, the update does
    pub one_fails : (e : ExprError) → EditFails e (carried op t) → FailsAt e u t
    one_fails e h =
        let all : EditFails e (carry_all (op ∷ []) t) = fails_on e (carry_all []) (carried op t) h in
        record { fails = subst (EditFails e) (sym done) all; why = fails_so e all }

-- after an update there is still one document without aliases
pub sole_on : (u : Update) (t m : List ℕ) (cs : List Splice) → UpdatesHold (u ∷ []) → IsUpdated u t m cs → IsSole (documents_of t) → IsSole (documents_of m)
sole_on u t m cs holds h sole =
    let is : read_at t ≡ Some (cut_of t) = reading_cut t (h.before, h.read) in
    let before : h.before ≡ documents_of t = one_reading t h.before (documents_of t) h.read (read_takes t (cut_of t) is) in
    let after : h.after ≡ documents_of m = one_reading m h.after (documents_of m) h.reads (read_takes m (cut_of m) (reading_cut m (h.after, h.reads))) in
    let meant : meaning u (room_of t) (documents_of t) ≡ gives h.after = ap (λ (ds : List Document). meaning u (room_of t) ds) (sym before) ∙ h.meant in
    subst IsSole after (sole_stays u (room_of t) (documents_of t) h.after (text_ready t is) holds meant sole)

-- ---- those of a program

-- one update more
pub led_more : (p : Program) (n : ℕ) (t m new : List ℕ) (cs all : List Splice) → n < update_count p → HaveLed p t n m cs →
    ((u : Update) → update_at n p ≡ Some u → (es : List Splice) × IsStep u m new es × (all ≡ cs ++ es)) → HaveLed p t (n + 1) new all
led_more p n t m new cs all within led step us is =
    let below : n < length us = omega (arith, within, ap update_count is) in
    step_more p us n t m new cs all is below (led us is) step

-- an update that fails
pub led_fails : (p : Program) (n : ℕ) (t m : List ℕ) (cs : List Splice) (e : ExprError) → n < update_count p → HaveLed p t n m cs →
    ((u : Update) → update_at n p ≡ Some u → FailsAt e u m) → HaveFailed p t e
led_fails p n t m cs e within led fails us is =
    let below : n < length us = omega (arith, within, ap update_count is) in
    step_fails p us n t m cs e is below (led us is) fails

-- memory that ran out
pub led_no_more : (p : Program) (t : List ℕ) → HaveFailed p t failure.Memory
led_no_more p t us _ = record { fails = tt; why = tt }

-- what is so whatever is answered
pub any_so : {X : Type 0} (P : Type 0) (r : Result (Option X) AllocError) → P → IfAny r (λ _. P)
any_so P (Ok (Some x)) p = p
any_so P (Ok None) p = tt
any_so P (Err e) p = tt
