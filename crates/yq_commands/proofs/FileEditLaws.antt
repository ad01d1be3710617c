-- What an accepted edit makes of a file, and an expression that is no program.
use Rattle.std.proofs.Common.{rules, Bool, ◌≡◌, ◌≢◌, ℕ, List, false, Option, Some, Result, Ok, Err, OnOk, sym, ap, ◌∙◌}
use Rattle.std.proofs.lemmas.Option.{none-some}
use Rattle.yq_semantics.specs.Program.{Program, is_read}
use Rattle.yq_text.specs.Splice.{Splice}
use Rattle.yq_history.{specs.Causes.IsFor, specs.Effects.Works, specs.Output.IsOutput}
use Rattle.yq_fault.{specs.declared.fault.Fault.Fault, specs.declared.fault.Fault.TheVariants.OutOfMemory}
use Rattle.yq_commands.{specs.CommandFaults.{RefusedUnparsed, cause_in}, specs.CommandEffects.{edit_effect, output_by}}
use Rattle.yq_commands.specs.Editing.{program_in, EditOutcome, edited}
use Rattle.yq_commands.{specs.FileEdits.{HoldsEdited, IsFileEdited, PrintsChange, PrintsEdit, PrintsUpdate}, specs.Expecting.change_output}
use Rattle.yq_journal.specs.State.{State}
use Rattle.yq_store.specs.FileMap.{FileMap}

-- ---- an expression that is no program

-- one that is a program has no such cause
pub parsed_free : {T : Type 0} (r : Result T Fault) (expr : List ℕ) (p : Program) → program_in expr ≡ Ok p → RefusedUnparsed (cause_in (program_in expr)) r
parsed_free r expr p is = λ x cause. absurd (none-some x (sym (ap cause_in is) ∙ cause))

-- one that is none is refused for it
pub unparsed_fault : {T : Type 0} (r : Result T Fault) (expr : List ℕ) (e : Fault) → r ≡ Err e → (e ≢ OutOfMemory → IsFor (cause_in (program_in expr)) e) →
    RefusedUnparsed (cause_in (program_in expr)) r
unparsed_fault r expr e is why = λ x cause. search rules

-- ---- an accepted edit

-- of a file
pub file_comes : {T : Type 0} (r : Result T Fault) (expr : List ℕ) (p : Program) (t : List ℕ) (old new : Option (List ℕ)) → program_in expr ≡ Ok p → old ≡ Some t →
    OnOk r (HoldsEdited p t new) → OnOk r (IsFileEdited expr old new)
file_comes r expr p t old new is there edited_to = search rules

-- and of one that is printed, or whose diff is
pub printed_comes : {T : Type 0} (r : Result T Fault) (b : Bool) (expr file : List ℕ) (p : Program) (old : Option (List ℕ)) (printed : List ℕ) → program_in expr ≡ Ok p →
    (is_read p ≡ false → OnOk r ((t : List ℕ) × (old ≡ Some t) × PrintsEdit b file p t printed)) → OnOk r (PrintsUpdate b expr file old printed)
printed_comes r b expr file p old printed is edited_to = search rules

-- ---- what an edit in place prints

-- it is what it changes
pub change_comes : (b : Bool) (file t u : List ℕ) (changes : List Splice) (o : EditOutcome) (new : Option (List ℕ)) (printed : List ℕ) → o ≡ edited u changes → new ≡ Some u →
    IsOutput file (change_output b t o) printed → PrintsChange b file (Some t) new printed
change_comes b file t u changes o new printed is there shows = search rules

-- of a file
pub both_come : {T : Type 0} (r : Result T Fault) (b : Bool) (expr file t : List ℕ) (old new : Option (List ℕ)) (printed : List ℕ) → old ≡ Some t →
    OnOk r (IsFileEdited expr old new) → OnOk r (PrintsChange b file (Some t) new printed) → OnOk r (IsFileEdited expr old new × PrintsChange b file old new printed)
both_come r b expr file t old new printed there edited_to shows = search rules

-- it is the output of the effect
pub change_output_by : {T : Type 0} (b : Bool) (file f j expr t : List ℕ) (o : EditOutcome) (s : State) (c d : FileMap) (r : Result T Fault) (printed : List ℕ) →
    Works (edit_effect expr o t s) f j c d r → OnOk r (IsOutput file (change_output b t o) printed) → OnOk r (IsOutput file (output_by b (Some t) (edit_effect expr o t s)) printed)
change_output_by b file f j expr t o s c d r printed works shows = search rules
