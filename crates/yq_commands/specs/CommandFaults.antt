-- Why a call of a command gives nothing (own).
use Rattle.std.specs.Prelude.{◌≡◌, ◌≢◌, false, Option, Some, None, Result, Ok, Err, IfErr, MatchResult}
use Rattle.yq_history.specs.Causes.{Cause, IsFor}
use Rattle.yq_fault.{specs.declared.fault.Fault.Fault, specs.declared.fault.Fault.TheVariants.OutOfMemory}
use Rattle.yq_fault.specs.Faults.{is_failure, is_output}

-- why nothing is due
abbrev pub cause_in : {X : Type 0} → Result X Cause → Option Cause
cause_in (Ok x) = None
cause_in (Err x) = Some x

-- no call failed, of a store or of an output
abbrev pub IsOfNoCall : Fault → Type 0
IsOfNoCall e = (is_failure e ≡ false) × (is_output e ≡ false)

-- nothing is given for that cause, or for lack of memory
abbrev pub FailsFor : {X : Type 0} → Result X Cause → {T : Type 0} → Result T Fault → Type 0
FailsFor due r = IfErr r (λ e. e ≢ OutOfMemory → IsFor (cause_in due) e)

-- a command is refused for this cause, or for lack of memory, and for nothing else
abbrev pub IsUnparsed : Cause → {T : Type 0} → Result T Fault → Type 0
IsUnparsed x r = MatchResult r (λ v. ⊥) (λ e. e ≢ OutOfMemory → IsFor (Some x) e)

-- the same, where there is such a cause
abbrev pub RefusedUnparsed : Option Cause → {T : Type 0} → Result T Fault → Type 0
RefusedUnparsed cause r = (x : Cause) → cause ≡ Some x → IsUnparsed x r
