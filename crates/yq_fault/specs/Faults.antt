-- What each layer refuses as a fault of a command, and which faults come from outside (own).
use Rattle.std.specs.Prelude.{Bool, true, false}
use Rattle.yq_core.specs.Answers.{ReadError}
use Rattle.yq_semantics.specs.Judgement.{ExprError}
use Rattle.yq_journal.specs.Refusals.{JournalError}
use Rattle.yq_fault.specs.declared.fault.Fault.{Fault}
use Rattle.yq_fault.specs.declared.fault.Fault.TheVariants.{ReadFailed, WriteFailed, OutFailed, Journal, Unreadable, OutOfMemory, Refused}
use Rattle.yq_failure.specs.declared.failure.Failure.TheVariants as failure

-- why a call of a journal failed
abbrev pub of_journal : JournalError → Fault
of_journal failure.Memory = OutOfMemory
of_journal (failure.Fault f) = Journal f

-- why a text was not read as documents
abbrev pub fault_of_reading : ReadError → Fault
fault_of_reading failure.Memory = OutOfMemory
fault_of_reading (failure.Fault f) = Unreadable f

-- why an expression has no matches, or a program isn't carried out
abbrev pub fault_of_refusal : ExprError → Fault
fault_of_refusal failure.Memory = OutOfMemory
fault_of_refusal (failure.Fault why) = Refused why

-- a call of the store failed
abbrev pub is_failure : Fault → Bool
is_failure ReadFailed = true
is_failure WriteFailed = true
is_failure _ = false

-- the output failed
abbrev pub is_output : Fault → Bool
is_output OutFailed = true
is_output _ = false

-- a call of the store failed, or memory was refused
abbrev pub is_outer_fault : Fault → Bool
is_outer_fault OutOfMemory = true
is_outer_fault e = is_failure e
