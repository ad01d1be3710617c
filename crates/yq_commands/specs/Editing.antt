-- What an expression makes of a text.
use Rattle.std.specs.Prelude.{◌≡◌, ◌≢◌, ℕ, List, Some, Result, Ok, Err, IfErr, length, string_bytes}
use Rattle.yq_semantics.{specs.Program.Program, specs.Parsing.{Outcome, parsed}}
use Rattle.yq_expr_parser.specs.Parse.{outcome}
use Rattle.yq_text.{specs.Splice.{Splice, all_done, lengths_done}, specs.declared.edited.Edited.Edited}
use Rattle.yq_edit_laws.{specs.Carried.edit_of, specs.Edit.Edit}
use Rattle.yq_history.specs.Causes.{Cause, IsFor, named, no_program, no_reading}
use Rattle.yq_fault.{specs.declared.fault.Fault.Fault, specs.declared.fault.Fault.TheVariants.OutOfMemory}
use Rattle.yq_edit_laws.specs.Edit as edit
use Rattle.yq_fault.specs.declared.fault.Fault.TheVariants as fault

-- what an edit gives: it is refused for this cause, or it gives a text by splices (own)
pub data EditOutcome : Type 0 where
  refused : Cause → EditOutcome
  edited : List ℕ → List Splice → EditOutcome

-- the same, of a text that was edited (own)
abbrev pub outcome_of : Edited → EditOutcome
outcome_of e = edited (string_bytes e.text) e.splices.items

-- the splices of an edited text lead to it from this one (own)
abbrev pub SplicesLead : List ℕ → Edited → Type 0
SplicesLead t e = all_done e.splices.items t ≡ Some (string_bytes e.text)

-- their lengths lead to its length (own)
abbrev pub LengthsLead : List ℕ → Edited → Type 0
LengthsLead t e = lengths_done e.splices.items (length t) ≡ Some (length (string_bytes e.text))

-- the fault says why nothing is given (own)
abbrev pub Refuses : EditOutcome → Fault → Type 0
Refuses (refused x) e = IsFor (Some x) e
Refuses (edited text changes) e = ⊥

-- an edit is refused for that, or for lack of memory (own)
abbrev pub RefusedBy : EditOutcome → {T : Type 0} → Result T Fault → Type 0
RefusedBy outcome r = IfErr r (λ e. e ≢ OutOfMemory → Refuses outcome e)

-- what comes of an expression, as a program or as the cause why it is none (own)
abbrev pub result_of : Outcome → Result Program Cause
result_of (parsed p) = Ok p
result_of o = Err (no_program o)

-- the program of an expression, or the cause why it is none (own)
unfoldable pub program_in : List ℕ → Result Program Cause
program_in expr = result_of (outcome expr)

-- what an edit of a text gives (own)
abbrev pub edit_outcome : List ℕ → Edit → EditOutcome
edit_outcome old edit.unreadable = refused (no_reading old)
edit_outcome old (edit.refuses why) = refused (named (fault.Refused why))
edit_outcome old (edit.gives text changes) = edited text changes

-- what a program makes of a text (own)
unfoldable pub program_edits : Program → List ℕ → EditOutcome
program_edits program text = edit_outcome text (edit_of program text)

-- something holds of each program that makes this edited text of a text (own)
abbrev pub EachProgram : List ℕ → Edited → (Program → Type 0) → Type 0
EachProgram old e holds = (p : Program) → program_edits p old ≡ outcome_of e → holds p
