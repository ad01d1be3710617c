-- What an answer to an edit of any text says.
use Rattle.std.specs.Prelude.{◌≡◌, ◌≢◌, ⊤, ℕ, List, Option, Some, None, Result, Ok, Err, string_bytes}
use Rattle.yq_core.specs.declared.fault.FaultKind.TheVariants.{NotUtf8}
use Rattle.yq_semantics.{specs.Judgement.ExprError, specs.Program.Program}
use Rattle.yq_text.specs.declared.edited.Edited.{Edited}
use Rattle.yq_fault.specs.declared.fault.Fault.{Fault}
use Rattle.yq_edit_laws.{specs.Answers.EditFails, specs.Edit.{Edit, unreadable, refuses, gives}}
use Rattle.yq_edit_laws.specs.Theorems.{HasReading, ProgramRefused}
use Rattle.yq_fault.specs.declared.fault.Fault.TheVariants as fault

-- what each fault says of an edit: never that the text isn't UTF-8. Lack of memory says nothing, and there is no other fault (own).
abbrev pub TextFails : Fault → Edit → Type 0
TextFails (fault.Unreadable f) edit = (edit ≡ unreadable) × (f.kind ≢ NotUtf8)
TextFails (fault.Refused why) edit = edit ≡ refuses why
TextFails fault.OutOfMemory edit = Unit {0}
TextFails _ edit = ⊥

-- the answer is what the edit gives (own)
abbrev pub EditsText : Result Edited Fault → Edit → Type 0
EditsText (Ok e) edit = edit ≡ gives (string_bytes e.text) e.splices.items
EditsText (Err e) edit = TextFails e edit

-- the answer is nothing, or what the edit gives (own)
abbrev pub MayEdit : Result (Option Edited) ExprError → Edit → Type 0
MayEdit (Ok None) edit = ⊤
MayEdit (Ok (Some e)) edit = edit ≡ gives (string_bytes e.text) e.splices.items
MayEdit (Err e) edit = EditFails e edit

-- why a text isn't edited: it has no reading, or the program is refused, or memory ran out (own)
abbrev pub EditRefused : Fault → Program → List ℕ → Type 0
EditRefused (fault.Unreadable f) p t = ¬ HasReading t
EditRefused (fault.Refused why) p t = ProgramRefused p why t
EditRefused fault.OutOfMemory p t = ⊤
EditRefused _ p t = ⊥
