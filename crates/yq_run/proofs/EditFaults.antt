-- Why a program is refused on a text.
use Rattle.std.{proofs.Common.{rules, ◌≡◌, ◌≢◌, ℕ, List, true}, specs.Str.is_utf8}
use Rattle.yq_semantics.specs.Program.{Program}
use Rattle.yq_edit_laws.{specs.Carried.edit_of, specs.Edit.Edit}
use Rattle.yq_fault.{specs.declared.fault.Fault.Fault, specs.declared.fault.Fault.TheVariants.OutOfMemory}
use Rattle.yq_splice.specs.Answers.{TextFails}
use Rattle.yq_commands.{specs.CommandFaults.IsOfNoCall, specs.Editing.{Refuses, program_edits}}

-- the fault says why
pub edit_refuses : (p : Program) (s t : List ℕ) (e : Fault) → s ≡ t → is_utf8 t ≡ true → TextFails e (edit_of p s) → e ≢ OutOfMemory → Refuses (program_edits p t) e
unfolding program_edits
edit_refuses p s t e same utf8 fails other = search rules

-- it isn't that of a call of the store, nor of the output
pub edit_inside : (e : Fault) (x : Edit) → TextFails e x → IsOfNoCall e
edit_inside e x fails = search rules
