-- Whether an update changes what it is asked to change: with `--expect-change` a byte of its text (own).
use Rattle.std.{specs.Prelude.{◌≡◌, ℕ, Bool, true, false, not, ◌&&◌, List, [], Option, Some, None, Result, Ok, Err, OnOk}, specs.FinMap.get}
use Rattle.std.specs.Str.{bytes_eq}
use Rattle.yq_semantics.specs.Program.{Program}
use Rattle.yq_journal.specs.History.{History, text_at}
use Rattle.yq_args.{specs.declared.command.Command.Command, specs.declared.command.Command.TheVariants.Eval}
use Rattle.yq_args.specs.declared.eval_options.EvalOptions.{EvalOptions}
use Rattle.yq_history.{specs.Causes.Cause, specs.Effects.{Effect, writes_nothing}}
use Rattle.yq_history.specs.Output.{IsOutput, Output, Showing, bytes, diff, showing_nothing}
use Rattle.yq_fault.specs.declared.fault.Fault.{Fault}
use Rattle.yq_store.specs.FileMap.{FileMap}
use Rattle.yq_commands.{specs.CommandEffects.OfEffect, specs.Editing.{EditOutcome, edited, program_edits}}

-- an edit from one text to another does: they differ, where that is expected
abbrev pub changes_as_expected : EvalOptions → List ℕ → List ℕ → Bool
changes_as_expected options old new = not (options.expect_change && bytes_eq new old)

-- an edit of a text does, by what it gives
abbrev pub edits_as_expected : EvalOptions → List ℕ → EditOutcome → Bool
edits_as_expected options old (edited new changes) = changes_as_expected options old new
edits_as_expected options old _ = true

-- what is printed of an edit in place: nothing, or with `--diff` what changed
abbrev pub change_output : Bool → List ℕ → EditOutcome → Output
change_output true old (edited new changes) = diff old new
change_output _ old outcome = bytes []

-- these bytes are that output of a file
abbrev pub IsChangeOutput : List ℕ → Bool → List ℕ → EditOutcome → List ℕ → Type 0
IsChangeOutput file diffs old outcome printed = IsOutput file (change_output diffs old outcome) printed

-- what an edit in place shows of a text
abbrev pub showing_change : EvalOptions → List ℕ → EditOutcome → Showing
showing_change options old outcome = record { output = change_output options.diff old outcome; is_match = edits_as_expected options old outcome }

-- the same of a file, by what an expression is
abbrev pub report_edit : EvalOptions → Result Program Cause → Option History → Showing
report_edit options (Err x) h = showing_nothing
report_edit options (Ok p) None = showing_nothing
report_edit options (Ok p) (Some h) = showing_change options (text_at h) (program_edits p (text_at h))

-- a command is asked to change a byte
abbrev pub expects_change : Command → Bool
expects_change (Eval w in_place) = w.options.expect_change
expects_change _ = false

-- an effect is as expected: it writes something, where a change is expected
abbrev pub works_as_expected : Bool → Effect → Bool
works_as_expected expects (writes_nothing o) = not expects
works_as_expected expects _ = true

-- whether there is a match says of a command that came about whether its effect is as expected
abbrev pub ReportsExpected : {T : Type 0} → Result T Fault → Bool → Command → FileMap → List ℕ → List ℕ → Type 0
ReportsExpected r is_match c held file journal =
    OfEffect c (get held file) (get held journal) (λ x. OnOk r (is_match ≡ works_as_expected (expects_change c) x))
