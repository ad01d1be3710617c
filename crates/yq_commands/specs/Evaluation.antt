-- What an expression that isn't carried out in place shows of a file (own).
use Rattle.std.specs.Prelude.{ℕ, List, Option, Some, None, option_map, Result, Ok, Err, IfOk, if◌then◌else◌}
use Rattle.yq_core.specs.Tree.{Node}
use Rattle.yq_documents.{specs.Documents.Document, specs.Reading.{documents, read_at}}
use Rattle.yq_semantics.{specs.Copies.matches, specs.Judgement.{Judgement, gives, refuses}, specs.Program.{Program, Stage, read, updates}}
use Rattle.yq_journal.specs.History.{History, text_at}
use Rattle.yq_args.specs.declared.eval_options.EvalOptions.{EvalOptions}
use Rattle.yq_fault.{specs.declared.fault.Fault.Fault, specs.declared.fault.Fault.TheVariants.OutOfMemory}
use Rattle.yq_history.{specs.Causes.{Cause, named, no_reading}, specs.Output.{Output, Showing, Shows, bytes, diff, showing_nothing}}
use Rattle.yq_history.specs.Report.{Report, report_by}
use Rattle.yq_commands.{specs.Editing.{EditOutcome, refused, edited, program_edits}, specs.Expecting.changes_as_expected}
use Rattle.yq_commands.specs.Reads.{report_matches}
use Rattle.yq_history.specs.declared.report.Report as declared
use Rattle.yq_fault.specs.declared.fault.Fault.TheVariants as fault

-- what is printed of an edit that isn't carried out in place: the new text, or with `--diff` what changed
abbrev pub edit_output : EvalOptions → List ℕ → List ℕ → Output
edit_output options t u = if options.diff then diff t u else bytes u

-- of an edit of this text that is shown; with `--expect-change` the new text is to be another one
abbrev pub show_edit : EvalOptions → List ℕ → EditOutcome → Result Showing Cause
show_edit options t (refused x) = Err x
show_edit options t (edited u changes) = Ok (record { output = edit_output options t u; is_match = changes_as_expected options t u })

-- of a read its matches are shown, by what matching gives
abbrev pub show_found : EvalOptions → Judgement (List (ℕ × Node)) → Result Showing Cause
show_found options (gives ms) = Ok (report_matches options ms)
show_found options (refuses why) = Err (named (fault.Refused why))

-- the same, by the documents, if the text reads as documents
abbrev pub show_read : EvalOptions → List Stage → List ℕ → Option (List Document) → Result Showing Cause
show_read options pipe t None = Err (no_reading t)
show_read options pipe t (Some docs) = show_found options (matches pipe docs)

-- what a program shows of a text, or why it shows nothing
unfoldable pub shows : EvalOptions → Program → List ℕ → Result Showing Cause
shows options (read pipe) t = show_read options pipe t (option_map documents (read_at t))
shows options (updates us) t = show_edit options t (program_edits (updates us) t)

-- what is shown of a file, by what is shown of its text
abbrev pub of_file : (List ℕ → Result Showing Cause) → Option History → Result Showing Cause
of_file of_text None = Err (named fault.NotThere)
of_file of_text (Some h) = of_text (text_at h)

-- the same, by what an expression is
abbrev pub evaluated : EvalOptions → Result Program Cause → Option History → Result Showing Cause
evaluated options (Err x) h = Err x
evaluated options (Ok p) h = of_file (shows options p) h

-- what is shown, where there is no cause for a refusal
abbrev pub report_in : Result Showing Cause → Showing
report_in (Ok s) = s
report_in (Err x) = showing_nothing

-- what is to be shown of a file, if something is, was shown
abbrev pub IsShowing : List ℕ → Result Showing Cause → Report → Type 0
IsShowing file (Ok due) s = Shows file due s
IsShowing file (Err x) s = ⊥

-- what is given is to be shown of a file
abbrev pub GivesShowing : List ℕ → Result Showing Cause → Result declared.Report Fault → Type 0
GivesShowing file due r = IfOk r (λ s. IsShowing file due (report_by s))
