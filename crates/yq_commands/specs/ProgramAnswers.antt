-- What calls that carry out programs of the code answer (own).
use Rattle.std.{specs.Prelude.{◌≡◌, ℕ, Bool, false, IfOk, IsTrue, List, Ok, OnOk, Option, Result, String, string_bytes}, specs.FinMap.get}
use Rattle.std.specs.declared.alloc.Global.{Global}
use Rattle.yq_args.{specs.declared.command.Command.Command, specs.declared.eval_options.EvalOptions.EvalOptions}
use Rattle.yq_args.specs.declared.eval_words.EvalWords.{EvalWords}
use Rattle.yq_commands.specs.declared.parsed.Parsed.{Parsed}
use Rattle.yq_commands.specs.CommandDone.{CarriesOut, EditsInPlace, EditsOpened, Evaluates, program_effect, showing_edit}
use Rattle.yq_commands.{specs.Editing.{EditOutcome, program_edits, program_in}, specs.Evaluation.{evaluated, of_file, shows}}
use Rattle.yq_commands.{specs.EvalAsked.asked_in, specs.Expecting.IsChangeOutput, specs.FileEdits.{GivesEdit, PrintsAsked, PrintsHeldEdit}}
use Rattle.yq_commands.specs.Reads.{with_match}
use Rattle.yq_eval.specs.declared.matched.Match.{Match}
use Rattle.yq_history.{specs.declared.opened.OpenPair.OpenPair, specs.Causes.Cause, specs.Effects.Effect}
use Rattle.yq_history.{specs.Output.{Showing, Shows, showing_by}, specs.Report.report_by}
use Rattle.yq_fault.specs.declared.fault.Fault.{Fault}
use Rattle.yq_journal.specs.State.{State}
use Rattle.yq_semantics.{specs.Program.is_read, specs.View.program_of, specs.declared.program.Syntax.Syntax}
use Rattle.yq_store.specs.declared.store.Store.{Ghosts}
use Rattle.yq_history.specs.declared.report.Report as declared

-- a success adds a match to what is printed, after one of the document of that number
abbrev pub PrintsMatch : {T E : Type 0} → Result T E → (old new : String Global) → Bool → Option ℕ → Match → Type 0
PrintsMatch r old new no_doc last m = OnOk r (string_bytes new ≡ with_match (string_bytes old) no_doc last m.doc m.value)

-- an answer is what a program shows of a text, or an error
abbrev pub ShowsProgram : EvalOptions → Syntax → List ℕ → Result declared.Report Fault → Type 0
ShowsProgram options program t r = IfOk r (λ s. shows options (program_of program) t ≡ Ok (showing_by s))

-- an answer is what an update of a text is printed as, where the program is no read, or an error
abbrev pub GivesUpdate : Bool → List ℕ → Syntax → List ℕ → Result declared.Report Fault → Type 0
GivesUpdate diffs file program t r = is_read (program_of program) ≡ false → GivesEdit diffs file (program_of program) t r

-- an answer is what such an edit of a file changes, as it is printed, or an error
abbrev pub GivesChange : List ℕ → Bool → List ℕ → EditOutcome → {E : Type 0} → Result (String Global) E → Type 0
GivesChange file diffs t outcome r = IfOk r (λ s. IsChangeOutput file diffs t outcome (string_bytes s))

-- the same next to the edit of a program
abbrev pub GivesProgramChange : List ℕ → Bool → List ℕ → Syntax → {X E : Type 0} → Result (X × String Global) E → Type 0
GivesProgramChange file diffs t program r = IfOk r (λ e. IsChangeOutput file diffs t (program_edits (program_of program) t) (string_bytes e.1))

-- a success reports what an edit in place by a program shows
abbrev pub ShowsEdit : OpenPair → Parsed → declared.Report → {T E : Type 0} → Result T E → Type 0
ShowsEdit o e report r = OnOk r (Shows o.pair.file.now (showing_edit e.options (program_of e.program.now) o.text.items) (report_by report))

-- what such an edit does to a text and its settled journal
abbrev pub parsed_effect : Parsed → List ℕ → State → Effect
parsed_effect e = program_effect e.expr.now (program_of e.program.now)

-- what a program shows of a text
abbrev pub parsed_showing : Parsed → List ℕ → Result Showing Cause
parsed_showing e = shows e.options (program_of e.program.now)

-- in a store that keeps what is put into it that is shown of a file
abbrev pub ShowsParsed : {S : Type 0} → Ghosts S → (old new : S) → List ℕ → Parsed → {T : Type 0} → Result T Fault → declared.Report → Type 0
ShowsParsed d old new file e r report =
    IsTrue d.keeps → Evaluates (of_file (parsed_showing e)) file (d.content old) (d.content new) r (report_by report)

-- what was printed of a file is the text that a program makes of it, or with `--diff` a diff, where the program is no read
abbrev pub PrintsParsed : {S : Type 0} → Ghosts S → S → List ℕ → Parsed → declared.Report → {T E : Type 0} → Result T E → Type 0
PrintsParsed d old file e report r =
    IsTrue d.keeps → is_read (program_of e.program.now) ≡ false →
    OnOk r (PrintsHeldEdit e.options.diff file (program_of e.program.now) (get (d.content old) file) (string_bytes report.text))

-- in a store that keeps what is put into it such an edit does what is defined
abbrev pub EditsParsed : {S : Type 0} → Ghosts S → (old new : S) → OpenPair → Parsed → {T : Type 0} → Result T Fault → declared.Report → Type 0
EditsParsed d old new o e r report =
    IsTrue d.keeps → EditsOpened (program_of e.program.now) e.expr.now e.options.diff o (d.content old) (d.content new) r (report_by report)

-- by a store before and after a call
module _ {S : Type 0} (d : Ghosts S) (old new : S) (w : EvalWords) {T : Type 0} (r : Result T Fault) where
  -- `eval` edits in place what its words name
  abbrev pub Updates : declared.Report → Type 0
  Updates report = IsTrue d.keeps → EditsInPlace (asked_in w) (d.content old) (d.content new) r (report_by report)

  -- it shows what they ask for
  abbrev pub ShowsWords : declared.Report → Type 0
  ShowsWords report =
      IsTrue d.keeps →
      Evaluates (evaluated w.options (program_in (string_bytes w.expr))) (string_bytes w.file) (d.content old) (d.content new) r (report_by report)

  -- what it printed of an update is the edited text, or with `--diff` a diff
  abbrev pub PrintsWords : declared.Report → Type 0
  PrintsWords report = IsTrue d.keeps → OnOk r (PrintsAsked (asked_in w) (d.content old) (string_bytes report.text))

-- in a store that keeps what is put into it a command is carried out
abbrev pub Executes : {S : Type 0} → Ghosts S → (old new : S) → Command → {T : Type 0} → Result T Fault → declared.Report → Type 0
Executes d old new c r report = IsTrue d.keeps → CarriesOut c (d.content old) (d.content new) r (report_by report)
