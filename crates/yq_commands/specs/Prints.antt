-- What a command prints (own).
use Rattle.std.{specs.Prelude.{Bool, true, false, Option}, specs.String.string_bytes}
use Rattle.yq_journal.specs.History.{History}
use Rattle.yq_args.specs.declared.command.Command.{Command}
use Rattle.yq_args.specs.declared.command.Command.TheVariants.{Eval, Undo, Redo, History as Lists, Squash, Help}
use Rattle.yq_commands.{specs.Editing.program_in, specs.Evaluation.{evaluated, report_in}, specs.Expecting.report_edit}
use Rattle.yq_history.specs.Output.{Showing, listing_output, showing, showing_nothing}

-- what a command shows where it is carried out; of help nothing is said
abbrev pub report_of : Command → Option History → Showing
report_of (Eval w true) h = report_edit w.options (program_in (string_bytes w.expr)) h
report_of (Eval w false) h = report_in (evaluated w.options (program_in (string_bytes w.expr)) h)
report_of (Undo file journal) h = showing_nothing
report_of (Redo file journal) h = showing_nothing
report_of (Lists file journal diffs) h = showing (listing_output diffs h)
report_of (Squash n file journal) h = showing_nothing
report_of Help h = showing_nothing

-- the command reads the journal of its file
abbrev pub reads_journal : Command → Bool
reads_journal (Eval w true) = true
reads_journal (Eval w false) = false
reads_journal Help = false
reads_journal _ = true

-- the command prints and writes no name
abbrev pub prints : Command → Bool
prints (Eval w true) = false
prints (Eval w false) = true
prints (Lists file journal diffs) = true
prints Help = true
prints _ = false

-- the command writes what it changes to names, and prints it
abbrev pub prints_change : Command → Bool
prints_change (Eval w true) = w.options.diff
prints_change _ = false
