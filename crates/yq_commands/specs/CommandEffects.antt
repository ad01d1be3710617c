-- What a command does to a file and its journal, by their bytes as they are, good for a history or not (own).
use Rattle.std.specs.Prelude.{◌≢◌, ℕ, List, [], nat_le, Bool, if◌then◌else◌, Option, Some, None, Result, Ok, Err, true}
use Rattle.std.{specs.Str.bytes_eq, specs.String.string_bytes}
use Rattle.yq_semantics.specs.Program.{Program}
use Rattle.yq_journal.{specs.Record.Record, specs.Refusals.most_records, specs.State.{State, journal_after, with_move}}
use Rattle.yq_journal.specs.declared.fault.JournalFault.TheVariants.{JournalFull}
use Rattle.yq_args.specs.declared.command.Command.{Command}
use Rattle.yq_args.specs.declared.command.Command.TheVariants.{Eval, Undo, Redo, History as Lists, Squash}
use Rattle.yq_history.specs.Effects.{Effect, refuses, writes_nothing, writes_both, from_pair, move_effect, squash_effect, listing_effect}
use Rattle.yq_history.{specs.Effects.printed_by, specs.Causes.{Cause, named}, specs.Output.{IsOutput, Output, bytes, diff}}
use Rattle.yq_commands.{specs.CommandFaults.cause_in, specs.Editing.{EditOutcome, refused, edited, program_in, program_edits}}
use Rattle.yq_commands.{specs.Edits.record_between, specs.EvalAsked.{EvalAsked, asked_in}}
use Rattle.yq_journal.specs.declared.moves.Move.TheVariants as move
use Rattle.yq_fault.specs.declared.fault.Fault.TheVariants as fault

-- what the edit of a record does from one text to another
abbrev pub edit_writes : Record → List ℕ → List ℕ → State → Effect
edit_writes edit t u s = writes_both u (with_move s (move.Edit edit) t) (journal_after s (move.Edit edit))

-- what an edit does to them, by what it gives: a record of one edit goes into the journal
abbrev pub edit_effect : List ℕ → EditOutcome → List ℕ → State → Effect
edit_effect expr (refused x) t s = refuses x
edit_effect expr (edited u changes) t s =
    if bytes_eq u t then writes_nothing (bytes [])
    else if nat_le most_records s.at then refuses (named (fault.Journal JournalFull))
    else edit_writes (record_between expr changes t u) t u s

-- the same, by its expression
abbrev pub update_effect : List ℕ → Result Program Cause → Option (List ℕ) → Option (List ℕ) → Effect
update_effect expr (Err x) file journal = refuses x
update_effect expr (Ok p) file journal = from_pair file journal (λ t s. edit_effect expr (program_edits p t) t s)

-- the same, by what `eval` is asked
abbrev pub update_asked : EvalAsked → Option (List ℕ) → Option (List ℕ) → Effect
update_asked asked file journal = update_effect asked.expr (program_in asked.expr) file journal

-- something holds of what a command does, by the bytes of its file and its journal; of what prints a file alone, and of help, nothing is said
abbrev pub OfEffect : Command → Option (List ℕ) → Option (List ℕ) → (Effect → Type 0) → Type 0
OfEffect (Eval w true) file journal holds = holds (update_asked (asked_in w) file journal)
OfEffect (Undo f j) file journal holds = holds (from_pair file journal (move_effect move.Undo))
OfEffect (Redo f j) file journal holds = holds (from_pair file journal (move_effect move.Redo))
OfEffect (Lists f j diffs) file journal holds = holds (from_pair file journal (listing_effect diffs))
OfEffect (Squash n f j) file journal holds = holds (from_pair file journal (squash_effect n))
OfEffect _ file journal holds = Unit {0}

-- why a command's expression is no program, if it has one
abbrev pub expression_cause : Command → Option Cause
expression_cause (Eval w in_place) = cause_in (program_in (string_bytes w.expr))
expression_cause _ = None

-- the output of a command by its effect; of one that prints what it writes, a diff of what its file held and what it holds
abbrev pub output_by : Bool → Option (List ℕ) → Effect → Output
output_by true (Some old) (writes_both new started s) = diff old new
output_by _ held x = printed_by x

-- the bytes are those that an edit in place prints by what a file and a journal hold
abbrev pub ListsUpdate : EvalAsked → Option (List ℕ) → Option (List ℕ) → List ℕ → Type 0
ListsUpdate asked file journal printed = IsOutput asked.file (output_by asked.options.diff file (update_asked asked file journal)) printed

-- the bytes are those that `history`, or an edit in place with `--diff`, prints by what a file and a journal hold; of other commands nothing is said
abbrev pub IsListing : Command → Option (List ℕ) → Option (List ℕ) → List ℕ → Type 0
IsListing (Eval w true) file journal printed = string_bytes w.file ≢ string_bytes w.journal → ListsUpdate (asked_in w) file journal printed
IsListing (Lists f j diffs) file journal printed = IsOutput (string_bytes f) (printed_by (from_pair file journal (listing_effect diffs))) printed
IsListing _ file journal printed = Unit {0}
