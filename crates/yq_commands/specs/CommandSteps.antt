-- What a command does to a history, and why it is refused (own).
use Rattle.std.{specs.Prelude.{ℕ, true, false, if◌then◌else◌, List, nat_le, Option, Some, None, Result, Ok, Err}, specs.Str.bytes_eq}
use Rattle.std.specs.String.{string_bytes}
use Rattle.yq_semantics.specs.Program.{Program}
use Rattle.yq_journal.{specs.History.{History, text_at, after_edit}, specs.Refusals.most_records}
use Rattle.yq_journal.specs.declared.fault.JournalFault.TheVariants.{JournalFull}
use Rattle.yq_args.specs.declared.command.Command.{Command}
use Rattle.yq_args.specs.declared.command.Command.TheVariants.{Eval, Undo, Redo, History as Lists, Squash, Help}
use Rattle.yq_history.{specs.Causes.{Cause, named}, specs.Steps.{move_cause, move_next, squash_cause, squash_next, listing_cause}}
use Rattle.yq_commands.{specs.Editing.{EditOutcome, refused, edited, program_in, program_edits}, specs.Evaluation.evaluated}
use Rattle.yq_commands.specs.CommandFaults.{cause_in}
use Rattle.yq_journal.specs.declared.moves.Move.TheVariants as move
use Rattle.yq_fault.specs.declared.fault.Fault.TheVariants as fault

-- an edit to another text wants room in the journal
abbrev pub room_cause : History → List ℕ → Option Cause
room_cause h text =
    if bytes_eq text (text_at h) then None
    else if nat_le most_records h.at then Some (named (fault.Journal JournalFull)) else None

-- why an edit is refused, by what it gives
abbrev pub edit_cause : History → EditOutcome → Option Cause
edit_cause h (refused x) = Some x
edit_cause h (edited text changes) = room_cause h text

-- the history after it: one to an equal text leaves it
abbrev pub edit_next : History → List ℕ → EditOutcome → History
edit_next h expr (refused x) = h
edit_next h expr (edited text changes) =
    if bytes_eq text (text_at h) then h
    else if nat_le most_records h.at then h else after_edit h expr text

-- why the edit of a file is refused, by what its expression is
abbrev pub update_cause : Result Program Cause → Option History → Option Cause
update_cause (Err x) h = Some x
update_cause (Ok p) None = Some (named fault.NotThere)
update_cause (Ok p) (Some h) = edit_cause h (program_edits p (text_at h))

-- the history after it
abbrev pub update_next : List ℕ → Result Program Cause → Option History → Option History
update_next expr (Err x) h = h
update_next expr (Ok p) None = None
update_next expr (Ok p) (Some h) = Some (edit_next h expr (program_edits p (text_at h)))

-- why a command is refused
abbrev pub cause_of : Command → Option History → Option Cause
cause_of (Eval w true) h = update_cause (program_in (string_bytes w.expr)) h
cause_of (Eval w false) h = cause_in (evaluated w.options (program_in (string_bytes w.expr)) h)
cause_of (Undo file journal) h = move_cause move.Undo h
cause_of (Redo file journal) h = move_cause move.Redo h
cause_of (Lists file journal diffs) h = listing_cause h
cause_of (Squash n file journal) h = squash_cause n h
cause_of Help h = None

-- the history after a command
abbrev pub next_of : Command → Option History → Option History
next_of (Eval w true) h = update_next (string_bytes w.expr) (program_in (string_bytes w.expr)) h
next_of (Undo file journal) h = move_next move.Undo h
next_of (Redo file journal) h = move_next move.Redo h
next_of (Squash n file journal) h = squash_next n h
next_of _ h = h
