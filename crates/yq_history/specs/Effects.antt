-- What is done to a file and its journal, by their bytes as they are, good for a history or not (own).
use Rattle.std.specs.Prelude.{◌≡◌, ◌⊎◌, ◌==◌, ℕ, Bool, List, [], if◌then◌else◌, Option, Some, None, Result, Ok, Err, IsTrue, MatchBool}
use Rattle.std.specs.FinMap.{get}
use Rattle.yq_journal.{specs.declared.fault.JournalFault.JournalFault, specs.declared.moves.Move.Move, specs.Good.journal_beside}
use Rattle.yq_journal.specs.Refusals.{no_way, squash_fault}
use Rattle.yq_journal.specs.State.{State, journal_after, moved_text, with_move, settled_beside, squashed}
use Rattle.yq_journal.specs.declared.fault.JournalFault.TheVariants.{DoesNotStand, BadJournal, Unsettled}
use Rattle.yq_history.{specs.Pair.IsJournal, specs.Output.{Output, bytes, record_output}, specs.Causes.{Cause, IsFor, named}}
use Rattle.yq_fault.{specs.declared.fault.Fault.Fault, specs.Faults.is_outer_fault}
use Rattle.yq_store.specs.FileMap.{FileMap}
use Rattle.yq_fault.specs.declared.fault.Fault.TheVariants as fault

-- what a command does: it is refused; it writes nothing and has this output; or it has none of its own, and leaves this text in the file
-- and the second of these journals next to it, where the first one, in which its move is open, is until the text does
pub data Effect : Type 0 where
  refuses : Cause → Effect
  writes_nothing : Output → Effect
  writes_both : List ℕ → State → State → Effect

-- what goes on from a text and its journal, settled next to it; J5 where it can't be settled
abbrev pub from_settled : Option State → List ℕ → (List ℕ → State → Effect) → Effect
from_settled None t go = refuses (named (fault.Journal Unsettled))
from_settled (Some s) t go = go t s

-- the same, from the journal as it was read; J4 where it is none
abbrev pub from_journal : Option State → List ℕ → (List ℕ → State → Effect) → Effect
from_journal None t go = refuses (named (fault.Journal BadJournal))
from_journal (Some s) t go = from_settled (settled_beside s t) t go

-- the same, from the bytes of the file and of the journal; S1 where the file isn't there
abbrev pub from_pair : Option (List ℕ) → Option (List ℕ) → (List ℕ → State → Effect) → Effect
from_pair None journal go = refuses (named fault.NotThere)
from_pair (Some t) journal go = from_journal (journal_beside journal) t go

-- the same, from what a store holds by the names of both
abbrev pub from_names : FileMap → List ℕ → List ℕ → (List ℕ → State → Effect) → Effect
from_names c file journal go = from_pair (get c file) (get c journal) go

-- what a move does, by the text to which it leads, the journal in which it is open, and that after it; J3 where it leads nowhere
abbrev pub leads_to : Option (List ℕ) → State → State → Effect
leads_to None started s = refuses (named (fault.Journal DoesNotStand))
leads_to (Some u) started s = writes_both u started s

-- the same, where there may be no way for it: J1, J2 or J6 come first
abbrev pub goes_to : Option JournalFault → Option (List ℕ) → State → State → Effect
goes_to (Some f) u started s = refuses (named (fault.Journal f))
goes_to None u started s = leads_to u started s

-- what an undo or a redo does to a text and its settled journal
abbrev pub move_effect : Move → List ℕ → State → Effect
move_effect step t s = goes_to (no_way s.records s.at step) (moved_text s.records s.at step t) (with_move s step t) (journal_after s step)

-- what a squash does, by its fault: the file stays, no move is opened, and one edit stays as it is
abbrev pub joins_to : Option JournalFault → ℕ → List ℕ → State → Effect
joins_to (Some f) n t s = refuses (named (fault.Journal f))
joins_to None n t s = if n == 1 then writes_nothing (bytes []) else writes_both t s s

-- what a squash of the last n edits does to a text and its settled journal
abbrev pub squash_effect : ℕ → List ℕ → State → Effect
squash_effect n t s = joins_to (squash_fault s n) n t (squashed s n)

-- what `history` does to a text and its settled journal, with `--diff` or without
abbrev pub listing_effect : Bool → List ℕ → State → Effect
listing_effect diffs t s = writes_nothing (record_output diffs t s)

-- the output where the effect came about
abbrev pub printed_by : Effect → Output
printed_by (writes_nothing o) = o
printed_by _ = bytes []

-- what a command leaves that was cut short: the file as it was, and the journal so too or with the move open; or the new text in the file,
-- and next to it the journal with the move open, or the one after it
abbrev pub IsCutShort : List ℕ → State → State → List ℕ → List ℕ → FileMap → FileMap → Type 0
IsCutShort u started s file journal old new =
    ((get new file ≡ get old file) × ((get new journal ≡ get old journal) ⊎ IsJournal (get new journal) started))
    ⊎ ((get new file ≡ Some u) × (IsJournal (get new journal) started ⊎ IsJournal (get new journal) s))

-- the same of a move that leads from one text to another, by the journal in which it is opened
abbrev pub IsMoveCutShort : State → Move → List ℕ → List ℕ → List ℕ → List ℕ → FileMap → FileMap → Type 0
IsMoveCutShort s step t u file journal old new = IsCutShort u (with_move s step t) (journal_after s step) file journal old new

-- the effect came about; where a call of the store failed or memory was refused, what writes nothing wrote nothing, and all else was cut short
abbrev pub Works : Effect → List ℕ → List ℕ → FileMap → FileMap → {T : Type 0} → Result T Fault → Type 0
Works (refuses x) file journal old new (Ok v) = ⊥
Works (refuses x) file journal old new (Err e) = MatchBool (is_outer_fault e) (Unit {0}) (IsFor (Some x) e) × (new ≡ old)
Works (writes_nothing o) file journal old new (Ok v) = new ≡ old
Works (writes_nothing o) file journal old new (Err e) = IsTrue (is_outer_fault e) × (new ≡ old)
Works (writes_both u started s) file journal old new (Ok v) = (get new file ≡ Some u) × IsJournal (get new journal) s
Works (writes_both u started s) file journal old new (Err e) = IsTrue (is_outer_fault e) × IsCutShort u started s file journal old new
