-- When a move or a squash is refused, and with which fault first.
use Rattle.std.specs.Prelude.{◌≡◌, ◌≢◌, ◌⊎◌, ◌==◌, ℕ, ◌≤◌, ◌&&◌, List, length, nat_le, if◌then◌else◌, Option, Some, None, is_some, IfErr}
use Rattle.std.{specs.Prelude.{IsNone, Result}, specs.Option.{ForSome, option_or}}
use Rattle.yq_journal.specs.declared.fault.JournalFault.{JournalFault}
use Rattle.yq_journal.specs.declared.fault.JournalFault.TheVariants.{NothingToUndo, NothingToRedo, DoesNotStand, BadJournal, Unsettled}
use Rattle.yq_journal.{specs.declared.fault.JournalFault.TheVariants.{JournalFull, BadCount}, specs.declared.moves.Move.Move}
use Rattle.yq_journal.{specs.declared.moves.Move.TheVariants.{Edit, Undo, Redo}, specs.Record.{Record, meet}}
use Rattle.yq_journal.specs.State.{State, moved_text, last_done}
use Rattle.yq_failure.specs.declared.failure.Failure.{Failure}
use Rattle.yq_failure.specs.declared.failure.Failure.TheVariants as error

-- why a call failed (own)
abbrev pub JournalError : Type 0
JournalError = Failure JournalFault

-- an error names the fault; lack of memory says nothing (own)
abbrev pub ErrorIs : JournalError → Option JournalFault → Type 0
ErrorIs error.Memory fault = Unit {0}
ErrorIs (error.Fault f) fault = fault ≡ Some f

-- an error names the fault; lack of memory is reported only where there is none (own)
abbrev pub Reports : JournalError → Option JournalFault → Type 0
Reports error.Memory fault = fault ≡ None
Reports (error.Fault f) fault = fault ≡ Some f

-- lack of memory is reported only where this holds (own)
abbrev pub MemoryOnlyIf : {T : Type 0} → Result T JournalError → Type 0 → Type 0
MemoryOnlyIf r P = IfErr r (λ e. e ≡ error.Memory → P)

-- an error is lack of memory, or that a journal is next to another text, which is reported only where this holds (own)
abbrev pub UnsettledOnlyIf : {T : Type 0} → Result T JournalError → Type 0 → Type 0
UnsettledOnlyIf r P = IfErr r (λ e. (e ≡ error.Memory) ⊎ ((e ≡ error.Fault Unsettled) × P))

-- how many records a journal may hold (own)
abbrev pub most_records : ℕ
most_records = 4096

-- an edit needs room, an undo and a redo a record to move over (own)
abbrev pub no_way : List Record → ℕ → Move → Option JournalFault
no_way records at (Edit r) = if nat_le most_records at then Some JournalFull else None
no_way records at Undo = if at == 0 then Some NothingToUndo else None
no_way records at Redo = if nat_le (length records) at then Some NothingToRedo else None

-- a move has room, or a record to move over (own)
abbrev pub HasWay : List Record → ℕ → Move → Type 0
HasWay records at step = no_way records at step ≡ None

-- no move is open, and this one has room, or a record to move over (own)
abbrev pub MayBegin : State → Move → Type 0
MayBegin s step = IsNone s.pending × HasWay s.records s.at step

-- the fault of a move that leads nowhere (own)
abbrev pub if_moves : Option (List ℕ) → Option JournalFault
if_moves None = Some DoesNotStand
if_moves (Some t) = None

-- the fault of bytes that are no journal (own)
abbrev pub if_journal : Option State → Option JournalFault
if_journal None = Some BadJournal
if_journal (Some s) = None

-- the fault of a move over records that leads nowhere from a text (own)
abbrev pub lead_fault : List Record → ℕ → Move → List ℕ → Option JournalFault
lead_fault records at step t = if_moves (moved_text records at step t)

-- the first fault of a move on a text, where no move is open (own)
abbrev pub way_fault : List Record → ℕ → Move → List ℕ → Option JournalFault
way_fault records at step t = option_or (no_way records at step) (lead_fault records at step t)

-- the same, of the records of a journal at its cursor (own)
abbrev pub fault_at_rest : State → Move → List ℕ → Option JournalFault
fault_at_rest s step t = way_fault s.records s.at step t

-- the first fault of a move on a text (own)
abbrev pub move_fault : State → Move → List ℕ → Option JournalFault
move_fault s step t = if is_some s.pending then Some Unsettled else fault_at_rest s step t

-- the first fault of a record that is pushed (own)
abbrev pub push_fault : State → Record → Option JournalFault
push_fault s r = if is_some s.pending then Some Unsettled else no_way s.records s.at (Edit r)

-- the fault of joining the last n records up to the cursor: there are so many, at least one, and each ends with the length with which the next one begins (own)
abbrev pub count_fault : List Record → ℕ → ℕ → Option JournalFault
count_fault records at n = if nat_le 1 n && nat_le n at && meet (last_done records at n) then None else Some BadCount

-- the first fault of a squash of the last n done records (own)
abbrev pub squash_fault : State → ℕ → Option JournalFault
squash_fault s n = if is_some s.pending then Some Unsettled else count_fault s.records s.at n

-- an open move applies to its text and changes it (own)
pub record CanMove (records : List Record) (at : ℕ) (step : Move) (from : List ℕ) : Type 0 where
  pub is_located : way_fault records at step from ≡ None
  pub changes : moved_text records at step from ≢ Some from

-- what holds of every journal (own)
pub record IsSound (s : State) : Type 0 where
  pub within : s.at ≤ length s.records
  pub limit : length s.records ≤ most_records
  pub open_move : ForSome s.pending (λ p. CanMove s.records s.at p.step p.from)
