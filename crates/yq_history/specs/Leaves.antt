-- What a call on a file and its journal leaves in a store, by what it answers (own).
use Rattle.std.{specs.Prelude.{◌≡◌, ℕ, List, Option, Some, false, IfErr, IsTrue, Result, Err, option_map}, specs.FinMap.get}
use Rattle.yq_journal.{specs.declared.fault.JournalFault.JournalFault, specs.Good.journal_beside, specs.History.History, specs.State.State}
use Rattle.yq_history.{specs.Causes.Cause, specs.Pair.{Arrives, GoodIn}}
use Rattle.yq_fault.{specs.declared.fault.Fault.Fault, specs.Faults.{is_outer_fault, is_output}}
use Rattle.yq_store.{specs.Count.failures_after, specs.FileMap.FileMap, specs.declared.store.Store.Ghosts}
use Rattle.yq_fault.specs.declared.fault.Fault.TheVariants as fault

-- where there is such a fault, the call is refused for it
abbrev pub RefusedFor : Option JournalFault → {T : Type 0} → Result T Fault → Type 0
RefusedFor found r = (f : JournalFault) → found ≡ Some f → r ≡ Err (fault.Journal f)

-- a refusal from inside is for such a fault
abbrev pub RefusedOnlyFor : Option JournalFault → {T : Type 0} → Result T Fault → Type 0
RefusedOnlyFor found r = IfErr r (λ e. is_outer_fault e ≡ false → option_map fault.Journal found ≡ Some e)

-- a name holds these bytes
abbrev pub HoldsBytes : FileMap → List ℕ → List ℕ → Type 0
HoldsBytes content name bytes = get content name ≡ Some bytes

-- what a name holds, or its lack, reads as this journal
abbrev pub HasState : FileMap → List ℕ → State → Type 0
HasState content name s = journal_beside (get content name) ≡ Some s

-- from each history for which a file and its journal are good, a call arrives at the next one, or is refused for its cause
abbrev pub ArrivesBy : (Option History → Option Cause) → (Option History → Option History) →
    List ℕ → List ℕ → FileMap → FileMap → {T : Type 0} → Result T Fault → Type 0
ArrivesBy cause next file journal old new r = (h : Option History) → GoodIn old file journal h → Arrives new file journal (cause h) h (next h) r

-- What a call leaves of what names hold. Of its own names nothing is said where a call of the store failed or memory was refused.
pub record LeavesNames (Others : List ℕ → Type 0) (old new : FileMap) {T : Type 0} (r : Result T Fault) : Type 0 where
  -- a refusal in which no call of the store failed and no memory was refused leaves all
  pub kept : IfErr r (λ e. is_outer_fault e ≡ false → new ≡ old)
  -- the others hold what they held
  pub others : (q : List ℕ) → Others q → get new q ≡ get old q

-- What a call leaves of a store.
pub record LeavesStore {S : Type 0} (d : Ghosts S) (old new : S) {T : Type 0} (r : Result T Fault) : Type 0 where
  -- no output failed
  pub no_output : IfErr r (λ e. is_output e ≡ false)
  -- a failure that it answers was counted
  pub count : d.failures new ≡ failures_after r (d.failures old)

-- What a call leaves that writes no name.
pub record LeavesAll {S : Type 0} (d : Ghosts S) (old new : S) {T : Type 0} (r : Result T Fault) : Type 0 where
  -- what it leaves of the store
  pub store : LeavesStore d old new r
  -- and what the names of one hold that keeps what it was given
  pub same : IsTrue d.keeps → d.content new ≡ d.content old

-- What a call leaves that may write all names but these others.
pub record Leaves {S : Type 0} (d : Ghosts S) (Others : List ℕ → Type 0) (old new : S) {T : Type 0} (r : Result T Fault) : Type 0 where
  -- what it leaves of the store
  pub store : LeavesStore d old new r
  -- and of what the names of one hold that keeps what it was given
  pub names : IsTrue d.keeps → LeavesNames Others (d.content old) (d.content new) r
