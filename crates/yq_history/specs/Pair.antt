-- A file and its journal in a store (own).
use Rattle.std.specs.Prelude.{◌≡◌, ◌≢◌, ◌⊎◌, ℕ, List, Option, Some, None, Result, Ok, Err, MatchBool, IsTrue, Vec}
use Rattle.std.{specs.FinMap.{get, insert}, specs.declared.alloc.Global.Global}
use Rattle.yq_journal.{specs.Good.{Good, PairHolds, AtRest, journal_beside}, specs.History.History, specs.Json.{journal_in, journal_text}}
use Rattle.yq_journal.specs.State.{State}
use Rattle.yq_history.{specs.Causes.{Cause, IsFor}, specs.declared.opened.Pair.Pair}
use Rattle.yq_fault.{specs.declared.fault.Fault.Fault, specs.declared.fault.Fault.TheVariants.NotThere, specs.Faults.is_outer_fault}
use Rattle.yq_store.specs.FileMap.{FileMap}

-- a file and its journal have two names
abbrev pub NamesDiffer : Pair → Type 0
NamesDiffer pair = pair.file.now ≢ pair.journal.now

-- a file and its journal are good for a history
abbrev pub GoodIn : FileMap → List ℕ → List ℕ → Option History → Type 0
GoodIn content file journal h = Good (get content file) (get content journal) h

-- and for one that is there
abbrev pub PairIsThere : FileMap → List ℕ → List ℕ → History → Type 0
PairIsThere content file journal h = PairHolds (get content file) (get content journal) h

-- what a name holds is the journal's text, which reads as that journal
pub record IsJournal (held : Option (List ℕ)) (s : State) : Type 0 where
  pub text : held ≡ Some (journal_text s)
  pub reads : journal_beside held ≡ Some s

-- the text of a journal was written to a name
pub record Writes (old new : FileMap) (journal : List ℕ) (s : State) : Type 0 where
  pub reads : journal_in (journal_text s) ≡ Some s
  pub written : new ≡ insert old journal (journal_text s)

-- the file is this text, next to which this journal is at rest, and the pair is good for the history
pub record PairAtRest (content : FileMap) (file journal : List ℕ) (s : State) (t : List ℕ) (h : History) : Type 0 where
  pub file_is : get content file ≡ Some t
  pub at_rest : AtRest s t h
  pub is_located : PairIsThere content file journal h

-- a text and its journal, read and settled: an error only where there is no file, or from outside
abbrev pub Opens : FileMap → List ℕ → List ℕ → Option History → Result (Vec ℕ Global × State) Fault → Type 0
Opens content file journal None (Ok p) = ⊥
Opens content file journal None (Err e) = (e ≡ NotThere) ⊎ IsTrue (is_outer_fault e)
Opens content file journal (Some h) (Ok p) = PairAtRest content file journal p.1 p.0.items h
Opens content file journal (Some h) (Err e) = IsTrue (is_outer_fault e)

-- a pair after an attempt at going from one history to another: it is good for the second; or it is refused for the cause and good for the first;
-- or, where a call of the store failed or memory was refused, it is good for either
abbrev pub Arrives : FileMap → List ℕ → List ℕ → Option Cause → Option History → Option History → {T : Type 0} → Result T Fault → Type 0
Arrives content file journal cause h k (Ok v) = (cause ≡ None) × GoodIn content file journal k
Arrives content file journal cause h k (Err e) =
    MatchBool (is_outer_fault e) (GoodIn content file journal h ⊎ GoodIn content file journal k) (IsFor cause e × GoodIn content file journal h)

-- a name is neither a file's nor its journal's
abbrev pub Differs : List ℕ → List ℕ → List ℕ → Type 0
Differs q file journal = (q ≢ file) × (q ≢ journal)

-- the same, of a pair
abbrev pub IsOther : Pair → List ℕ → Type 0
IsOther pair q = Differs q pair.file.now pair.journal.now
