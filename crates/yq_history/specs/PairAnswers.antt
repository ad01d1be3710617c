-- What calls on a file and its journal answer, where the store keeps what is put into it (own).
use Rattle.std.specs.Prelude.{◌≡◌, ◌⊎◌, ℕ, Bool, List, Option, Some, None, false, IfErr, IfOk, IsTrue, OnErr, OnOk, Result, Vec}
use Rattle.std.{specs.Prelude.string_bytes, specs.FinMap.get, specs.declared.alloc.Global.Global}
use Rattle.yq_journal.{specs.Good.journal_beside, specs.History.History, specs.State.State}
use Rattle.yq_journal.specs.declared.fault.JournalFault.TheVariants.{BadJournal}
use Rattle.yq_store.{specs.Calls.Call, specs.FileMap.FileMap, specs.declared.store.Store.Ghosts}
use Rattle.yq_history.{specs.declared.opened.Pair.Pair, specs.Actions.Action, specs.Calls.{CallsOnPair, IsOpened, ReadsPair}}
use Rattle.yq_history.{specs.Causes.named, specs.Effects.{Effect, Works, from_names, listing_effect, printed_by, refuses}}
use Rattle.yq_history.{specs.Leaves.{ArrivesBy, HoldsBytes}, specs.Steps.listing_cause}
use Rattle.yq_history.{specs.Output.{IsOutput, Shows, listing_output, showing}, specs.Pair.{NamesDiffer, Arrives, GoodIn, Opens, Writes}}
use Rattle.yq_history.specs.Report.{report_by}
use Rattle.yq_fault.{specs.declared.fault.Fault.Fault, specs.Faults.is_outer_fault}
use Rattle.yq_history.specs.declared.report.Report as declared
use Rattle.yq_fault.specs.declared.fault.Fault.TheVariants as fault

-- ---- reading

-- an error from inside is that what a name holds is no journal
abbrev pub BadOnlyIfNone : FileMap → List ℕ → {T : Type 0} → Result T Fault → Type 0
BadOnlyIfNone content name r = IfErr r (λ e. ((e ≡ fault.Journal BadJournal) × (journal_beside (get content name) ≡ None)) ⊎ IsTrue (is_outer_fault e))

-- the journal that was read is the one of these bytes or of their lack, and no other call was made
abbrev pub IsReadFrom : {S E : Type 0} → Result State E → Option (List ℕ) → S → S → Type 0
IsReadFrom r beside s t = (t ≡ s) × IfOk r (λ j. journal_beside beside ≡ Some j)

-- what goes on from what a store holds by the names of a pair
abbrev pub from_held : FileMap → Pair → (List ℕ → State → Effect) → Effect
from_held content pair go = from_names content pair.file.now pair.journal.now go

-- what was opened is what goes on from the bytes of the file and of its journal
abbrev pub FindsPair : FileMap → Pair → {E : Type 0} → Result (Vec ℕ Global × State) E → Type 0
FindsPair content pair r =
    IfOk r (λ p. (go : List ℕ → State → Effect) → from_held content pair go ≡ go p.0.items p.1)

-- an error from inside is the refusal of whatever would go on from there
abbrev pub MissesPair : FileMap → Pair → {T : Type 0} → Result T Fault → Type 0
MissesPair content pair r =
    IfErr r (λ e. is_outer_fault e ≡ false → (go : List ℕ → State → Effect) → from_held content pair go ≡ refuses (named e))

-- the text that was opened is the file's
abbrev pub OpensText : FileMap → Pair → {E : Type 0} → Result (Vec ℕ Global × State) E → Type 0
OpensText content pair r = IfOk r (λ p. HoldsBytes content pair.file.now p.0.items)

-- the file and its journal were read by these calls
abbrev pub OpensBy : {S : Type 0} → (S → Call → S → Type 0) → Result (Vec ℕ Global × State) Fault → Pair → S → S → Type 0
OpensBy leads r pair s t = ReadsPair leads r pair.file.now pair.journal.now (IsOpened r) s t

-- ---- writing

-- by a store before and after a call
module _ {S : Type 0} (d : Ghosts S) (old new : S) where
  -- for each history for which the pair is good it is opened
  abbrev pub OpensPair : Pair → Result (Vec ℕ Global × State) Fault → Type 0
  OpensPair pair r =
      IsTrue d.keeps → (h : Option History) → GoodIn (d.content old) pair.file.now pair.journal.now h →
      Opens (d.content new) pair.file.now pair.journal.now h r

  -- a success writes a journal under a name
  abbrev pub WritesState : List ℕ → State → {T E : Type 0} → Result T E → Type 0
  WritesState name s r = IsTrue d.keeps → OnOk r (Writes (d.content old) (d.content new) name s)

  -- an error leaves all names as they were, or has written the journal
  abbrev pub MayWriteState : List ℕ → State → {T E : Type 0} → Result T E → Type 0
  MayWriteState name s r = IsTrue d.keeps → OnErr r ((d.content new ≡ d.content old) ⊎ Writes (d.content old) (d.content new) name s)

  module _ (pair : Pair) where
    -- an action arrives at the next history, or is refused for its cause
    abbrev pub ActsOnPair : Action → {T : Type 0} → Result T Fault → Type 0
    ActsOnPair a r =
        IsTrue d.keeps → NamesDiffer pair → ArrivesBy a.cause a.next pair.file.now pair.journal.now (d.content old) (d.content new) r

    -- an effect on what both names hold came about
    abbrev pub WorksHeld : (List ℕ → State → Effect) → {T : Type 0} → Result T Fault → Type 0
    WorksHeld go r = Works (from_held (d.content old) pair go) pair.file.now pair.journal.now (d.content old) (d.content new) r

    -- that of an action
    abbrev pub WorksOnPair : Action → {T : Type 0} → Result T Fault → Type 0
    WorksOnPair a r = IsTrue d.keeps → NamesDiffer pair → WorksHeld a.effect r

    -- a listing leaves every history for which the pair is good, or is refused for its cause
    abbrev pub ArrivesListed : {T : Type 0} → Result T Fault → Type 0
    ArrivesListed r =
        IsTrue d.keeps → (h : Option History) → GoodIn (d.content old) pair.file.now pair.journal.now h →
        Arrives (d.content new) pair.file.now pair.journal.now (listing_cause h) h h r

    -- the effect of one came about
    abbrev pub ListsPair : Bool → {T : Type 0} → Result T Fault → Type 0
    ListsPair diffs r = IsTrue d.keeps → WorksHeld (listing_effect diffs) r

module _ {S : Type 0} (d : Ghosts S) (old : S) (pair : Pair) where
  -- what a listing prints is what its effect on the bytes of both names says
  abbrev pub Lists : Bool → declared.Report → {T E : Type 0} → Result T E → Type 0
  Lists diffs report r =
      IsTrue d.keeps →
      OnOk r (IsOutput pair.file.now (printed_by (from_held (d.content old) pair (listing_effect diffs))) (string_bytes report.text))

  -- it is the history's, for each history for which the pair is good
  abbrev pub Prints : Bool → declared.Report → {T E : Type 0} → Result T E → Type 0
  Prints diffs report r =
      IsTrue d.keeps → (h : Option History) → GoodIn (d.content old) pair.file.now pair.journal.now h →
      OnOk r (Shows pair.file.now (showing (listing_output diffs h)) (report_by report))

-- an action on a pair is done by these calls
abbrev pub CallsAction : {S T : Type 0} → (S → Call → S → Type 0) → Result T Fault → Pair → Action → S → S → Type 0
CallsAction leads r pair a s t = CallsOnPair leads r pair.file.now pair.journal.now a.effect s t

-- a listing is done by these calls
abbrev pub CallsListing : {S T : Type 0} → (S → Call → S → Type 0) → Result T Fault → Pair → Bool → S → S → Type 0
CallsListing leads r pair diffs s t = CallsOnPair leads r pair.file.now pair.journal.now (listing_effect diffs) s t
