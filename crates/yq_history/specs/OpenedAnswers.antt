-- What calls answer that go on from a file and its journal, read and settled (own).
use Rattle.std.{specs.Prelude.{◌≡◌, ◌≢◌, ◌⊎◌, ℕ, List, Option, Some, None, IsTrue, OnErr, OnOk, Result}, specs.FinMap.get}
use Rattle.yq_journal.{specs.declared.fault.JournalFault.JournalFault, specs.declared.moves.Move.Move, specs.Good.after_move}
use Rattle.yq_journal.{specs.History.History, specs.Refusals.no_way, specs.State.{State, journal_after}}
use Rattle.yq_store.{specs.Calls.Call, specs.FileMap.FileMap, specs.declared.store.Store.Ghosts}
use Rattle.yq_history.{specs.declared.opened.OpenPair.OpenPair, specs.declared.opened.Pair.Pair, specs.Actions.Action, specs.Calls.Makes}
use Rattle.yq_history.{specs.Effects.{Effect, IsMoveCutShort, Works}, specs.Leaves.HoldsBytes}
use Rattle.yq_history.specs.Pair.{Arrives, NamesDiffer, IsJournal, PairAtRest, PairIsThere}
use Rattle.yq_fault.specs.declared.fault.Fault.{Fault}

-- the pair that was opened is what a store's names hold, and good for a history
abbrev pub IsHeld : FileMap → OpenPair → History → Type 0
IsHeld content p h = PairAtRest content p.pair.file.now p.pair.journal.now p.state p.text.items h

-- why its journal has no way for a move
abbrev pub way_barred : OpenPair → Move → Option JournalFault
way_barred p step = no_way p.state.records p.state.at step

-- the calls by which an effect on it comes about
abbrev pub MakesFrom : {S T : Type 0} → (S → Call → S → Type 0) → Result T Fault → OpenPair → (List ℕ → State → Effect) → S → S → Type 0
MakesFrom leads r p go s t = Makes leads r p.pair.file.now p.pair.journal.now p.text.items (go p.text.items p.state) s t

-- by a store after a call
module _ {S : Type 0} (d : Ghosts S) (new : S) where
  -- a success leaves this text in the file, where its journal has another name
  abbrev pub HoldsText : Pair → List ℕ → {T E : Type 0} → Result T E → Type 0
  HoldsText pair text r = IsTrue d.keeps → NamesDiffer pair → OnOk r (HoldsBytes (d.content new) pair.file.now text)

  -- a success leaves the journal after a move
  abbrev pub HasMoved : OpenPair → Move → {T E : Type 0} → Result T E → Type 0
  HasMoved p step r = IsTrue d.keeps → OnOk r (IsJournal (get (d.content new) p.pair.journal.now) (journal_after p.state step))

-- by a store before and after a call
module _ {S : Type 0} (d : Ghosts S) (old new : S) (p : OpenPair) where
  -- where a move has no room, or no record to move over, all names hold what they held
  abbrev pub StaysIfBarred : Move → Type 0
  StaysIfBarred step = IsTrue d.keeps → way_barred p step ≢ None → d.content new ≡ d.content old

  -- it arrives at the history after an action, or is refused for its cause
  abbrev pub ActsFrom : Action → {T : Type 0} → Result T Fault → Type 0
  ActsFrom a r =
      IsTrue d.keeps → NamesDiffer p.pair → (h : History) → IsHeld (d.content old) p h →
      Arrives (d.content new) p.pair.file.now p.pair.journal.now (a.cause (Some h)) (Some h) (a.next (Some h)) r

  -- the action's effect came about
  abbrev pub WorksFrom : Action → {T : Type 0} → Result T Fault → Type 0
  WorksFrom a r =
      IsTrue d.keeps → NamesDiffer p.pair → HoldsBytes (d.content old) p.pair.file.now p.text.items →
      Works (a.effect p.text.items p.state) p.pair.file.now p.pair.journal.now (d.content old) (d.content new) r

  -- a success leaves the pair good for the history after a move
  abbrev pub GoodAfter : Move → List ℕ → {T : Type 0} → Result T Fault → Type 0
  GoodAfter step u r =
      IsTrue d.keeps → NamesDiffer p.pair → (h : History) → IsHeld (d.content old) p h →
      OnOk r (PairIsThere (d.content new) p.pair.file.now p.pair.journal.now (after_move h step u))

  -- an error leaves it good for the history before the move or for that after it
  abbrev pub GoodAround : Move → List ℕ → {T : Type 0} → Result T Fault → Type 0
  GoodAround step u r =
      IsTrue d.keeps → NamesDiffer p.pair → (h : History) → IsHeld (d.content old) p h →
      OnErr r (PairIsThere (d.content new) p.pair.file.now p.pair.journal.now h
      ⊎ PairIsThere (d.content new) p.pair.file.now p.pair.journal.now (after_move h step u))

  -- an error leaves a move to a text cut short
  abbrev pub CutsShort : Move → List ℕ → {T : Type 0} → Result T Fault → Type 0
  CutsShort step u r =
      IsTrue d.keeps → NamesDiffer p.pair →
      OnErr r (IsMoveCutShort p.state step p.text.items u p.pair.file.now p.pair.journal.now (d.content old) (d.content new))
