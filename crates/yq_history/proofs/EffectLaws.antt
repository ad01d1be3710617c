-- The effects of commands, from the contracts of the calls of which they are made.
use Rattle.std.proofs.Common.{rules, ◌≡◌, ◌⊎◌, ℕ, Bool, true, false, ◌==◌, List, [], Option, Some, None, Result, Ok, Err, OnOk, OnErr}
use Rattle.std.{proofs.Common.{IfErr, IsTrue, if◌then◌else◌, sym, ap, ◌∙◌, subst, refl}, specs.FinMap.get}
use Rattle.yq_journal.{specs.Refusals.{JournalError, ErrorIs, Reports, no_way, way_fault, squash_fault}, specs.declared.moves.Move.Move}
use Rattle.yq_journal.{specs.Good.journal_beside, specs.Record.Record}
use Rattle.yq_journal.specs.State.{State, journal_after, moved_text, with_move, settled_beside, squashed}
use Rattle.yq_history.specs.declared.direction.Direction.{Direction}
use Rattle.yq_history.specs.Effects.{Effect, refuses, writes_nothing, writes_both, from_pair, from_journal, from_settled, goes_to}
use Rattle.yq_history.{specs.Effects.{move_effect, joins_to, squash_effect, IsCutShort, Works}, specs.Output.{Output, bytes}}
use Rattle.yq_history.{specs.Pair.IsJournal, specs.Causes.named, specs.Directions.walk_move, proofs.MoveLaws.IsMove}
use Rattle.yq_fault.{specs.declared.fault.Fault.Fault, specs.Faults.{is_outer_fault, of_journal}}
use Rattle.yq_store.specs.FileMap.{FileMap}

pub on_ok : {T E P : Type 0} (r : Result T E) → P → OnOk r P
on_ok r p = search rules

-- cut short by the store or by want of memory, with nothing written
pub works_outside : (T : Type 0) (x : Effect) (f j : List ℕ) (c : FileMap) (e : Fault) → is_outer_fault e ≡ true → Works x f j c c {T = T} (Err e)
works_outside T x f j c e out = search rules

-- What is known where an effect came about or was cut short.
pub record IsLeft {T : Type 0} (u : List ℕ) (started z : State) (f j : List ℕ) (c d : FileMap) (r : Result T Fault) : Type 0 where
  pub text : OnOk r (get d f ≡ Some u)
  pub journal : OnOk r (IsJournal (get d j) z)
  pub outside : IfErr r (λ e. IsTrue (is_outer_fault e))
  pub cut : OnErr r (IsCutShort u started z f j c d)

-- ---- moves

-- a move that applies leads to its text
pub way_free : (records : List Record) (at : ℕ) (step : Move) (t u : List ℕ) (started z : State) →
    way_fault records at step t ≡ None → moved_text records at step t ≡ Some u → goes_to (no_way records at step) (moved_text records at step t) started z ≡ writes_both u started z
way_free records at step t u started z free is = search rules

-- an undo or a redo that the journal refused
pub move_refused : (f j : List ℕ) (c : FileMap) (s : State) (t : List ℕ) (w : Direction) (step : Move) {T : Type 0} (r : Result T Fault) (e : Fault) (x : JournalError) →
    step ≡ walk_move w → r ≡ Err e → e ≡ of_journal x → ErrorIs x (way_fault s.records s.at step t) → Works (move_effect (walk_move w) t s) f j c c r
move_refused f j c s t w step r e x is err of names = search rules

-- one that leaves the text equal: the journal alone was written
pub move_equal : (f j : List ℕ) (c d : FileMap) (s : State) (t : List ℕ) (step : Move) {T : Type 0} (r : Result T Fault) →
    get c f ≡ Some t → get d f ≡ get c f → move_effect step t s ≡ writes_both t (with_move s step t) (journal_after s step) →
    OnOk r (IsJournal (get d j) (journal_after s step)) → OnErr r ((d ≡ c) ⊎ IsJournal (get d j) (journal_after s step)) → IfErr r (λ e. IsTrue (is_outer_fault e)) → Works (move_effect step t s) f j c d r
move_equal f j c d s t step r there same is journal cut out = search rules

-- a move in three writes
pub works_carried : (f j : List ℕ) (c d : FileMap) (s : State) (t u : List ℕ) (step : Move) {T : Type 0} (r : Result T Fault) → IsMove c d f j s t u step r → Works (move_effect step t s) f j c d r
works_carried f j c d s t u step r m = search rules

-- an undo or a redo in three writes
pub move_other : (f j : List ℕ) (c d : FileMap) (s : State) (t u : List ℕ) (w : Direction) (step : Move) {T : Type 0} (r : Result T Fault) →
    step ≡ walk_move w → IsMove c d f j s t u step r → Works (move_effect (walk_move w) t s) f j c d r
move_other f j c d s t u w step r is m = subst (λ x. Works (move_effect x t s) f j c d r) is (works_carried f j c d s t u step r m)

-- ---- reading a pair

module _ (file beside : Option (List ℕ)) where
  -- what goes on is refused
  abbrev pub Refused : Fault → Type 0
  Refused e = is_outer_fault e ≡ false → (go : List ℕ → State → Effect) → from_pair file beside go ≡ refuses (named e)

  module _ (t : List ℕ) (file_is : file ≡ Some t) where
    module _ (s : State) (journal_is : journal_beside beside ≡ Some s) where
      settling : (go : List ℕ → State → Effect) → from_pair file beside go ≡ from_settled (settled_beside s t) t go
      settling go = ap (λ o. from_pair o beside go) file_is ∙ ap (λ o. from_journal o t go) journal_is

      -- both were read, and settled
      pub settles : (r : State) → settled_beside s t ≡ Some r → (go : List ℕ → State → Effect) → from_pair file beside go ≡ go t r
      settles r is go = settling go ∙ ap (λ o. from_settled o t go) is

-- ---- commands

-- a pair that was not read
pub not_opened : (file journal : Option (List ℕ)) (go : List ℕ → State → Effect) (f j : List ℕ) (c d : FileMap) {T : Type 0} (r : Result T Fault) (e : Fault) →
    r ≡ Err e → d ≡ c → Refused file journal e → Works (from_pair file journal go) f j c d r
not_opened file journal go f j c d r e is same why = search rules

-- one that was, by how it ended
pub from_opened : (file journal : Option (List ℕ)) (go : List ℕ → State → Effect) (f j : List ℕ) (c m d : FileMap) (t : List ℕ) (s : State) {T : Type 0} (r : Result T Fault) →
    m ≡ c → from_pair file journal go ≡ go t s → Works (go t s) f j m d r → Works (from_pair file journal go) f j c d r
from_opened file journal go f j c m d t s r same is works = search rules

-- ---- squashes

module _ (f j : List ℕ) (c : FileMap) (s : State) (t : List ℕ) (n : ℕ) where
  joined_by : (T : Type 0) (x : JournalError) → Reports x (squash_fault s n) → Works (squash_effect n t s) f j c c {T = T} (Err (of_journal x))
  joined_by T x reports = search rules

  -- the journal refused it
  pub squash_not_done : {T : Type 0} (r : Result T Fault) (e : Fault) (x : JournalError) → r ≡ Err e → e ≡ of_journal x → Reports x (squash_fault s n) → Works (squash_effect n t s) f j c c r
  squash_not_done {T = T} r e x is of reports = subst (Works (squash_effect n t s) f j c c) (sym (is ∙ ap Err of)) (joined_by T x reports)

  by_count : (b : Bool) → (n == 1) ≡ b → squash_fault s n ≡ None → squash_effect n t s ≡ (if b then writes_nothing (bytes []) else writes_both t (squashed s n) (squashed s n))
  by_count b is free = ap (λ o. joins_to o n t (squashed s n)) free ∙ ap (λ x. if x then writes_nothing (bytes []) else writes_both t (squashed s n) (squashed s n)) is

  -- of one edit nothing is written
  pub squash_one_works : {T : Type 0} (v : T) → (n == 1) ≡ true → squash_fault s n ≡ None → Works (squash_effect n t s) f j c c {T = T} (Ok v)
  squash_one_works {T = T} v one free = subst (λ x. Works x f j c c {T = T} (Ok v)) (sym (by_count true one free)) refl

  -- of others the journal alone
  pub squash_works : (d : FileMap) {T : Type 0} (r : Result T Fault) → (n == 1) ≡ false → squash_fault s n ≡ None → get c f ≡ Some t → get d f ≡ get c f →
      OnOk r (IsJournal (get d j) (squashed s n)) → OnErr r ((d ≡ c) ⊎ IsJournal (get d j) (squashed s n)) → IfErr r (λ e. IsTrue (is_outer_fault e)) → Works (squash_effect n t s) f j c d r
  squash_works d r some free there same journal cut out = search rules

-- ---- listings

-- memory was refused, and nothing was written
pub listing_cut : (f j : List ℕ) (c : FileMap) (o : Output) {T : Type 0} (r : Result T Fault) (e : Fault) → r ≡ Err e → is_outer_fault e ≡ true → Works (writes_nothing o) f j c c r
listing_cut f j c o {T = T} r e is out = subst (Works (writes_nothing o) f j c c) (sym is) (works_outside T (writes_nothing o) f j c e out)
