-- What each write of a move leaves, and how a move ends.
use Rattle.std.proofs.Common.{rules, ◌≡◌, ◌≢◌, ◌⊎◌, ℕ, true, false, List, Option, Some, None, Result, Err, OnOk, OnErr, IfErr, IsTrue}
use Rattle.std.{proofs.Common.{IsNone, option_map, sym, ap, ◌∙◌, subst}, specs.FinMap.{get, insert}, proofs.lemmas.Option.same_Some}
use Rattle.yq_journal.{specs.Refusals.{JournalError, ErrorIs, no_way, way_fault}, specs.declared.fault.JournalFault.JournalFault}
use Rattle.yq_journal.{specs.declared.moves.Move.Move, specs.Good.{AtRest, Describes, after_move, journal_beside, step_fault}}
use Rattle.yq_journal.{specs.Json.journal_text, specs.Record.Record, specs.History.History}
use Rattle.yq_journal.specs.State.{State, journal_after, moved_text, with_move, settled_beside}
use Rattle.yq_journal.proofs.GoodLaws.{describes, open_before, open_after, settled_rests, undo_fault, redo_fault, moved_closed}
use Rattle.yq_journal.proofs.HistoryLaws.{move_moves}
use Rattle.yq_history.{specs.Causes.{Cause, IsFor}, specs.Effects.IsCutShort}
use Rattle.yq_history.{specs.Pair.{Arrives, GoodIn, IsJournal, PairAtRest, PairIsThere, Writes}, specs.Steps.{move_cause, move_next}}
use Rattle.yq_history.{specs.Directions.walk_move, specs.declared.direction.Direction.Direction}
use Rattle.yq_fault.{specs.declared.fault.Fault.Fault, specs.Faults.{is_outer_fault, of_journal}}
use Rattle.yq_store.specs.FileMap.{FileMap, get_written, get_other}
use Rattle.yq_fault.specs.declared.fault.Fault.TheVariants as faults

pub none_of : {A : Type 0} (o : Option A) → IsNone o → o ≡ None
none_of o h = search rules

-- what was written is the journal's text, which is read back
pub journal_written : (c e : FileMap) (j : List ℕ) (s : State) → Writes c e j s → IsJournal (get e j) s
journal_written c e j s w =
    let there : get e j ≡ Some (journal_text s) = ap (λ m. get m j) w.written ∙ get_written c j (journal_text s) in
    record { text = there; reads = ap journal_beside there ∙ w.reads }

module _ (f j : List ℕ) (apart : f ≢ j) where
  -- a journal written next to a text
  pub wrote_journal : (c e : FileMap) (t : List ℕ) (s : State) (h : History) → get c f ≡ Some t → Writes c e j s → Describes s t h → PairIsThere e f j h
  wrote_journal c e t s h is w k = record {
    text = t;
    state = s;
    file_is = ap (λ m. get m f) w.written ∙ get_other c j (journal_text s) f apart ∙ is;
    journal_is = ap (λ m. journal_beside (get m j)) w.written ∙ ap journal_beside (get_written c j (journal_text s)) ∙ w.reads;
    describes = k;
  }

  -- and then a text next to it
  wrote_text : (c e g : FileMap) (u : List ℕ) (s : State) (h : History) → Writes c e j s → g ≡ insert e f u → Describes s u h → PairIsThere g f j h
  wrote_text c e g u s h w is k = record {
    text = u;
    state = s;
    file_is = ap (λ m. get m f) is ∙ get_written e f u;
    journal_is =
        ap (λ m. journal_beside (get m j)) is
        ∙ ap journal_beside (get_other e f u j (λ x. apart (sym x)))
        ∙ ap (λ m. journal_beside (get m j)) w.written
        ∙ ap journal_beside (get_written c j (journal_text s))
        ∙ w.reads;
    describes = k;
  }

  module _ (c e : FileMap) (s : State) (t u : List ℕ) (h : History) (step : Move) (k : PairAtRest c f j s t h) (m : moved_text s.records s.at step t ≡ Some u) where
    -- a move that leaves the text equal: the settled journal
    pub turned : (z : State) → u ≡ t → z ≡ journal_after s step → Writes c e j z → PairIsThere e f j (after_move h step u)
    turned z same is w = wrote_journal c e u (journal_after s step) (after_move h step u) (subst (λ x. get c f ≡ Some x) (sym same) k.file_is) (subst (Writes c e j) is w)
        (describes (journal_after s step) u (after_move h step u) (moved_closed s step) (move_moves s h t u step k.at_rest m))

    -- the first write: the journal with the move open
    pub first_write : (z : State) → u ≢ t → z ≡ with_move s step t → Writes c e j z → PairIsThere e f j h
    first_write z changes is w = wrote_journal c e t (with_move s step t) h k.file_is (subst (Writes c e j) is w) (open_before s h t u step k.at_rest m changes)

    -- the second: the file
    pub second_write : (z : State) (g : FileMap) → u ≢ t → z ≡ with_move s step t → Writes c e j z → g ≡ insert e f u → PairIsThere g f j (after_move h step u)
    second_write z g changes is w put = search (rules, wrote_text, open_after)

    -- the third: the journal settled
    pub third_write : (y z : State) (g l : FileMap) → u ≢ t → y ≡ with_move s step t → g ≡ insert e f u → settled_beside y u ≡ Some z → Writes g l j z → PairIsThere l f j (after_move h step u)
    third_write y z g l changes is put settles w =
        let rests = settled_rests (with_move s step t) z u (after_move h step u) (open_after s h t u step k.at_rest m changes) (sym (ap (λ x. settled_beside x u) is) ∙ settles) in
        wrote_journal g l u z (after_move h step u) (ap (λ x. get x f) put ∙ get_written e f u) w (describes z u (after_move h step u) rests.1 rests.0)

pub on_err : {T E P : Type 0} (r : Result T E) → P → OnErr r P
on_err r p = search rules

pub either : {A B C : Type 0} → A ⊎ B → (A → C) → (B → C) → C
either a f h = search rules

module _ (c : FileMap) (f j : List ℕ) (cause : Option Cause) (h k : Option History) where
  -- cut short by the store or by want of memory
  pub cut : {T : Type 0} (r : Result T Fault) (e : Fault) → r ≡ Err e → is_outer_fault e ≡ true → GoodIn c f j h ⊎ GoodIn c f j k → Arrives c f j cause h k r
  cut r e is out goods = search rules

  -- refused
  pub is_refused : {T : Type 0} (r : Result T Fault) (e : Fault) → r ≡ Err e → is_outer_fault e ≡ false → IsFor cause e → GoodIn c f j h → Arrives c f j cause h k r
  is_refused r e is out reports good = search rules

  -- carried out, or cut short
  pub ends : {T : Type 0} (r : Result T Fault) → cause ≡ None → OnOk r (GoodIn c f j k) → OnErr r (GoodIn c f j h ⊎ GoodIn c f j k) → IfErr r (λ e. IsTrue (is_outer_fault e)) → Arrives c f j cause h k r
  ends r h1 ok err out = search rules

pub same_content : (c e : FileMap) (f j : List ℕ) (h : History) → e ≡ c → PairIsThere c f j h → PairIsThere e f j h
same_content c e f j h is k = subst (λ m. PairIsThere m f j h) (sym is) k

-- the journal refuses it where the history does
pub move_fault_of : (s : State) (t : List ℕ) (h : History) (w : Direction) → AtRest s t h → way_fault s.records s.at (walk_move w) t ≡ step_fault h (walk_move w)
move_fault_of s t h w k = search (rules, undo_fault, redo_fault)

pub fault_outside : {T : Type 0} (r : Result T Fault) (o : Option JournalFault) → o ≡ None → IfErr r (λ e. is_outer_fault e ≡ false → option_map faults.Journal o ≡ Some e) → IfErr r (λ e. IsTrue (is_outer_fault e))
fault_outside r o h2 h = search rules

-- where a journal at rest gives the text, the way is free
pub no_way_free : (records : List Record) (at : ℕ) (step : Move) (t : List ℕ) → way_fault records at step t ≡ None → no_way records at step ≡ None
no_way_free records at step t free = search rules

-- what is known after a move of a pair from one text to another, by its contract: it was carried out from any history, or cut short; or the journal had no way for it
pub record IsMove {T : Type 0} (c d : FileMap) (f j : List ℕ) (s : State) (t u : List ℕ) (step : Move) (r : Result T Fault) : Type 0 where
  pub leads : moved_text s.records s.at step t ≡ Some u
  pub ok : (h : History) → PairAtRest c f j s t h → OnOk r (PairIsThere d f j (after_move h step u))
  pub err : (h : History) → PairAtRest c f j s t h → OnErr r (PairIsThere d f j h ⊎ PairIsThere d f j (after_move h step u))
  pub text : OnOk r (get d f ≡ Some u)
  pub beside : OnOk r (IsJournal (get d j) (journal_after s step))
  pub cut : OnErr r (IsCutShort u (with_move s step t) (journal_after s step) f j c d)
  pub fault : IfErr r (λ e. is_outer_fault e ≡ false → option_map faults.Journal (no_way s.records s.at step) ≡ Some e)
  pub refused : (y : JournalFault) → no_way s.records s.at step ≡ Some y → r ≡ Err (faults.Journal y)
  pub barred : no_way s.records s.at step ≢ None → d ≡ c

-- an undo or a redo of a pair
module _ (f j : List ℕ) (h : History) (w : Direction) where
  -- the pair after it
  abbrev pub MoveDone : {T : Type 0} → FileMap → Result T Fault → Type 0
  MoveDone d r = Arrives d f j (move_cause (walk_move w) (Some h)) (Some h) (move_next (walk_move w) (Some h)) r

  -- it was carried out, or cut short
  move_ends : {T : Type 0} (d : FileMap) (r : Result T Fault) (u : List ℕ) → step_fault h (walk_move w) ≡ None →
      OnOk r (PairIsThere d f j (after_move h (walk_move w) u)) →
      OnErr r (PairIsThere d f j h ⊎ PairIsThere d f j (after_move h (walk_move w) u)) →
      IfErr r (λ e. IsTrue (is_outer_fault e)) → MoveDone d r
  move_ends d r u free ok err out = search rules

  -- the journal refused it
  move_fails : {T : Type 0} (c : FileMap) (r : Result T Fault) (x : JournalError) → r ≡ Err (of_journal x) → ErrorIs x (step_fault h (walk_move w)) → PairIsThere c f j h → MoveDone c r
  move_fails c r x is names good = search rules

  -- from a pair at rest, by the journal's answer
  module _ (c d : FileMap) (s : State) (t : List ℕ) (step : Move) (is : step ≡ walk_move w) (k : PairAtRest c f j s t h) where
    free_move : way_fault s.records s.at step t ≡ None → step_fault h (walk_move w) ≡ None
    free_move free = sym (move_fault_of s t h w k.at_rest) ∙ ap (λ x. way_fault s.records s.at x t) (sym is) ∙ free

    pub refused_move : {T : Type 0} (r : Result T Fault) (e : Fault) (x : JournalError) → r ≡ Err e → e ≡ of_journal x → ErrorIs x (way_fault s.records s.at step t) → MoveDone c r
    refused_move r e x err of names = search (rules, move_fails, move_fault_of)

    pub equal_move : {T : Type 0} (r : Result T Fault) → way_fault s.records s.at step t ≡ None →
        OnOk r (PairIsThere d f j (after_move h (walk_move w) t)) →
        OnErr r (PairIsThere d f j h ⊎ PairIsThere d f j (after_move h (walk_move w) t)) →
        IfErr r (λ e. IsTrue (is_outer_fault e)) → MoveDone d r
    equal_move r free ok err out = move_ends d r t (free_move free) ok err out

    pub other_move : {T : Type 0} (r : Result T Fault) (u : List ℕ) (again : Move) → again ≡ walk_move w → way_fault s.records s.at step t ≡ None → IsMove c d f j s t u again r → MoveDone d r
    other_move r u again same free m = search (rules, move_ends, free_move, fault_outside, no_way_free, m.ok, m.err)

-- an open move is done next to the text to which it leads
settles_moved : (s : State) (t u : List ℕ) (step : Move) → moved_text s.records s.at step t ≡ Some u → u ≢ t → settled_beside (with_move s step t) u ≡ Some (journal_after s step)
settles_moved s t u step m d = search rules

-- the journal with the move open, settled next to the new text
pub settled_is : (s : State) (t u : List ℕ) (step : Move) (y z : State) →
    moved_text s.records s.at step t ≡ Some u → u ≢ t → y ≡ with_move s step t → settled_beside y u ≡ Some z → z ≡ journal_after s step
settled_is s t u step y z m changes is settles = same_Some z (journal_after s step) (sym settles ∙ ap (λ x. settled_beside x u) is ∙ settles_moved s t u step m changes)

-- the journal that a move leaves
pub moved_journal : (j : List ℕ) (s : State) (t u : List ℕ) (step : Move) (y z : State) (g l : FileMap) →
    moved_text s.records s.at step t ≡ Some u → u ≢ t → y ≡ with_move s step t → settled_beside y u ≡ Some z → Writes g l j z → IsJournal (get l j) (journal_after s step)
moved_journal j s t u step y z g l m changes is settles w = search (rules, settled_is, journal_written)
