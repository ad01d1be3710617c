-- What an open move, and settling it, make of a journal that describes a history.
use Rattle.std.proofs.Common.{◌≡◌, ◌≢◌, ◌⊎◌, inl, inr, ◌==◌, ℕ, suc, ◌-◌, ◌<◌, List, [], ◌∷◌, length, Option, Some, None, true, false}
use Rattle.std.{proofs.Common.{nat_le, refl, sym, ap, ◌∙◌, subst, arith, if◌then◌else◌, rules}, specs.Prelude.slice_get, specs.Str.bytes_eq}
use Rattle.std.{proofs.lemmas.Bool.Decides.nat_tests, proofs.lemmas.Option.same_Some, proofs.lemmas.Slice.Eq.bytes_eq-Decides}
use Rattle.std.specs.Option.{option_or}
use Prim.Native.Nat.{zero}
use Rattle.yq_journal.{specs.declared.fault.JournalFault.JournalFault, specs.declared.moves.Move.Move}
use Rattle.yq_journal.specs.declared.moves.Move.TheVariants.{Edit, Undo, Redo}
use Rattle.yq_journal.specs.Good.{AtRest, Underway, DescribesPending, Describes, Rests, step_fault, after_move}
use Rattle.yq_journal.{specs.History.{History, text_after_edits}, specs.Record.{Record, done}, specs.Refusals.{no_way, if_moves, way_fault}}
use Rattle.yq_journal.specs.State.{State, Pending, moved_text, journal_after, with_move, settled_beside, settled_pending}
use Rattle.yq_journal.{proofs.HistoryLaws.{same_length, leads_at, move_moves}, proofs.RecordLaws.undone_after_done}
use Rattle.yq_journal.specs.declared.fault.JournalFault.TheVariants as fault

pub bytes_same : (t : List ℕ) → bytes_eq t t ≡ true
bytes_same t = (bytes_eq-Decides t t).1 refl

pub bytes_differ : (t u : List ℕ) → t ≢ u → bytes_eq t u ≡ false
bytes_differ t u d = search (rules, bytes_eq-Decides)

-- a journal with no open move that describes a history is at rest
pub at_rest : (s : State) (t : List ℕ) (h : History) → s.pending ≡ None → Describes s t h → AtRest s t h
at_rest s t h none d = subst (λ o. DescribesPending s o t h) none d

-- and the other way round
pub describes : (s : State) (t : List ℕ) (h : History) → s.pending ≡ None → AtRest s t h → Describes s t h
describes s t h none k = subst (λ o. DescribesPending s o t h) (sym none) k

module _ (s : State) (h : History) (t u : List ℕ) (step : Move) (k : AtRest s t h) (m : moved_text s.records s.at step t ≡ Some u) (d : u ≢ t) where
  underway : (v : List ℕ) (g : History) → ((v ≡ t) × (g ≡ h)) ⊎ ((v ≡ u) × (g ≡ after_move h step u)) → Describes (with_move s step t) v g
  underway v g is_located = search rules

  -- a move is opened: beside the old text the history is what it was
  pub open_before : Describes (with_move s step t) t h
  open_before = underway t h (inl (refl, refl))

  -- and beside the new text it is the one after the move
  pub open_after : Describes (with_move s step t) u (after_move h step u)
  open_after = underway u (after_move h step u) (inr (refl, refl))

pub moved_closed : (s : State) (step : Move) → (journal_after s step).pending ≡ None
moved_closed s step = search rules

settles_before : (s : State) (p : Pending) (t : List ℕ) (h : History) (k : Underway s p t h) → t ≡ p.from → h ≡ k.before → Rests (settled_pending s (Some p) t) t h
settles_before s p t h k is same = search (rules, bytes_same, at_rest)

settles_after : (s : State) (p : Pending) (t : List ℕ) (h : History) (k : Underway s p t h) → t ≡ k.to → h ≡ after_move k.before p.step k.to → Rests (settled_pending s (Some p) t) t h
settles_after s p t h k is same = record {
  rest = journal_after s p.step;
  is = search (rules, bytes_differ, bytes_same, k.changes);
  at_rest = subst (λ g. AtRest (journal_after s p.step) t g) (sym same) (subst (λ u. AtRest (journal_after s p.step) u (after_move k.before p.step k.to)) (sym is)
      (move_moves s k.before p.from k.to p.step (record { reports = k.reports; text = k.from }) k.moves));
  closed = moved_closed s p.step;
}

-- a journal that describes a history can be settled, and then is at rest with that history
pub settles : (s : State) (t : List ℕ) (h : History) → Describes s t h → Rests (settled_beside s t) t h
settles s t h d = search (rules, at_rest, settles_before, settles_after)

-- what settling gives is at rest with the history
pub settled_rests : (s r : State) (t : List ℕ) (h : History) → Describes s t h → settled_beside s t ≡ Some r → AtRest r t h × (r.pending ≡ None)
settled_rests s r t h d is = search (rules, settles, same_Some)

-- a record of the journal at a place before its end
get_at : (rs : List Record) (n : ℕ) → n < length rs → (r : Record) × (slice_get rs n ≡ Some r)
get_at [] n h = absurd (omega arith)
get_at (r ∷ rs) zero h = (r, refl)
get_at (r ∷ rs) (suc n) h = get_at rs n (omega arith)

not_zero : (n : ℕ) → 0 < n → (n == 0) ≡ false
not_zero n h = grind (arith, nat_tests)

-- what describes a history can be undone down to its first text
undo_is_there : (s : State) (h : History) (t : List ℕ) → AtRest s t h → 0 < s.at → moved_text s.records s.at Undo t ≡ Some (text_after_edits h.first h.later (s.at - 1))
undo_is_there s h t k pos =
    let place : suc (s.at - 1) ≡ h.at = omega (arith, k.reports.cursor) in
    let found = get_at s.records (s.at - 1) (omega (arith, k.reports.within, k.reports.cursor, same_length h.first s.records h.later k.reports.leads)) in
    let leads : done found.0 (text_after_edits h.first h.later (s.at - 1)) ≡ Some t = search (rules, leads_at) in
    search (rules, not_zero, undone_after_done)

-- and redone up to its last
redo_is_there : (s : State) (h : History) (t : List ℕ) → AtRest s t h → s.at < length s.records → moved_text s.records s.at Redo t ≡ Some (text_after_edits h.first h.later (suc s.at))
redo_is_there s h t k fits =
    let found = get_at s.records s.at fits in
    search (rules, leads_at)

-- whether a move has a way is the history's to say
pub way_of : (s : State) (t : List ℕ) (h : History) (step : Move) → AtRest s t h → no_way s.records s.at step ≡ step_fault h step
way_of s t h step h1 = search (rules, same_length)

-- an undo of a journal at rest applies wherever the history has one
pub undo_fault : (s : State) (t : List ℕ) (h : History) → AtRest s t h → way_fault s.records s.at Undo t ≡ step_fault h Undo
undo_fault s t h k =
    elim (s.at == 0) as (λ b. (s.at == 0) ≡ b → option_or (if b then Some fault.NothingToUndo else None) (if_moves (moved_text s.records s.at Undo t)) ≡ (if b then Some fault.NothingToUndo else None)) [
      | true ↦ λ e. refl
      | false ↦ λ e. let pos : 0 < s.at = grind (arith, nat_tests) in ap if_moves (undo_is_there s h t k pos)
    ] refl
    ∙ way_of s t h Undo k

-- and a redo likewise
pub redo_fault : (s : State) (t : List ℕ) (h : History) → AtRest s t h → way_fault s.records s.at Redo t ≡ step_fault h Redo
redo_fault s t h k =
    elim (nat_le (length s.records) s.at) as
    (λ b. nat_le (length s.records) s.at ≡ b →
    option_or (if b then Some fault.NothingToRedo else None)
    (if_moves (moved_text s.records s.at Redo t)) ≡ (if b then Some fault.NothingToRedo else None)) [
      | true ↦ λ e. refl
      | false ↦ λ e. let fits : s.at < length s.records = grind (arith, nat_tests) in ap if_moves (redo_is_there s h t k fits)
    ] refl
    ∙ way_of s t h Redo k

or_none : (o : Option JournalFault) → option_or o None ≡ o
or_none o = search rules

-- an edit whose record applies before the text has the history's fault alone
pub edit_fault : (s : State) (t u : List ℕ) (h : History) (r : Record) → AtRest s t h → done r t ≡ Some u → way_fault s.records s.at (Edit r) t ≡ step_fault h (Edit r)
edit_fault s t u h r k d = ap (option_or (no_way s.records s.at (Edit r))) (ap if_moves d) ∙ or_none (no_way s.records s.at (Edit r)) ∙ way_of s t h (Edit r) k
