-- What is reported where a call within a move failed.
use Rattle.std.proofs.Common.{rules, ◌≡◌, ℕ, false, List, Some, None, Result, Err, IfErr, IsTrue, IsNone, is_some, if◌then◌else◌, sym, ap}
use Rattle.std.proofs.Common.{◌∙◌}
use Rattle.yq_journal.{specs.Refusals.{move_fault, no_way, way_fault}, specs.declared.moves.Move.Move, specs.State.{State, moved_text}}
use Rattle.yq_fault.{specs.declared.fault.Fault.Fault, specs.Faults.is_outer_fault}
use Rattle.yq_store.specs.Count.{failures_after}
use Rattle.yq_history.proofs.MoveLaws.{no_way_free, none_of}
use Rattle.yq_journal.specs.declared.fault.JournalFault.TheVariants as journal

pub all_outside : {T : Type 0} (P : Fault → Type 0) (r : Result T Fault) → IfErr r (λ e. IsTrue (is_outer_fault e)) → IfErr r (λ e. is_outer_fault e ≡ false → P e)
all_outside P r out = search rules

-- ---- writes

-- what is counted of a write that failed
pub failed_write : {T : Type 0} (r : Result T Fault) (e : Fault) (n : ℕ) → r ≡ Err e → failures_after {T = Unit {0}} (Err e) n ≡ failures_after r n
failed_write r e n is = search rules

-- ---- the journal

-- a move that leads from a text to another, of a settled journal
module _ (s : State) (step : Move) (t u : List ℕ) (settled : IsNone s.pending) (leads : moved_text s.records s.at step t ≡ Some u) where
  pub way_of : move_fault s step t ≡ way_fault s.records s.at step t
  way_of = ap (λ o. if is_some o then Some journal.Unsettled else way_fault s.records s.at step t) (none_of s.pending settled)

  -- where the journal opened it there was a way for it
  pub way_there : move_fault s step t ≡ None → no_way s.records s.at step ≡ None
  way_there free = no_way_free s.records s.at step t (sym way_of ∙ free)
