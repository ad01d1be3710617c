-- The effects of edits, from the contracts of the calls of which they are made.
use Rattle.std.proofs.Common.{◌≡◌, ◌≢◌, ℕ, Bool, true, false, nat_le, List, [], length, Option, Some, None, Result, Ok, if◌then◌else◌, sym}
use Rattle.std.proofs.Common.{ap, ◌∙◌, subst, refl}
use Rattle.yq_semantics.specs.Program.{Program}
use Rattle.yq_text.specs.Splice.{Splice}
use Rattle.yq_journal.{specs.Record.Record, specs.Refusals.{most_records, no_way}}
use Rattle.yq_journal.{specs.State.{State, journal_after, moved_text, with_move}, proofs.GoodLaws.bytes_differ}
use Rattle.yq_fault.specs.declared.fault.Fault.{Fault}
use Rattle.yq_history.{specs.Effects.{Effect, refuses, writes_nothing, from_pair, goes_to, move_effect, Works}, specs.Output.bytes}
use Rattle.yq_history.{specs.Causes.named, proofs.EffectLaws.works_carried, proofs.MoveLaws.IsMove}
use Rattle.yq_store.specs.FileMap.{FileMap}
use Rattle.yq_commands.specs.CommandEffects.{edit_effect, edit_writes, update_effect}
use Rattle.yq_commands.{specs.Editing.{EditOutcome, edited, program_in, program_edits}, specs.Edits.edit_record}
use Rattle.yq_journal.specs.declared.fault.JournalFault.TheVariants as journal
use Rattle.yq_journal.specs.declared.moves.Move.TheVariants as move
use Rattle.yq_fault.specs.declared.fault.Fault.TheVariants as fault

module _ (f j : List ℕ) (c : FileMap) (expr : List ℕ) (s : State) (t : List ℕ) where
  -- the effect of an edit to another text, by whether the texts are equal and the journal has no room
  abbrev by_tests : List ℕ → List Splice → Bool → Bool → Effect
  by_tests u cs equal full =
      if equal then writes_nothing (bytes [])
      else if full then refuses (named (fault.Journal journal.JournalFull)) else edit_writes (edit_record expr cs (length t) (length u)) t u s

  -- an edit to another text is a move
  module _ (u : List ℕ) (cs : List Splice) (edit : Record) (is_edit : edit ≡ edit_record expr cs (length t) (length u)) where
    by_room : (full : Bool) → by_tests u cs false full ≡ goes_to (if full then Some journal.JournalFull else None) (Some u) (with_move s (move.Edit edit) t) (journal_after s (move.Edit edit))
    by_room true = refl
    by_room false = ap (λ r. edit_writes r t u s) (sym is_edit)

    pub edit_moves : (o : EditOutcome) → o ≡ edited u cs → u ≢ t → moved_text s.records s.at (move.Edit edit) t ≡ Some u → edit_effect expr o t s ≡ move_effect (move.Edit edit) t s
    edit_moves o is changes leads =
        ap (λ x. edit_effect expr x t s) is
        ∙ ap (λ b. by_tests u cs b (nat_le most_records s.at)) (bytes_differ u t changes)
        ∙ by_room (nat_le most_records s.at)
        ∙ ap (λ m. goes_to (no_way s.records s.at (move.Edit edit)) m (with_move s (move.Edit edit) t) (journal_after s (move.Edit edit))) (sym leads)

    pub edit_works : (o : EditOutcome) (d : FileMap) {T : Type 0} (r : Result T Fault) → o ≡ edited u cs → u ≢ t → IsMove c d f j s t u (move.Edit edit) r → Works (edit_effect expr o t s) f j c d r
    edit_works o d r is changes m = subst (λ x. Works x f j c d r) (sym (edit_moves o is changes m.leads)) (works_carried f j c d s t u (move.Edit edit) r m)

-- one that has
pub parsed_works : (f j : List ℕ) (c d : FileMap) (expr : List ℕ) (p : Program) (file journal : Option (List ℕ)) {T : Type 0} (r : Result T Fault) →
    program_in expr ≡ Ok p → Works (from_pair file journal (λ t s. edit_effect expr (program_edits p t) t s)) f j c d r → Works (update_effect expr (program_in expr) file journal) f j c d r
parsed_works f j c d expr p file journal r is works = subst (λ x. Works (update_effect expr x file journal) f j c d r) (sym is) works
