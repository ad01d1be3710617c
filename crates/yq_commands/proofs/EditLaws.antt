-- How an edit of a pair ends.
use Rattle.std.proofs.Common.{rules, ◌≡◌, ◌≢◌, ◌⊎◌, ℕ, Bool, true, false, nat_le, List, length, Some, None, Result, Ok, OnOk, OnErr}
use Rattle.std.{proofs.Common.{if◌then◌else◌, sym, ap, ◌∙◌, subst, refl}, proofs.lemmas.Option.none-some}
use Rattle.yq_semantics.specs.Program.{Program}
use Rattle.yq_text.specs.Splice.{Splice, all_done}
use Rattle.yq_journal.{specs.declared.moves.Move.TheVariants.Edit, specs.Good.after_move, specs.History.{History, text_at, after_edit}}
use Rattle.yq_journal.{specs.Record.{Record, done}, specs.Refusals.{no_way, most_records}, specs.State.State}
use Rattle.yq_journal.{specs.declared.fault.JournalFault.TheVariants.JournalFull, proofs.GoodLaws.bytes_differ}
use Rattle.yq_history.{specs.Causes.{IsFor, named}, specs.Pair.{Arrives, PairAtRest, PairIsThere}}
use Rattle.yq_history.proofs.MoveLaws.{IsMove, is_refused, ends, same_content, fault_outside}
use Rattle.yq_fault.specs.declared.fault.Fault.{Fault}
use Rattle.yq_store.specs.FileMap.{FileMap}
use Rattle.yq_commands.{specs.Editing.{edited, program_edits}, specs.Edits.edit_record}
use Rattle.yq_commands.specs.CommandSteps.{edit_cause, edit_next, update_cause, update_next}
use Rattle.yq_journal.specs.declared.fault.JournalFault.TheVariants as journal
use Rattle.yq_fault.specs.declared.fault.Fault.TheVariants as fault

-- the record of an edit leads to its text
pub edit_done : (expr : List ℕ) (cs : List Splice) (t u : List ℕ) → all_done cs t ≡ Some u → done (edit_record expr cs (length t) (length u)) t ≡ Some u
edit_done expr cs t u leads = search rules

module _ (c : FileMap) (f j : List ℕ) (h : History) (expr : List ℕ) (p : Program) (s : State) (t : List ℕ) (k : PairAtRest c f j s t h) where
  same_edits : program_edits p t ≡ program_edits p (text_at h)
  same_edits = ap (program_edits p) k.at_rest.text

  -- the pair after an edit
  abbrev pub Updated : {T : Type 0} → FileMap → Result T Fault → Type 0
  Updated d r = Arrives d f j (update_cause (Ok p) (Some h)) (Some h) (update_next expr (Ok p) (Some h)) r

  module _ (d : FileMap) (u : List ℕ) (cs : List Splice) (edit : Record) (is_edit : edit ≡ edit_record expr cs (length t) (length u)) (gives : program_edits p t ≡ edited u cs) (changes : u ≢ t) where
    -- whether the journal has room, by the history
    room : (b : Bool) → nat_le most_records s.at ≡ b → update_cause (Ok p) (Some h) ≡ (if b then Some (named (fault.Journal JournalFull)) else None)
    room b is =
        ap (edit_cause h) (sym same_edits ∙ gives)
        ∙ ap (λ x. if x then None else if nat_le most_records h.at then Some (named (fault.Journal JournalFull)) else None) (bytes_differ u (text_at h) (λ e. changes (e ∙ sym k.at_rest.text)))
        ∙ ap (λ x. if x then Some (named (fault.Journal JournalFull)) else None) (ap (nat_le most_records) (sym k.at_rest.reports.cursor) ∙ is)

    -- and the history after the edit
    after : (b : Bool) → nat_le most_records s.at ≡ b → update_next expr (Ok p) (Some h) ≡ Some (if b then h else after_edit h expr u)
    after b is =
        ap (λ o. Some (edit_next h expr o)) (sym same_edits ∙ gives)
        ∙ ap (λ x. Some (if x then h else if nat_le most_records h.at then h else after_edit h expr u)) (bytes_differ u (text_at h) (λ e. changes (e ∙ sym k.at_rest.text)))
        ∙ ap (λ x. Some (if x then h else after_edit h expr u)) (ap (nat_le most_records) (sym k.at_rest.reports.cursor) ∙ is)

    moved_on : after_move h (Edit edit) u ≡ after_edit h expr u
    moved_on = ap (λ (x : Record). after_edit h x.expr u) is_edit

    -- the journal had no room
    full : {T : Type 0} (r : Result T Fault) → nat_le most_records s.at ≡ true → IsMove c d f j s t u (Edit edit) r → Updated d r
    full r is m =
        let no : no_way s.records s.at (Edit edit) ≡ Some journal.JournalFull = ap (λ b. if b then Some journal.JournalFull else None) is in
        is_refused d f j (update_cause (Ok p) (Some h)) (Some h) (update_next expr (Ok p) (Some h)) r (fault.Journal JournalFull) (m.refused journal.JournalFull no) refl
        (subst (λ o. IsFor o (fault.Journal JournalFull)) (sym (room true is)) refl)
        (same_content c d f j h (m.barred (λ none. none-some journal.JournalFull (sym none ∙ no))) k.is_located)

    -- the edit was carried out, or cut short
    pub edit_ends : {T : Type 0} (r : Result T Fault) → IsMove c d f j s t u (Edit edit) r → Updated d r
    edit_ends r m = elim (nat_le most_records s.at) as (λ b. nat_le most_records s.at ≡ b → Updated d r) [
      | true ↦ λ is. full r is m
      | false ↦ λ is. subst (λ x. Arrives d f j (update_cause (Ok p) (Some h)) (Some h) x r) (sym (after false is))
          (ends d f j (update_cause (Ok p) (Some h)) (Some h) (Some (after_edit h expr u)) r (room false is)
          (subst (λ x. OnOk r (PairIsThere d f j x)) moved_on (m.ok h k))
          (subst (λ x. OnErr r (PairIsThere d f j h ⊎ PairIsThere d f j x)) moved_on (m.err h k))
          (fault_outside r (no_way s.records s.at (Edit edit)) (ap (λ b. if b then Some journal.JournalFull else None) is) m.fault))
    ] refl
