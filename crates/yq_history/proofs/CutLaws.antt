-- What a move or a squash leaves that was cut short.
use Rattle.std.{proofs.Common.{◌≡◌, ◌≢◌, inl, inr, ℕ, List, Some, sym, ap, ◌∙◌, subst}, specs.FinMap.{get, insert}}
use Rattle.yq_journal.{specs.Json.journal_text, specs.State.State}
use Rattle.yq_store.specs.FileMap.{FileMap, get_written, get_other}
use Rattle.yq_history.{specs.Effects.IsCutShort, specs.Pair.{IsJournal, Writes}, proofs.MoveLaws.journal_written}

module _ (f j u : List ℕ) (started s : State) (c : FileMap) where
  -- nothing was written
  pub cut_unwritten : (d : FileMap) → d ≡ c → IsCutShort u started s f j c d
  cut_unwritten d same = inl (ap (λ m. get m f) same, inl (ap (λ m. get m j) same))

  module _ (apart : f ≢ j) (e : FileMap) (z : State) (is : z ≡ started) (w : Writes c e j z) where
    open_there : IsJournal (get e j) started
    open_there = subst (IsJournal (get e j)) is (journal_written c e j z w)

    -- the journal was, with the move open
    pub cut_opened : (g : FileMap) → g ≡ e → IsCutShort u started s f j c g
    cut_opened g same = inl (
      ap (λ m. get m f) same ∙ ap (λ m. get m f) w.written ∙ get_other c j (journal_text z) f apart,
      inr (subst (λ m. IsJournal (get m j) started) (sym same) open_there),
    )

    -- and the file
    pub cut_changed : (g : FileMap) → g ≡ insert e f u → IsCutShort u started s f j c g
    cut_changed g put = inr (
      ap (λ m. get m f) put ∙ get_written e f u,
      inl (subst (λ x. IsJournal x started) (sym (ap (λ m. get m j) put ∙ get_other e f u j (λ x. apart (sym x)))) open_there),
    )

  -- the journal after the move was written, with the new text in the file
  pub cut_settled : (d : FileMap) → get d f ≡ Some u → IsJournal (get d j) s → IsCutShort u started s f j c d
  cut_settled d text journal = inr (text, inr journal)
