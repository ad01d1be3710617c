-- The calls of a command, from those of the calls of which it is made.
use Rattle.std.proofs.Common.{rules, ◌≡◌, ◌≢◌, inl, ℕ, true, false, ◌==◌, List, [], ◌∷◌, Option, Some, None, Result, Ok, Err, IfErr, Vec}
use Rattle.std.{proofs.Common.{is_ok, sym, ap, ◌∙◌, subst, refl, true≢false}, specs.declared.alloc.Global.Global}
use Rattle.yq_journal.{specs.declared.moves.Move.Move, specs.Good.journal_beside, specs.Json.journal_text}
use Rattle.yq_journal.specs.Refusals.{no_way, squash_fault, way_fault}
use Rattle.yq_journal.specs.State.{State, journal_after, moved_text, settled_beside, squashed, with_move}
use Rattle.yq_journal.proofs.GoodLaws.{bytes_same, bytes_differ}
use Rattle.yq_store.specs.Calls.{Call, writes}
use Rattle.yq_history.specs.PairAnswers.{IsReadFrom}
use Rattle.yq_history.specs.Calls.{AfterFile, AfterJournal, CallsOnPair, IsOpened, Makes, Puts, PutsJournal, ReadsJournal, ReadsPair}
use Rattle.yq_history.{specs.Calls.writes_of, specs.Effects.{Effect, from_pair, move_effect, squash_effect}, proofs.EffectLaws.settles}
use Rattle.yq_history.proofs.MoveLaws.{no_way_free}
use Rattle.yq_fault.specs.declared.fault.Fault.{Fault}
use Rattle.yq_fault.specs.declared.fault.Fault.TheVariants as fault

-- equal errors
pub same_err : {T : Type 0} (r : Result T Fault) (e x : Fault) → r ≡ Err e → r ≡ Err x → e ≡ x
same_err r e x is same = subst (λ q. IfErr q (λ y. y ≡ x)) is (subst (λ q. IfErr q (λ y. y ≡ x)) (sym same) refl)

-- what is an error is no success
pub fails : {T : Type 0} (r : Result T Fault) (e : Fault) → r ≡ Err e → is_ok r ≡ false
fails r e is = ap is_ok is

module _ {S : Type 0} (leads : S → Call → S → Type 0) where
  -- ---- writes

  -- after a fault no write is owed
  pub stops : {T : Type 0} (r : Result T Fault) (ps : List (List ℕ × List ℕ)) (s : S) → is_ok r ≡ false → Puts leads r ps s s
  stops r [] s bad = refl
  stops r (p ∷ ps) s bad = inl (bad, refl)

  -- nor one of an effect
  pub makes_none : {T : Type 0} (r : Result T Fault) (f j t : List ℕ) (x : Effect) (s : S) → is_ok r ≡ false → Makes leads r f j t x s s
  makes_none r f j t x s bad = search rules

  -- one write that was made
  pub was_put : {T : Type 0} (v : T) (p : List ℕ × List ℕ) (s m : S) → Puts leads (Ok v) (p ∷ []) s m → leads s (writes p.0 p.1 (Ok tt)) m
  was_put v p s m k = search rules

  -- one that was not, or after which something else failed: it is the last of several
  pub was_last : {T V : Type 0} (r : Result T Fault) (e : Fault) (p : List ℕ × List ℕ) (ps : List (List ℕ × List ℕ)) (s m : S) →
      r ≡ Err e → Puts {T = V} leads (Err e) (p ∷ []) s m → Puts leads r (p ∷ ps) s m
  was_last r e p ps s m is k = search (rules, fails, same_err, stops)

  -- the write of a journal
  pub puts_as : {T : Type 0} (r : Result T Fault) (j : List ℕ) (y z : State) (s m : S) → y ≡ z → PutsJournal leads r j y s m → PutsJournal leads r j z s m
  puts_as r j y z s m is k = subst (λ x. PutsJournal leads r j x s m) is k

  pub was_put_as : {T : Type 0} (v : T) (j : List ℕ) (y z : State) (s m : S) → y ≡ z → PutsJournal leads (Ok v) j y s m → leads s (writes j (journal_text z) (Ok tt)) m
  was_put_as v j y z s m is k = was_put v (j, journal_text z) s m (puts_as (Ok v) j y z s m is k)

  -- ---- moves

  module _ {T : Type 0} (r : Result T Fault) (f j : List ℕ) (s : State) (step : Move) (t : List ℕ) (a e : S) where
    as_effect : (u : List ℕ) → no_way s.records s.at step ≡ None → moved_text s.records s.at step t ≡ Some u → (ps : List (List ℕ × List ℕ)) →
        writes_of f j t u (with_move s step t) (journal_after s step) ≡ ps → Puts leads r ps a e → Makes leads r f j t (move_effect step t s) a e
    as_effect u free is ps writes_is puts = search rules

    -- a move in three writes
    pub three_writes : (u : List ℕ) → no_way s.records s.at step ≡ None → moved_text s.records s.at step t ≡ Some u → u ≢ t →
        Puts leads r ((j, journal_text (with_move s step t)) ∷ (f, u) ∷ (j, journal_text (journal_after s step)) ∷ []) a e → Makes leads r f j t (move_effect step t s) a e
    three_writes u free is changes = search (rules, as_effect, bytes_differ)

    -- one that leaves the text equal, in one
    pub one_write : way_fault s.records s.at step t ≡ None → moved_text s.records s.at step t ≡ Some t →
        PutsJournal leads r j (journal_after s step) a e → Makes leads r f j t (move_effect step t s) a e
    one_write free is = search (rules, as_effect, no_way_free, bytes_same)

  -- ---- squashes

  module _ {T : Type 0} (r : Result T Fault) (f j t : List ℕ) (s : State) (n : ℕ) (a e : S) where
    -- of one edit, without a write
    pub squashed_one : (n == 1) ≡ true → squash_fault s n ≡ None → e ≡ a → Makes leads r f j t (squash_effect n t s) a e
    squashed_one one free same = search rules

    -- of several
    pub squash_write : (n == 1) ≡ false → squash_fault s n ≡ None → PutsJournal leads r j (squashed s n) a e → Makes leads r f j t (squash_effect n t s) a e
    squash_write some free puts = search (rules, bytes_same)

  -- ---- reading a pair

  -- a journal that was read is opened next to a text, and settled
  module _ (v : Vec ℕ Global) (z y : State) (settled : settled_beside z v.items ≡ Some y) where
    abbrev IsRead : Option (List ℕ) → S → S → Type 0
    IsRead beside s t = (t ≡ s) × (journal_beside beside ≡ Some z)

    abbrev pair : Result (Vec ℕ Global × State) Fault
    pair = Ok (v, y)

    opens : (b : Option (List ℕ)) (s t : S) → IsRead b s t → IsOpened pair v.items b s t
    opens b s t k = (k.0, refl, (λ go. settles (Some v.items) b v.items refl z k.1 y settled go))

    opens_after : (a : Result (List ℕ) Fault) (s t : S) → AfterJournal {T = State} leads (Ok z) IsRead a s t → AfterJournal leads pair (IsOpened pair v.items) a s t
    opens_after a s t k = search (rules, opens, true≢false)

    pub opens_journal : (j : List ℕ) (s t : S) → ReadsJournal {T = State} leads (Ok z) j IsRead s t → ReadsJournal leads pair j (IsOpened pair v.items) s t
    opens_journal j s t k = (k.0, k.1, k.2, opens_after k.0 k.1 t k.3)

  -- a journal that was read, with a fault after that
  module _ (z : State) (text : List ℕ) (e : Fault) where
    misses_after : (a : Result (List ℕ) Fault) (s t : S) → AfterJournal {T = State} leads (Ok z) (IsReadFrom {E = Fault} (Ok z)) a s t → AfterJournal {T = Vec ℕ Global × State} leads (Err e) (IsOpened (Err e) text) a s t
    misses_after a s t k = search (rules, true≢false)

    pub misses_pair : (r : Result (Vec ℕ Global × State) Fault) → r ≡ Err e → (j : List ℕ) (s t : S) → ReadsJournal {T = State} leads (Ok z) j (IsReadFrom {E = Fault} (Ok z)) s t → ReadsJournal leads r j (IsOpened r text) s t
    misses_pair r is j s t k = subst (λ q. ReadsJournal leads q j (IsOpened q text) s t) (sym is) (k.0, k.1, k.2, misses_after k.0 k.1 t k.3)

  module _ {T : Type 0} (r : Result T Fault) (f j : List ℕ) (go : List ℕ → State → Effect) where
    -- what an effect does then
    abbrev Goes : List ℕ → Option (List ℕ) → S → S → Type 0
    Goes text beside = Makes leads r f j text (from_pair (Some text) beside go)

    module _ (e : Fault) (is : r ≡ Err e) where
      abbrev refusal : Result (Vec ℕ Global × State) Fault
      refusal = Err e

      same_refusal : (x : Fault) → refusal ≡ Err x → r ≡ Err x
      same_refusal x w = is ∙ ap Err (same_err refusal e x refl w)

      none_then : (text : List ℕ) (b : Option (List ℕ)) (s t : S) → t ≡ s → Goes text b s t
      none_then text b s t same = subst (Goes text b s) (sym same) (makes_none r f j text (from_pair (Some text) b go) s (fails r e is))

      unopened_journal : (text : List ℕ) (a : Result (List ℕ) Fault) (s t : S) → AfterJournal leads refusal (IsOpened refusal text) a s t → AfterJournal leads r (Goes text) a s t
      unopened_journal text a s t k = search (rules, none_then, same_refusal)

      unopened_file : (a : Result (List ℕ) Fault) (s t : S) →
          AfterFile leads refusal (λ text. ReadsJournal leads refusal j (IsOpened refusal text)) a s t → AfterFile leads r (λ text. ReadsJournal leads r j (Goes text)) a s t
      unopened_file a s t k = search (rules, unopened_journal, same_refusal)

      -- a pair that was not opened
      pub unopened_calls : (s t : S) → ReadsPair leads refusal f j (IsOpened refusal) s t → CallsOnPair leads r f j go s t
      unopened_calls s t k = (k.0, k.1, k.2, unopened_file k.0 k.1 t k.3)

    module _ (p : Vec ℕ Global × State) (n t : S) (makes : Makes leads r f j p.0.items (go p.0.items p.1) n t) where
      abbrev success : Result (Vec ℕ Global × State) Fault
      success = Ok p

      goes_then : (text : List ℕ) (b : Option (List ℕ)) (s : S) → IsOpened success text b s n → Goes text b s t
      goes_then text b s k = search rules

      opened_journal : (text : List ℕ) (a : Result (List ℕ) Fault) (s : S) → AfterJournal leads success (IsOpened success text) a s n → AfterJournal leads r (Goes text) a s t
      opened_journal text (Ok b) s k = goes_then text (Some b) s k
      opened_journal text (Err fault.NotThere) s k = goes_then text None s k
      opened_journal text (Err e) s k = absurd (true≢false (ap is_ok k.1))

      opened_file : (a : Result (List ℕ) Fault) (s : S) →
          AfterFile leads success (λ text. ReadsJournal leads success j (IsOpened success text)) a s n → AfterFile leads r (λ text. ReadsJournal leads r j (Goes text)) a s t
      opened_file a s k = search (rules, opened_journal, true≢false)

      -- one that was, and what went on from it
      pub opened_calls : (s : S) → ReadsPair leads success f j (IsOpened success) s n → CallsOnPair leads r f j go s t
      opened_calls s k = (k.0, k.1, k.2, opened_file k.0 k.1 k.3)
