-- How a squash of a pair ends.
use Rattle.std.proofs.Common.{rules, ◌≡◌, ◌≢◌, ◌⊎◌, ℕ, ◌≤◌, List, Option, Some, None, Result, Ok, Err, OnOk, OnErr, IfErr, IsTrue, Vec}
use Rattle.std.{proofs.Common.{option_map, sym, ap, ◌∙◌, subst, refl}, specs.declared.alloc.Global.Global}
use Rattle.std.proofs.lemmas.Result.{on_ok_weaker, on_err_weaker}
use Rattle.yq_journal.{specs.Refusals.{JournalError, Reports, squash_fault}, specs.Good.squash_refusal}
use Rattle.yq_journal.{specs.History.{History, after_squash}, specs.State.{State, squashed}, proofs.GoodLaws.describes}
use Rattle.yq_journal.proofs.SquashLaws.{squash_fault_of, squash_one, squash_rests}
use Rattle.yq_history.{specs.Causes.named, specs.Pair.{Arrives, Opens, PairAtRest, PairIsThere, Writes}}
use Rattle.yq_history.specs.Steps.{squash_cause, squash_next, unless_fault}
use Rattle.yq_history.proofs.MoveLaws.{cut, is_refused, ends, either, same_content, wrote_journal}
use Rattle.yq_fault.{specs.declared.fault.Fault.Fault, specs.Faults.{is_outer_fault, of_journal}}
use Rattle.yq_store.specs.FileMap.{FileMap}
use Rattle.yq_fault.specs.declared.fault.Fault.TheVariants as fault

-- a squash that isn't refused is of some edits, as many as are done at most
within : (h : History) (n : ℕ) → squash_refusal h n ≡ None → (1 ≤ n) × (n ≤ h.at)
within h n free = search rules

module _ (c : FileMap) (f j : List ℕ) (h : History) (n : ℕ) (s : State) (t : List ℕ) (rest : s.pending ≡ None) (k : PairAtRest c f j s t h) where
  same_fault : squash_fault s n ≡ squash_refusal h n
  same_fault = squash_fault_of s t h n rest k.at_rest

  -- the journal refused it
  pub squash_refused : {T : Type 0} (r : Result T Fault) (e : Fault) (x : JournalError) → r ≡ Err e → e ≡ of_journal x → Reports x (squash_fault s n) → Arrives c f j (squash_cause n (Some h)) (Some h) (squash_next n (Some h)) r
  squash_refused r e x is of reports = search (rules, cut, is_refused, same_fault)

  free_squash : squash_fault s n ≡ None → squash_refusal h n ≡ None
  free_squash free = sym same_fault ∙ free

  no_cause : squash_fault s n ≡ None → squash_cause n (Some h) ≡ None
  no_cause free = ap (option_map (λ z. named (fault.Journal z))) (free_squash free)

  next_is : squash_fault s n ≡ None → squash_next n (Some h) ≡ Some (after_squash h n)
  next_is free = ap (λ o. Some (unless_fault o h (after_squash h n))) (free_squash free)

  -- of one edit nothing is written
  pub squash_of_one : {T : Type 0} (v : T) (d : FileMap) → n ≡ 1 → d ≡ c → squash_fault s n ≡ None → Arrives d f j (squash_cause n (Some h)) (Some h) (squash_next n (Some h)) {T = T} (Ok v)
  squash_of_one v d one same free = search (rules, within, free_squash, squash_one, no_cause, next_is, same_content)

  module _ (apart : f ≢ j) (d : FileMap) (z : State) (is : z ≡ squashed s n) (free : squash_fault s n ≡ None) where
    wrote : Writes c d j z → PairIsThere d f j (after_squash h n)
    wrote w =
        let fits = within h n (free_squash free) in
        wrote_journal f j apart c d t (squashed s n) (after_squash h n) k.file_is (subst (Writes c d j) is w)
        (describes (squashed s n) t (after_squash h n) refl (squash_rests s t h n k.at_rest fits.0 fits.1))

    -- the journal was written, or not
    pub squash_ends : {T : Type 0} (r : Result T Fault) →
        OnOk r (Writes c d j z) → OnErr r ((d ≡ c) ⊎ Writes c d j z) → IfErr r (λ e. IsTrue (is_outer_fault e)) → Arrives d f j (squash_cause n (Some h)) (Some h) (squash_next n (Some h)) r
    squash_ends r ok err out = search (rules, next_is, ends, no_cause, on_ok_weaker, wrote, on_err_weaker, either, same_content)

-- a pair that was read and settled, and then squashed
pub squash_opened : (c d : FileMap) (f j : List ℕ) (n : ℕ) (h : Option History) (v : Vec ℕ Global) (s : State) {T : Type 0} (r : Result T Fault) →
    Opens c f j h (Ok (v, s)) →
    ((x : History) → PairAtRest c f j s v.items x → Arrives d f j (squash_cause n (Some x)) (Some x) (squash_next n (Some x)) r) → Arrives d f j (squash_cause n h) h (squash_next n h) r
squash_opened c d f j n h v s r opens k = search rules
