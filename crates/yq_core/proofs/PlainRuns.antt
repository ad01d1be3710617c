-- Bytes at which no plain scalar ends.
use Rattle.std.proofs.Common.{◌≡◌, ℕ, suc, ◌+◌, Bool, true, false, Option, List, [], ◌∷◌, drop, refl, inl, inr, subst, arith, rules}
use Rattle.std.{proofs.lemmas.Bool.{and_right, cases_Bool, leb-false, ne_eqb}, specs.List.prefix_len}
use Rattle.yq_core.{specs.Text.upto, specs.Plain.ends_plain, specs.Runs.run_goes_on, specs.declared.runs.Run.TheVariants.Plain}
use Rattle.yq_core.proofs.Bools.{none_of}

inside_goes_on : (flow : Bool) (spaces : Option ℕ) (b : ℕ) (bs : List ℕ) → run_goes_on Plain b ≡ true → ends_plain flow spaces (b ∷ bs) ≡ false
inside_goes_on flow spaces b bs h = search (rules, ne_eqb, leb-false, none_of, and_right)

run_over : (flow : Bool) (spaces : Option ℕ) (t : List ℕ) → upto (ends_plain flow spaces) t ≡ prefix_len (run_goes_on Plain) t + upto (ends_plain flow spaces) (drop (prefix_len (run_goes_on Plain) t) t)
unfolding upto
run_over flow spaces [] = refl
run_over flow spaces (b ∷ bs) = elim (cases_Bool (run_goes_on Plain b)) [
  | inl i ↦
      let again = run_over flow spaces bs in
      let here : upto (ends_plain flow spaces) (b ∷ bs) ≡ suc (upto (ends_plain flow spaces) bs) = rw (inside_goes_on flow spaces b bs i) refl in
      let same : suc (prefix_len (run_goes_on Plain) bs) ≡ prefix_len (run_goes_on Plain) (b ∷ bs) = rw i (omega arith) in
      subst (λ (n : ℕ). upto (ends_plain flow spaces) (b ∷ bs) ≡ n + upto (ends_plain flow spaces) (drop n (b ∷ bs))) same (omega (arith, here, again))
  | inr i ↦
      let same : 0 ≡ prefix_len (run_goes_on Plain) (b ∷ bs) = rw i refl in
      subst (λ (n : ℕ). upto (ends_plain flow spaces) (b ∷ bs) ≡ n + upto (ends_plain flow spaces) (drop n (b ∷ bs))) same (omega arith)
]

pub run_after : (flow : Bool) (spaces : Option ℕ) (r s : List ℕ) (n k z : ℕ) → k ≡ prefix_len (run_goes_on Plain) r → s ≡ drop k r → n + upto (ends_plain flow spaces) r ≡ z → n + k + upto (ends_plain flow spaces) s ≡ z
run_after flow spaces r s n k z e back so_far = search (rules, run_over)
