-- Bytes between quotes at which no scalar is closed.
use Rattle.std.proofs.lemmas.Grind.{common_steps}
use Rattle.std.proofs.Common.{◌≡◌, ℕ, suc, ◌+◌, ◌<◌, ◌≤◌, true, false, length, get_or, Option, None, Some, List, [], ◌∷◌, drop, refl, sym}
use Rattle.std.{proofs.Common.{ap, ◌∙◌, inl, inr, subst, arith, rules}, proofs.lemmas.Bool.{and_right, cases_Bool, false≢true}}
use Rattle.std.specs.List.{prefix_len}
use Rattle.yq_core.{specs.Answers.more, specs.QuotedReading.{escape_len, closes, quoted_len}, specs.Runs.run_goes_on}
use Rattle.yq_core.{specs.declared.runs.Run.TheVariants.Quoted, proofs.Bools.{more_more, more_none, more_zero, none_of}}
use Rattle.yq_core.proofs.Across.{rest_of}

quoted_over : (q : ℕ) (t : List ℕ) → quoted_len q 0 t ≡ more (prefix_len (run_goes_on (Quoted q)) t) (quoted_len q 0 (drop (prefix_len (run_goes_on (Quoted q)) t) t))
unfolding quoted_len
quoted_over q [] = sym (more_none _)
quoted_over q (b ∷ bs) = elim (cases_Bool (run_goes_on (Quoted q) b)) [
  | inl i ↦
      let n = prefix_len (run_goes_on (Quoted q)) bs in
      let next : suc n ≡ prefix_len (run_goes_on (Quoted q)) (b ∷ bs) = rw i (omega arith) in
      let one : 1 + n ≡ suc n = omega arith in
      subst (λ (k : ℕ). quoted_len q 0 (b ∷ bs) ≡ more k (quoted_len q 0 (drop k (b ∷ bs)))) next
      ((search (rules, none_of, and_right)) ∙ ap (more 1) (quoted_over q bs) ∙ sym (more_more 1 n _) ∙ ap (λ k. more k (quoted_len q 0 (drop n bs))) one)
  | inr i ↦
      let none : 0 ≡ prefix_len (run_goes_on (Quoted q)) (b ∷ bs) = rw i refl in
      subst (λ (k : ℕ). quoted_len q 0 (b ∷ bs) ≡ more k (quoted_len q 0 (drop k (b ∷ bs)))) none (sym (more_none _))
]

pub quoted_after : (q : ℕ) (r s : List ℕ) (n k : ℕ) {z : Option ℕ} → k ≡ prefix_len (run_goes_on (Quoted q)) r → s ≡ drop k r → more n (quoted_len q 0 r) ≡ z → more (n + k) (quoted_len q 0 s) ≡ z
quoted_after q r s n k e back so_far = search (rules, more_more, quoted_over)

-- where the scalar is closed after a run, where the text ends, and where an escape is none
pub closed_here : (q n : ℕ) (t : List ℕ) {z : Option ℕ} → closes q t ≡ true → more n (quoted_len q 0 t) ≡ z → Some n ≡ z
unfolding quoted_len
closed_here q n t h1 h2 = search (rules, false≢true, more_zero)

pub unclosed : (q n : ℕ) (t : List ℕ) {z : Option ℕ} → length t < 1 → more n (quoted_len q 0 t) ≡ z → None ≡ z
unfolding quoted_len
unclosed q n [] h e = e
unclosed q n (b ∷ bs) h e = absurd (omega arith)

pub no_item : (q n : ℕ) (t : List ℕ) {z : Option ℕ} → 1 ≤ length t → closes q t ≡ false → escape_len q (get_or t 0 0) (rest_of t) ≡ None → more n (quoted_len q 0 t) ≡ z → None ≡ z
unfolding quoted_len
no_item q n t le opened h e = grind (arith, common_steps)
