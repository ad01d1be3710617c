-- Counts of failures, one answer more.
use Rattle.std.proofs.Common.{rules, ◌≡◌, ℕ, ◌+◌, ◌-◌, ◌^◌, ◌<◌, min, Bool, true, false, if◌then◌else◌, List, [], ◌∷◌, ◌++◌, Result}
use Rattle.std.proofs.Common.{MatchResult, IfErr, ◌∙◌, subst, refl, arith}
use Rattle.yq_commands.specs.declared.answer.Answer.{Answer}
use Rattle.yq_commands.specs.Lists.{IsAnswer, reports_failure, reports_output, count_passing, failures_in, output_failures_in}
use Rattle.yq_history.specs.Report.{Report}
use Rattle.yq_fault.{specs.declared.fault.Fault.Fault, specs.Faults.is_output}
use Rattle.yq_store.specs.Count.{failures_after, count_plus_one}

-- the count of the answers that report something, one answer more
pub passing_more : (passes : Answer → Bool) (rs : List Answer) (a : Answer) → count_passing passes (rs ++ a ∷ []) ≡ count_passing passes rs + (if passes a then 1 else 0)
passing_more passes [] a = elim (passes a) as (λ b. (if b then 0 + 1 else 0) ≡ 0 + (if b then 1 else 0)) [ true ↦ refl | false ↦ refl ]
passing_more passes (b ∷ rs) a =
    elim (passes b) as (λ x. (if x then count_passing passes (rs ++ a ∷ []) + 1 else count_passing passes (rs ++ a ∷ [])) ≡ (if x then count_passing passes rs + 1 else count_passing passes rs) + (if passes a then 1 else 0)) [
      | true ↦ let more = passing_more passes rs a in omega (arith, more)
      | false ↦ passing_more passes rs a
    ]

-- no answer reports anything
pub no_answers : (passes : Answer → Bool) (rs : List Answer) (old : ℕ) → [] ≡ rs → old < 2 ^ 64 → old ≡ min (old + count_passing passes rs) (2 ^ 64 - 1)
no_answers passes rs old none small = subst (λ xs. old ≡ min (old + count_passing passes xs) (2 ^ 64 - 1)) none (omega (arith, small))

-- a count of failures is that of the answers that report them
sum_more : (passes : Answer → Bool) (rs : List Answer) (a : Answer) (old n m : ℕ) →
    n ≡ min (old + count_passing passes rs) (2 ^ 64 - 1) → m ≡ (if passes a then count_plus_one n else n) → m ≡ min (old + count_passing passes (rs ++ a ∷ [])) (2 ^ 64 - 1)
sum_more passes rs a old n m before after = search (rules, passing_more)

counted_passing : {T : Type 0} (r : Result T Fault) (a : Answer) (s : Report) (n : ℕ) → IsAnswer r a s → failures_after r n ≡ (if reports_failure a then count_plus_one n else n)
counted_passing r a s n is = search rules

-- the store's count, one answer more
pub count_more : {T : Type 0} (r : Result T Fault) (rs : List Answer) (a : Answer) (s : Report) (old n m : ℕ) →
    IsAnswer r a s → n ≡ min (old + failures_in rs) (2 ^ 64 - 1) → m ≡ failures_after r n → m ≡ min (old + failures_in (rs ++ a ∷ [])) (2 ^ 64 - 1)
count_more r rs a s old n m is before after = sum_more reports_failure rs a old n m before (after ∙ counted_passing r a s n is)

-- the output's count after an answer
pub put_passing : {T : Type 0} (r : Result T Fault) (a : Answer) (s : Report) (n m : ℕ) →
    IsAnswer r a s → IfErr r (λ x. is_output x ≡ false) → MatchResult r (λ _. m ≡ (if reports_output a then count_plus_one n else n)) (λ _. m ≡ n) → m ≡ (if reports_output a then count_plus_one n else n)
put_passing r a s n m is no_output after = search rules

-- the output's
pub put_more : (rs : List Answer) (a : Answer) (old n m : ℕ) →
    n ≡ min (old + output_failures_in rs) (2 ^ 64 - 1) → m ≡ (if reports_output a then count_plus_one n else n) → m ≡ min (old + output_failures_in (rs ++ a ∷ [])) (2 ^ 64 - 1)
put_more rs a old n m before after = sum_more reports_output rs a old n m before after
