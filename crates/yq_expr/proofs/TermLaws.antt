-- Terms that are the same, one after the other.
use Rattle.std.proofs.Common.{◌≡◌, ℕ, suc, ◌+◌, ◌-◌, ◌<◌, ◌≤◌, List, [], ◌∷◌, ◌++◌, length, map, drop, take, get_or, replicate, sym, ap}
use Rattle.std.{proofs.Common.{◌∙◌, subst, arith, add-one}, proofs.lemmas.List.{length-drop, map-append, take-append-drop, take_rest}}
use Rattle.yq_core.specs.Tree.{Node}
use Rattle.yq_eval.proofs.EachLaws.{fails_then}
use Rattle.yq_planner.{specs.Repeated.sum_times, proofs.SumLaws.same_terms}
use Rattle.yq_semantics.{specs.Judgement.{ExprError, Judgement, MatchFails, and_then, gives}, specs.Places.FoundPlace, specs.Program.Term}
use Rattle.yq_semantics.specs.RightValues.{sum_from, term_value}

module _ {X : Type 0} (view : X → Term) (doc : ℕ) (p : FoundPlace) where
  -- the first ones of terms
  split : (t : Term) (n : ℕ) (xs : List X) → map view (take n xs) ≡ replicate n t → map view xs ≡ replicate n t ++ map view (drop n xs)
  split t n xs h = ap (map view) (sym (take-append-drop n xs)) ∙ (map-append view (take n xs) (drop n xs) ∙ ap (λ ts. ts ++ map view (drop n xs)) h)

  -- a term and those after it, of which some are the same
  first_terms : (xs : List X) (x : X) (after : List X) (n : ℕ) (total : Node) → 0 < length xs → x ≡ get_or xs 0 x → after ≡ take (length xs - 1) (drop 1 xs) → map view (take n after) ≡ replicate n (view x) →
      sum_from doc p total (map view xs) ≡ and_then (λ w. sum_from doc p w (map view (drop n after))) (and_then (λ v. sum_times (n + 1) v total) (term_value doc p (view x)))
  first_terms [] x after n total some is rest same = absurd (omega (arith, some))
  first_terms (y ∷ ys) x after n total some is rest same =
      let others : after ≡ ys = rest ∙ take_rest (y ∷ ys) 1 in
      let all : map view (y ∷ ys) ≡ replicate (suc n) (view x) ++ map view (drop n after) =
      ap (λ (z : X). view z ∷ map view ys) (sym is) ∙ ap (λ ts. view x ∷ ts) (ap (map view) (sym others) ∙ split (view x) n after same) in
      ap (sum_from doc p total) all
      ∙ (same_terms doc p (view x) (suc n) (map view (drop n after)) total (omega arith)
      ∙ ap (λ (m : ℕ). and_then (λ w. sum_from doc p w (map view (drop n after))) (and_then (λ v. sum_times m v total) (term_value doc p (view x)))) (sym (add-one n)))

  -- the value after them
  pub terms_more : (xs : List X) (x : X) (after : List X) (n : ℕ) (total next : Node) (all : Judgement Node) → 0 < length xs → x ≡ get_or xs 0 x →
      after ≡ take (length xs - 1) (drop 1 xs) → map view (take n after) ≡ replicate n (view x) →
      and_then (λ v. sum_times (n + 1) v total) (term_value doc p (view x)) ≡ gives next → sum_from doc p total (map view xs) ≡ all → sum_from doc p next (map view (drop n after)) ≡ all
  terms_more xs x after n total next all some is rest same h so_far =
      sym (ap (and_then (λ w. sum_from doc p w (map view (drop n after)))) h) ∙ (sym (first_terms xs x after n total some is rest same) ∙ so_far)

  -- or what refuses one of them
  pub terms_fail : (xs : List X) (x : X) (after : List X) (n : ℕ) (total : Node) (all : Judgement Node) (e : ExprError) → 0 < length xs →
      x ≡ get_or xs 0 x → after ≡ take (length xs - 1) (drop 1 xs) → map view (take n after) ≡ replicate n (view x) →
      MatchFails e (and_then (λ v. sum_times (n + 1) v total) (term_value doc p (view x))) → sum_from doc p total (map view xs) ≡ all → MatchFails e all
  terms_fail xs x after n total all e some is rest same h so_far =
      subst (MatchFails e) (sym (first_terms xs x after n total some is rest same) ∙ so_far) (fails_then (λ w. sum_from doc p w (map view (drop n after))) _ e h)

  -- none is left
  pub terms_done : (xs : List X) (total : Node) (all : Judgement Node) → length xs < 1 → sum_from doc p total (map view xs) ≡ all → all ≡ gives total
  terms_done [] total all none so_far = sym so_far
  terms_done (x ∷ xs) total all none so_far = absurd (omega (arith, none))

-- those after the first one, and after some more, are fewer
pub fewer : {X : Type 0} (xs : List X) (n m : ℕ) → length xs ≤ m → length (take (length (take (length xs - 1) (drop 1 xs)) - n) (drop n (take (length xs - 1) (drop 1 xs)))) ≤ m
fewer xs n m h =
    let after = take (length xs - 1) (drop 1 xs) in
    let one : length after ≡ length (drop 1 xs) = ap length (take_rest xs 1) in
    let others : length (take (length after - n) (drop n after)) ≡ length (drop n after) = ap length (take_rest after n) in
    omega (arith, h, one, others, length-drop 1 xs, length-drop n after)
