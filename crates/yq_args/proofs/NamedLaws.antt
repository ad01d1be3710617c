-- A text that names the program, cut at a `%`.
use Rattle.std.proofs.Common.{ℕ, suc, ◌<◌, ◌≡◌, ◌≢◌, List, [], ◌∷◌, ◌++◌, length, get_or, ap, sym, ◌∙◌, refl, arith, rules}
use Rattle.std.proofs.lemmas.List.{append-nil, append_assoc}
use Rattle.yq_args.specs.Named.{named}

-- a byte that is no `%` stays
named_other : (name : List ℕ) (b : ℕ) (bs : List ℕ) → b ≢ 37 → named name (b ∷ bs) ≡ b ∷ named name bs
named_other name b bs other = search rules

-- a text without `%` stays, and so does one before others
named_front : (name xs ys : List ℕ) → ((i : ℕ) → i < length xs → get_or xs i 0 ≢ 37) → named name (xs ++ ys) ≡ xs ++ named name ys
named_front name [] ys none = refl
named_front name (b ∷ xs) ys none =
    named_other name b (xs ++ ys) (none 0 (omega arith)) ∙ ap (λ l. b ∷ l) (named_front name xs ys (λ i less. none (suc i) (omega (arith, less))))

-- of what is left to add, a part without `%` and the name are added
pub marks_more : (name text now rest before after : List ℕ) → rest ≡ before ++ 37 ∷ after → ((i : ℕ) → i < length before → get_or before i 0 ≢ 37) →
    now ≡ (text ++ before) ++ name → now ++ named name after ≡ text ++ named name rest
marks_more name text now rest before after is none pushed = search (rules, append_assoc, named_front)

-- the last part is added
pub marks_done : (name text rest : List ℕ) → ((i : ℕ) → i < length rest → get_or rest i 0 ≢ 37) → text ++ rest ≡ text ++ named name rest
marks_done name text rest none =
    ap (λ l. text ++ l) (sym (ap (named name) (sym (append-nil rest)) ∙ named_front name rest [] none ∙ append-nil rest))
