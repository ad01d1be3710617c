-- Steps and paths of the grammar are read again.
use Rattle.std.{proofs.Common.{◌≡◌, ◌⊎◌, ℕ, false, List, [], ◌∷◌, Some, None, refl, inl, inr, rules}, specs.Prelude.codes}
use Rattle.yq_semantics.{specs.Program.PathStep, specs.Tokens.{Token, is_symbol, step, symbol}}
use Rattle.yq_semantics.specs.Grammar.{HasSymbol, IsBracket, IsNamed, IsFirst, IsNext, Are, IsPath}
use Rattle.yq_expr_parser.{specs.Lexing.{after, taken, as_step}, specs.Parse.{many, bracketed_at, bracket_at, step_at, path_at}}
use Rattle.yq_expr_parser.{proofs.LoopSteps.step_lessens, proofs.FormsAgain.{Again, AgainMaybe, many_again, Anything, Ends}}

bracket_again : (s : PathStep) (ts rest : List Token) → IsBracket s ts rest → bracket_at ts ≡ Some (Some (s, rest))
unfolding bracketed_at
bracket_again s ts rest h1 = search rules

unnamed : (s : PathStep) (ts rest : List Token) → IsBracket s ts rest → (taken as_step ts ≡ None) × (after (codes ".") ts ≡ None)
unnamed s ts rest h1 = search rules

named_again : (s : PathStep) (ts rest : List Token) → IsNamed s ts rest → step_at ts ≡ Some (Some (s, rest))
unfolding step_at
named_again s ts rest h1 = search rules

step_again : AgainMaybe step_at IsNext Anything
unfolding step_at
step_again s ts rest h f = search (rules, named_again, unnamed, bracket_again)

step_ends : (ts : List Token) → Ends ts → step_at ts ≡ Some None
unfolding step_at
step_ends ts h = rw (h.0, h.2, h.1) refl

steps_again : (steps : List PathStep) (ts rest : List Token) → Are IsNext steps ts rest → step_at rest ≡ Some None → many step_at ts ≡ Some (steps, rest)
steps_again steps ts rest are none = many_again step_at IsNext Anything step_lessens step_again (λ x us r is. tt) steps ts rest are tt none

-- a path begins with a named step or a dot
abbrev pub BeginsPath : List Token → Type 0
BeginsPath ts = ((k : List ℕ) × (r : List Token) × (ts ≡ step k ∷ r)) ⊎ ((r : List Token) × HasSymbol (codes ".") ts r)

first_begins : (s : PathStep) (ts rest : List Token) → IsFirst s ts rest → BeginsPath ts
first_begins s ts rest h1 = search rules

pub path_begins : (steps : List PathStep) (ts rest : List Token) → IsPath steps ts rest → BeginsPath ts
path_begins steps ts rest h = search rules

-- so it begins with no other mark
pub no_mark : (s : List ℕ) (ts : List Token) → is_symbol s (symbol (codes ".")) ≡ false → BeginsPath ts → after s ts ≡ None
no_mark s ts other h = search rules

pub path_again : Again path_at IsPath Ends
unfolding path_at step_at
path_again [] ts rest h f =
    let closed = no_mark (codes "[") ts refl (inr (rest, h)) in
    let none : step_at ts ≡ Some None = rw h (rw f.1 refl) in
    let read = steps_again [] ts ts refl none in
    rw (closed, read) (rw h refl)
path_again (s ∷ steps) ts rest h f =
    let closed = no_mark (codes "[") ts refl (first_begins s ts h.0 h.1) in
    let read = steps_again (s ∷ steps) ts rest (h.0, go h.0 h.1, h.2) (step_ends rest f) in
    rw (closed, read) refl
  where
    go : (mid : List Token) → IsFirst s ts mid → IsNext s ts mid
    go mid (inl k) = inl k
    go mid (inr k) = inr (inr k)
