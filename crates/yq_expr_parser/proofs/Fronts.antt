-- What the token in front is taken as, of what splitting it off gives.
use Rattle.std.proofs.Common.{rules, ◌≡◌, ℕ, List, ◌∷◌, true, false, Option, Some, None, is_some, option_map, refl, sym, ap, ◌∙◌}
use Rattle.yq_semantics.specs.Tokens.{Token, is_symbol}
use Rattle.yq_expr_parser.{specs.Lexing.{next_token, ahead, tokens, after, taken}, proofs.Lexing.{tokens_next, tokens_some}}

-- a token is in front
pub taken_front : {A : Type 0} (view : Token → Option A) (t : List ℕ) (x : Token × List ℕ) (o : Option A) → Some x ≡ next_token t → o ≡ view x.0
    → option_map {U = A × List Token} (λ a. (a, tokens x.1)) o ≡ taken view (tokens t)
taken_front {A} view t x o at is =
    ap (option_map {U = A × List Token} (λ a. (a, tokens x.1))) is ∙ ap (taken view) (sym (tokens_some t x at))

-- no token is left
pub taken_end : {A : Type 0} (view : Token → Option A) (t : List ℕ) → None ≡ next_token t → None ≡ taken view (tokens t)
taken_end view t at = ap (λ o. taken view (ahead tokens o)) at ∙ ap (taken view) (sym (tokens_next t))

is_mapped : {A B : Type 0} (f : A → B) (o : Option A) → is_some o ≡ is_some (option_map f o)
is_mapped f o = search rules

pub is_taken : {A : Type 0} (view : Token → Option A) (t : List ℕ) (x : Token × List ℕ) → Some x ≡ next_token t → is_some (view x.0) ≡ is_some (taken view (tokens t))
is_taken {A} view t x at =
    is_mapped {B = A × List Token} (λ (a : A). (a, tokens x.1)) (view x.0) ∙ ap (λ (ts : List Token). is_some (taken view ts)) (sym (tokens_some t x at))

after_token : (s : List ℕ) (t : Token) (ts : List Token) → true ≡ is_symbol s t → Some ts ≡ after s (t ∷ ts)
after_token s t ts is = rw (← is) refl

after_none : (s : List ℕ) (t : Token) (ts : List Token) → false ≡ is_symbol s t → None ≡ after s (t ∷ ts)
after_none s t ts is = rw (← is) refl

-- the symbol is in front
pub after_front : (s t : List ℕ) (x : Token × List ℕ) → Some x ≡ next_token t → true ≡ is_symbol s x.0 → Some (tokens x.1) ≡ after s (tokens t)
after_front s t x at is = after_token s x.0 (tokens x.1) is ∙ ap (after s) (sym (tokens_some t x at))

-- another token is in front
pub after_other : (s t : List ℕ) (x : Token × List ℕ) → Some x ≡ next_token t → false ≡ is_symbol s x.0 → None ≡ after s (tokens t)
after_other s t x at is = after_none s x.0 (tokens x.1) is ∙ ap (after s) (sym (tokens_some t x at))

pub after_end : (s t : List ℕ) → None ≡ next_token t → None ≡ after s (tokens t)
after_end s t at = ap (λ o. after s (ahead tokens o)) at ∙ ap (after s) (sym (tokens_next t))
