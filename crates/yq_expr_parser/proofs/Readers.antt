-- Steps of reading functions, forms one after the other, and when both tell the same.
use Rattle.std.proofs.Common.{◌≡◌, ◌⊎◌, ℕ, zero, suc, ◌+◌, ◌<◌, ◌≤◌, true, List, [], ◌∷◌, length, Option, Some, None, refl, ap, ◌∙◌, subst}
use Rattle.std.{proofs.Common.{inl, inr, arith, rules}, proofs.lemmas.Option.{cond_some, same_Some}, specs.Prelude.option_map}
use Rattle.yq_core.{specs.Answers.◌>>=◌, proofs.Bools.bind_some}
use Rattle.yq_semantics.specs.Tokens.{Token, is_symbol, string, number, step, symbol}
use Rattle.yq_semantics.specs.Grammar.{Production, HasSymbol, Are, Preceded, AreParted, Between}
use Rattle.yq_expr_parser.specs.Lexing.{after, taken, as_number, as_string, as_step}
use Rattle.yq_expr_parser.specs.Parse.{Parse, either, with_front, many_in, many, after_mark, parted_at, closed_at}

pub either_cases : {A B : Type 0} {f : A → B} {y z : B} (o : Option A) → either o f y ≡ z → ((x : A) × (o ≡ Some x) × (f x ≡ z)) ⊎ ((o ≡ None) × (y ≡ z))
either_cases o h = search rules

-- the front of two pairs
pub first : {A B : Type 0} {x y : A × B} → Some x ≡ Some y → x.0 ≡ y.0
first h = ap (λ p. p.0) (same_Some _ _ h)

pub second : {A B : Type 0} {x y : A × B} → Some x ≡ Some y → x.1 ≡ y.1
second h = ap (λ p. p.1) (same_Some _ _ h)

symbol_is : (s : List ℕ) (t : Token) → is_symbol s t ≡ true → t ≡ symbol s
symbol_is s t h1 = search rules

pub after_takes : (s : List ℕ) (ts r : List Token) → after s ts ≡ Some r → HasSymbol s ts r
after_takes s ts r h1 = search (rules, cond_some, symbol_is)

as_string_is : (t : Token) (c : List ℕ) → as_string t ≡ Some c → t ≡ string c
as_string_is t c h1 = search rules

as_number_is : (t : Token) (c : List ℕ) → as_number t ≡ Some c → t ≡ number c
as_number_is t c h1 = search rules

as_step_is : (t : Token) (c : List ℕ) → as_step t ≡ Some c → t ≡ step c
as_step_is t c h1 = search rules

taken_is : (view : Token → Option (List ℕ)) (make : List ℕ → Token) → ((t : Token) (c : List ℕ) → view t ≡ Some c → t ≡ make c)
    → (ts : List Token) (x : List ℕ × List Token) → taken view ts ≡ Some x → ts ≡ make x.0 ∷ x.1
taken_is view make is [] x h = cc
taken_is view make is (t ∷ ts) x h = go (view t) refl h
  where
    go : (o : Option (List ℕ)) → view t ≡ o → option_map {U = List ℕ × List Token} (λ a. (a, ts)) o ≡ Some x → t ∷ ts ≡ make x.0 ∷ x.1
    go None e k = cc
    go (Some c) e k =
        let is_make : t ≡ make c = is t c e in
        let a : c ≡ x.0 = first k in
        let b : ts ≡ x.1 = second k in
        cc

pub string_takes : (ts : List Token) (x : List ℕ × List Token) → taken as_string ts ≡ Some x → ts ≡ string x.0 ∷ x.1
string_takes = taken_is as_string string as_string_is

pub number_takes : (ts : List Token) (x : List ℕ × List Token) → taken as_number ts ≡ Some x → ts ≡ number x.0 ∷ x.1
number_takes = taken_is as_number number as_number_is

pub named_takes : (ts : List Token) (x : List ℕ × List Token) → taken as_step ts ≡ Some x → ts ≡ step x.0 ∷ x.1
named_takes = taken_is as_step step as_step_is

-- what a reading function gives is the form
abbrev pub Takes : {A : Type 0} → Parse A → Production A → Type 0
Takes {A} at Is = (ts : List Token) (x : A × List Token) → at ts ≡ Some x → Is x.0 ts x.1

-- the same of one that may find no form
abbrev pub TakesMaybe : {A : Type 0} → (List Token → Option (Option (A × List Token))) → Production A → Type 0
TakesMaybe {A} at Is = (ts : List Token) (x : A × List Token) → at ts ≡ Some (Some x) → Is x.0 ts x.1

-- a form leaves fewer tokens
abbrev pub Shortens : {A : Type 0} → Production A → Type 0
Shortens {A} Is = (x : A) (ts rest : List Token) → Is x ts rest → length rest < length ts

-- a form at a pair that is the same
pub same_form : {A : Type 0} (Is : Production A) (ts : List Token) {x y : A × List Token} → Some x ≡ Some y → Is x.0 ts x.1 → Is y.0 ts y.1
same_form {A} Is ts h is = subst (λ (p : A × List Token). Is p.0 ts p.1) (same_Some _ _ h) is

with_front_some : {A : Type 0} (a : A) (o : Option (List A × List Token)) (y : List A × List Token) → with_front a o ≡ Some y
    → (x : List A × List Token) × (o ≡ Some x) × (◌≡◌ {A = Option (List A × List Token)} (Some (a ∷ x.0, x.1)) (Some y))
with_front_some a o y h = search rules

many_in_takes : {A : Type 0} (next : List Token → Option (Option (A × List Token))) (Is : Production A) → TakesMaybe next Is → (n : ℕ) → Takes (many_in next n) (Are Is)
unfolding many_in
many_in_takes next Is takes zero ts x h = cc
many_in_takes next Is takes (suc n) ts x h =
    let o = bind_some (next ts) h in
    elim (either_cases o.0 o.2) [
      | inl some ↦
          let w = with_front_some some.0.0 (many_in next n some.0.1) x some.2 in
          let first_is : Is some.0.0 ts some.0.1 = takes ts some.0 (o.1 ∙ ap Some some.1) in
          same_form (Are Is) ts w.2 (some.0.1, first_is, many_in_takes next Is takes n some.0.1 w.0 w.1)
      | inr none ↦ same_form (Are Is) ts none.1 refl
    ]

pub many_takes : {A : Type 0} (next : List Token → Option (Option (A × List Token))) (Is : Production A) → TakesMaybe next Is → Takes (many next) (Are Is)
unfolding many
many_takes next Is takes ts = many_in_takes next Is takes (1 + length ts) ts

pub preceded_takes : {A : Type 0} (s : List ℕ) (at : Parse A) (Is : Production A) → Takes at Is → TakesMaybe (after_mark s at) (Preceded s Is)
preceded_takes s at Is takes ts x h = search (rules, either_cases, bind_some, after_takes, same_form, same_Some)

pub parted_takes : {A : Type 0} (s : List ℕ) (at : Parse A) (Is : Production A) → Takes at Is → Takes (parted_at s at) (AreParted s Is)
parted_takes s at Is takes ts x h =
    let y = bind_some (at ts) h in
    let w = with_front_some y.0.0 (many (after_mark s at) y.0.1) x y.2 in
    let others = many_takes (after_mark s at) (Preceded s Is) (preceded_takes s at Is takes) y.0.1 w.0 w.1 in
    same_form (AreParted s Is) ts w.2 (y.0.1, takes ts y.0 y.1, others)

-- a form and then the mark
abbrev pub Closed : {A : Type 0} → List ℕ → Production A → Production A
Closed s Is x ts rest = (end : List Token) × Is x ts end × HasSymbol s end rest

pub closed_takes : {A : Type 0} (s : List ℕ) (at : Parse A) (Is : Production A) → Takes at Is → Takes (closed_at s at) (Closed s Is)
closed_takes s at Is takes ts x h = search (rules, bind_some, same_form, after_takes)

-- forms after the first, each a step further
pub many_shortens : {A : Type 0} (Is : Production A) → Shortens Is → (xs : List A) (ts rest : List Token) → Are Is xs ts rest → length rest ≤ length ts
many_shortens Is less [] ts rest h = omega (arith, ap length h)
many_shortens Is less (x ∷ xs) ts rest h =
    let one = less x ts h.0 h.1 in
    let others = many_shortens Is less xs h.0 rest h.2 in
    omega arith

pub preceded_shortens : {A : Type 0} (s : List ℕ) (Is : Production A) → Shortens Is → Shortens (Preceded s Is)
preceded_shortens s Is less x ts rest h = search rules

pub parted_shortens : {A : Type 0} (s : List ℕ) (Is : Production A) → Shortens Is → Shortens (AreParted s Is)
parted_shortens s Is h1 = search (rules, many_shortens, preceded_shortens)

pub between_shortens : {A : Type 0} (opening closing : List ℕ) (Is : Production A) → Shortens Is → Shortens (Between opening closing Is)
between_shortens opening closing Is less x ts rest h = search rules

-- one turn of forms one after the other
either_same : {A B : Type 0} (o : Option A) (f g : A → B) (y : B) → ((x : A) → o ≡ Some x → f x ≡ g x) → either o f y ≡ either o g y
either_same o f g y h = search rules

bind_same : {A B : Type 0} (o : Option A) (f g : A → Option B) → ((x : A) → o ≡ Some x → f x ≡ g x) → (o >>= f) ≡ (o >>= g)
bind_same o f g h = search rules

-- what follows a form has fewer tokens
abbrev pub Lessens : {A : Type 0} → (List Token → Option (Option (A × List Token))) → Type 0
Lessens {A} next = (ts : List Token) (x : A × List Token) → next ts ≡ Some (Some x) → length x.1 < length ts

enough : {A : Type 0} (next : List Token → Option (Option (A × List Token))) → Lessens next → (n m : ℕ) (ts : List Token) → length ts < n → length ts < m
    → many_in next n ts ≡ many_in next m ts
unfolding many_in
enough next less (suc n) (suc m) ts h k =
    bind_same (next ts) _ _ λ o is. either_same o _ _ _ λ x some.
    let lt = less ts x (is ∙ ap Some some) in
    ap (with_front x.0) (enough next less n m x.1 (omega arith) (omega arith))
enough next less _ _ ts h k = absurd (omega arith)

pub many_next : {A : Type 0} (next : List Token → Option (Option (A × List Token))) → Lessens next → (ts : List Token)
    → many next ts ≡ (next ts >>= λ o. either o (λ x. with_front x.0 (many next x.1)) (Some ([], ts)))
unfolding many many_in
many_next next less ts = search (rules, bind_same, either_same, enough)
