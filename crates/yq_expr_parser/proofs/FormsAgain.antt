-- Forms one after the other are read again as the grammar says, if each of them is.
use Rattle.std.{proofs.Common.{◌≡◌, ℕ, true, List, [], ◌∷◌, Option, Some, None, refl, sym, ◌∙◌, subst}, specs.Prelude.codes}
use Rattle.std.{specs.Str.bytes_eq, proofs.lemmas.Slice.Eq.bytes_eq-Decides}
use Rattle.yq_semantics.{specs.Tokens.{Token, symbol}, specs.Grammar.{Production, HasSymbol, Are, Preceded, AreParted}}
use Rattle.yq_expr_parser.{specs.Lexing.{after, taken, as_step}, specs.Parse.{Parse, many, after_mark, parted_at}}
use Rattle.yq_expr_parser.proofs.Readers.{Lessens, many_next}

pub after_again : (s : List ℕ) (ts r : List Token) → HasSymbol s ts r → after s ts ≡ Some r
after_again s ts r h = let same : bytes_eq s s ≡ true = (bytes_eq-Decides s s).1 refl in rw (h, same) refl

-- the reading function gives the form, where what follows may follow it
abbrev pub Again : {A : Type 0} → Parse A → Production A → (List Token → Type 0) → Type 0
Again {A} at Is Follows = (x : A) (ts rest : List Token) → Is x ts rest → Follows rest → at ts ≡ Some (x, rest)

abbrev pub AgainMaybe : {A : Type 0} → (List Token → Option (Option (A × List Token))) → Production A → (List Token → Type 0) → Type 0
AgainMaybe {A} at Is Follows = (x : A) (ts rest : List Token) → Is x ts rest → Follows rest → at ts ≡ Some (Some (x, rest))

-- a form may follow another of its kind
abbrev Starts : {A : Type 0} → Production A → (List Token → Type 0) → Type 0
Starts {A} Is Follows = (x : A) (ts rest : List Token) → Is x ts rest → Follows ts

follows_are : {A : Type 0} (Is : Production A) (Follows : List Token → Type 0) → Starts Is Follows → (xs : List A) (ts rest : List Token) → Are Is xs ts rest → Follows rest → Follows ts
follows_are Is Follows starts [] ts rest are f = subst Follows (sym are) f
follows_are Is Follows starts (x ∷ xs) ts rest are f = starts x ts are.0 are.1

pub many_again : {A : Type 0} (next : List Token → Option (Option (A × List Token))) (Is : Production A) (Follows : List Token → Type 0) → Lessens next → AgainMaybe next Is Follows → Starts Is Follows
    → (xs : List A) (ts rest : List Token) → Are Is xs ts rest → Follows rest → next rest ≡ Some None → many next ts ≡ Some (xs, rest)
many_again next Is Follows less again starts [] ts rest are f none = rw are (many_next next less rest ∙ rw none refl)
many_again next Is Follows less again starts (x ∷ xs) ts rest are f none =
    let here : next ts ≡ Some (Some (x, are.0)) = again x ts are.0 are.1 (follows_are Is Follows starts xs are.0 rest are.2 f) in
    let others = many_again next Is Follows less again starts xs are.0 rest are.2 f none in
    many_next next less ts ∙ rw (here, others) refl

again_after : {A : Type 0} (s : List ℕ) (at : Parse A) (Is : Production A) (Follows : List Token → Type 0) → Again at Is Follows → AgainMaybe (after_mark s at) (Preceded s Is) Follows
again_after s at Is Follows again x ts rest h f = rw (after_again s ts h.0 h.1, again x h.0 rest h.2 f) refl

pub parted_again : {A : Type 0} (s : List ℕ) (at : Parse A) (Is : Production A) (Follows : List Token → Type 0) → Lessens (after_mark s at) → Again at Is Follows → ((r : List Token) → Follows (symbol s ∷ r))
    → (xs : List A) (ts rest : List Token) → AreParted s Is xs ts rest → Follows rest → after s rest ≡ None → parted_at s at ts ≡ Some (xs, rest)
parted_again s at Is Follows less again mark [] ts rest are f none = absurd are
parted_again {A} s at Is Follows less again mark (x ∷ xs) ts rest are f none =
    let starts : Starts (Preceded s Is) Follows = λ y us r is. subst Follows (sym is.1) (mark is.0) in
    let first_follows : Follows are.0 = follows_are (Preceded s Is) Follows starts xs are.0 rest are.2 f in
    let here : at ts ≡ Some (x, are.0) = again x ts are.0 are.1 first_follows in
    let stops : after_mark s at rest ≡ Some None = rw none refl in
    let others = many_again (after_mark s at) (Preceded s Is) Follows less (again_after s at Is Follows again) starts xs are.0 rest are.2 f stops in
    rw (here, others) refl

-- anything may follow
abbrev pub Anything : List Token → Type 0
Anything ts = Unit {0}

-- no path goes on
abbrev pub Ends : List Token → Type 0
Ends ts = (taken as_step ts ≡ None) × (after (codes "[") ts ≡ None) × (after (codes ".") ts ≡ None)
