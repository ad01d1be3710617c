-- Elements of lists that are each so, and what judgements give that are joined.
use Rattle.std.{proofs.Common.{◌≡◌, ℕ, List, [], ◌∷◌, ◌++◌, reverse, sym, subst, rules}, proofs.lemmas.List.reverse-append}
use Rattle.yq_semantics.{specs.Changes.Changed, specs.Judgement.{Judgement, gives, and_then}, specs.Operations.Operation}
use Rattle.yq_semantics.{specs.Places.for_each, specs.Plans.{change_ops, ops_of}, proofs.JudgementLaws.{then_gives, gives_same}}

-- each element is so
abbrev pub Each : {X : Type 0} → (X → Type 0) → List X → Type 0
Each P [] = Unit {0}
Each P (x ∷ xs) = P x × Each P xs

pub each_join : {X : Type 0} (P : X → Type 0) (xs ys : List X) → Each P xs → Each P ys → Each P (xs ++ ys)
each_join P [] ys h k = k
each_join P (x ∷ xs) ys h k = (h.0, each_join P xs ys h.1 k)

pub each_weaker : {X : Type 0} (P Q : X → Type 0) → ((x : X) → P x → Q x) → (xs : List X) → Each P xs → Each Q xs
each_weaker P Q so [] h = tt
each_weaker P Q so (x ∷ xs) h = (so x h.0, each_weaker P Q so xs h.1)

pub reverse-cons : {X : Type 0} (x : X) (xs : List X) → reverse (x ∷ xs) ≡ reverse xs ++ x ∷ []
reverse-cons x xs = reverse-append (x ∷ []) xs

pub each_reverse : {X : Type 0} (P : X → Type 0) (xs : List X) → Each P xs → Each P (reverse xs)
each_reverse P [] h = tt
each_reverse P (x ∷ xs) h = subst (Each P) (sym (reverse-cons x xs)) (each_join P (reverse xs) (x ∷ []) (each_reverse P xs h.1) (h.0, tt))

-- the operations of changes are so, where those of each one are
pub each_op : (doc : ℕ) (P : Changed → Type 0) (Q : Operation → Type 0) → ((c : Changed) → P c → Each Q (change_ops doc c)) → (cs : List Changed) → Each P cs → Each Q (ops_of doc cs)
each_op doc P Q so [] h = tt
each_op doc P Q so (c ∷ cs) h = each_join Q (change_ops doc c) (ops_of doc cs) (so c h.0) (each_op doc P Q so cs h.1)

-- what two judgements give, one after the other
pub joined_gives : {X : Type 0} (j k : Judgement (List X)) (xs : List X) → and_then (λ first. and_then (λ others. gives (first ++ others)) k) j ≡ gives xs →
    (first : List X) × (others : List X) × (j ≡ gives first) × (k ≡ gives others) × (first ++ others ≡ xs)
joined_gives {X} j k xs h = search (rules, then_gives, gives_same)

-- all that is given for elements is so, where what is given for each one is
pub each_given : {A X : Type 0} (R : List A → Type 0) (Q : X → Type 0) (f : A → Judgement (List X)) → ((a : A) (more : List A) → R (a ∷ more) → ((xs : List X) → f a ≡ gives xs → Each Q xs) × R more) →
    (all : List A) (xs : List X) → R all → for_each f all ≡ gives xs → Each Q xs
each_given R Q f so [] xs r h = subst (Each Q) (gives_same h) tt
each_given R Q f so (a ∷ more) xs r h =
    let w = joined_gives (f a) (for_each f more) xs h in
    let s = so a more r in
    subst (Each Q) w.4 (each_join Q w.0 w.1 (s.0 w.0 w.2) (each_given R Q f so more w.1 s.1 w.3))
