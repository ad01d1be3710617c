-- What comes of each of several, one after the other, and of several that act in turn.
use Rattle.std.proofs.Common.{rules, ◌≡◌, ℕ, suc, ◌+◌, ◌<◌, List, [], ◌∷◌, ◌++◌, length, map, drop, get_or, Result, Err, sym, ap, ◌∙◌}
use Rattle.std.{proofs.Common.{subst, append_assoc, add-one, drop-cons, ◌≤◌, append-nil}, proofs.lemmas.List.drop_all}
use Rattle.yq_semantics.{specs.Judgement.{MatchFails, Judgement, Judges, and_then, gives, ExprError}, specs.Places.{for_each, chained}}
use Rattle.yq_eval.specs.PlaceView.{put_after}

-- an error on the first of two steps is one of both
pub fails_then : {Y W : Type 0} (f : Y → Judgement W) (j : Judgement Y) (e : ExprError) → MatchFails e j → MatchFails e (and_then f j)
fails_then f j e h = search rules

-- the answer is that error
pub failed : {X Y : Type 0} (view : X → Y) (r : Result X ExprError) (e : ExprError) (j : Judgement Y) → r ≡ Err e → MatchFails e j → Judges view r j
failed view r e j is h = subst (λ q. Judges view q j) (sym is) h

-- one of several, as a loop reaches it, before those after it
pub reached : {X Y : Type 0} (v : X → Y) (xs : List X) (i : ℕ) (x : X) → i < length xs → x ≡ get_or xs i x → map v (drop i xs) ≡ v x ∷ map v (drop (i + 1) xs)
reached v xs i x within is = ap (map v) (drop-cons xs i x within) ∙ (ap (λ y. v y ∷ map v (drop (suc i) xs)) (sym is) ∙ ap (λ (n : ℕ). v x ∷ map v (drop n xs)) (sym (add-one i)))

-- what comes of the first ones and of the others, after what is there
pub put_both : {B : Type 0} (before : List B) (j k : Judgement (List B)) → put_after before (and_then (λ first. and_then (λ others. gives (first ++ others)) k) j) ≡ and_then (λ ys. put_after ys k) (put_after before j)
put_both before j k = search (rules, append_assoc)

-- what comes of one and then of the others, after what is there
pub put_first : {V A : Type 0} (g : V → A) (before : List A) (j : Judgement V) (k : Judgement (List A)) →
    put_after before (and_then (λ v. and_then (λ others. gives (g v ∷ others)) k) j) ≡ and_then (λ v. put_after (before ++ g v ∷ []) k) j
put_first g before j k = search (rules, append_assoc)

-- what comes of one and of the others, after what is there
put_each : {A B : Type 0} (f : A → Judgement (List B)) (before : List B) (x : A) (xs : List A) → put_after before (for_each f (x ∷ xs)) ≡ and_then (λ ys. put_after ys (for_each f xs)) (put_after before (f x))
put_each f before x xs = put_both before (f x) (for_each f xs)

-- one more of several
pub each_more : {X A B : Type 0} (v : X → A) (f : A → Judgement (List B)) (before after : List B) (xs : List X) (i : ℕ) (x : X) (all : Judgement (List B)) →
    i < length xs → x ≡ get_or xs i x → put_after before (f (v x)) ≡ gives after → put_after before (for_each f (map v (drop i xs))) ≡ all →
    put_after after (for_each f (map v (drop (i + 1) xs))) ≡ all
each_more v f before after xs i x all within is h so_far = search (rules, put_each, reached)

-- an error on one of several is one of all
pub each_fails : {X A B : Type 0} (v : X → A) (f : A → Judgement (List B)) (before : List B) (xs : List X) (i : ℕ) (x : X) (all : Judgement (List B)) (e : ExprError) →
    i < length xs → x ≡ get_or xs i x → MatchFails e (put_after before (f (v x))) → put_after before (for_each f (map v (drop i xs))) ≡ all → MatchFails e all
each_fails v f before xs i x all e within at h so_far = search (rules, put_each, reached, fails_then)

-- one more in turn
pub chain_more : {X S A : Type 0} (v : X → S) (f : S → A → Judgement A) (xs : List X) (i : ℕ) (x : X) (a b : A) (all : Judgement A) →
    i < length xs → x ≡ get_or xs i x → f (v x) a ≡ gives b → chained f (map v (drop i xs)) a ≡ all → chained f (map v (drop (i + 1) xs)) b ≡ all
chain_more v f xs i x a b all within is h so_far = search (rules, reached)

-- an error in turn is one of all
pub chain_fails : {X S A : Type 0} (v : X → S) (f : S → A → Judgement A) (xs : List X) (i : ℕ) (x : X) (a : A) (all : Judgement A) (e : ExprError) →
    i < length xs → x ≡ get_or xs i x → MatchFails e (f (v x) a) → chained f (map v (drop i xs)) a ≡ all → MatchFails e all
chain_fails v f xs i x a all e within at h so_far = search (rules, reached, fails_then)

-- all of several
pub each_all : {X A B : Type 0} (v : X → A) (f : A → Judgement (List B)) (before : List B) (xs : List X) (i : ℕ) (all : Judgement (List B)) → length xs ≤ i
    → put_after before (for_each f (map v (drop i xs))) ≡ all → all ≡ gives before
each_all v f before xs i all done so_far = search (rules, drop_all, append-nil)

-- all in turn
pub chain_all : {X S A : Type 0} (v : X → S) (f : S → A → Judgement A) (xs : List X) (i : ℕ) (a : A) (all : Judgement A) → length xs ≤ i → chained f
    (map v (drop i xs)) a ≡ all → all ≡ gives a
chain_all v f xs i a all done so_far = sym so_far ∙ ap (λ ys. chained f (map v ys) a) (drop_all i xs done)
