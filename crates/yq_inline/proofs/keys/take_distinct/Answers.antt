use Rattle.std.proofs.Common.{◌≡◌, ℕ, zero, suc, ◌-◌, ◌≤◌, ◌↔◌, List, [], ◌∷◌, ◌++◌, drop, length, map, take, refl, ap, ◌∙◌, subst, arith}
use Rattle.std.{proofs.lemmas.List.take_all, specs.Prelude.IsTrue}
use Rattle.yq_core.specs.Keys.{AreDistinct}
use Rattle.yq_inline.proofs.keys.take_distinct.Goals as goal

-- the others stay, whatever is after them
front : {X : Type 0} (n m : ℕ) (xs ys zs : List X) → n ≤ length xs → n ≤ m → take n (take m ((take n xs ++ ys) ++ zs)) ≡ take n xs
front zero m xs ys zs a b = refl
front (suc n) zero xs ys zs a b = absurd (omega (arith, b))
front (suc n) (suc m) [] ys zs a b = absurd (omega (arith, a))
front (suc n) (suc m) (x ∷ xs) ys zs a b = ap (λ l. x ∷ l) (front n m xs ys zs (omega (arith, a)) (omega (arith, b)))

-- what is taken of the key_texts, and what stays of them
front_texts : {X Y : Type 0} (f : X → Y) (n : ℕ) (xs : List X) → map f (take n xs) ≡ take n (map f xs)
front_texts f zero xs = refl
front_texts f (suc n) [] = refl
front_texts f (suc n) (x ∷ xs) = ap (λ l. f x ∷ l) (front_texts f n xs)

no_more : (n : ℕ) → 0 - suc n ≡ 0
no_more n = omega arith

back_texts : {X Y : Type 0} (f : X → Y) (n : ℕ) (xs : List X) → map f (take (length xs - n) (drop n xs)) ≡ drop n (map f xs)
back_texts f zero xs = ap (map f) (take_all (length xs - 0) xs (omega arith))
back_texts f (suc n) [] = ap (λ (m : ℕ). map f (take m [])) (no_more n)
back_texts f (suc n) (x ∷ xs) = ap (λ (m : ℕ). map f (take m (drop n xs))) (omega arith) ∙ back_texts f n xs

pub returns-clause-differ : goal.returns-clause-differ
returns-clause-differ c =
    subst (λ (ks : List (List ℕ)). IsTrue c.all_differ-differ.result ↔ AreDistinct ks)
    (back_texts (λ k. k.now) c.args.others c.deref_mut.result.now ∙ ap (λ xs. drop c.args.others (map (λ k. k.now) xs)) c.deref_mut.ensures.value) c.all_differ-differ.ensures

pub returns-clause-kept : goal.returns-clause-kept
returns-clause-kept c =
    let all = c.deref_mut.ensures.value in
    ap (map (λ k. k.now)) (c.truncate.ensures.items ∙ front c.args.others c.args.keys.now.len c.deref_mut.result.now _ _ (omega (arith, c.requires, ap length all)) (omega (arith, c.requires, ap length all, c.deref_mut.ensures.len)))
    ∙ (front_texts (λ k. k.now) c.args.others c.deref_mut.result.now ∙ ap (λ xs. take c.args.others (map (λ k. k.now) xs)) all)
