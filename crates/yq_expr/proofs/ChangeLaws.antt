-- Changes at a place: steps that are missing, and what is added.
use Rattle.std.proofs.Common.{rules, ◌≡◌, ℕ, zero, suc, ◌-◌, ◌≤◌, Bool, cond, List, [], ◌∷◌, ◌++◌, length, map, take, drop, get_or, Some}
use Rattle.std.{proofs.Common.{None, refl, sym, ap, ◌∙◌, arith}, specs.List.list_any, proofs.lemmas.List.{map_push, take_rest}}
use Rattle.yq_core.specs.Tree.{Node, none, child, key_label}
use Rattle.yq_semantics.{specs.Changes.{nested, created, put_below}, specs.Judgement.{gives, refuses}}
use Rattle.yq_semantics.{specs.declared.refusal.Refusal.TheVariants.IndexOutOfRange, proofs.Lists.list_any_map}
use Rattle.yq_semantics.specs.Program.{is_index, PathStep, key}
use Rattle.yq_core.specs.Tree as tree

-- a value under one key more, inside the others
pub nested_last : (ms : List PathStep) (m : PathStep) (v : Node) → nested (ms ++ m ∷ []) v ≡ nested ms (nested (m ∷ []) v)
nested_last [] m v = refl
nested_last (key k ∷ ms) m v = ap (λ (n : Node). tree.map None (child (key_label (Some k)) n none)) (nested_last ms m v)
nested_last (_ ∷ ms) m v = nested_last ms m v

-- a list, its last element apart
last_apart : {X : Type 0} (xs : List X) (n : ℕ) (x : X) → length xs ≡ suc n → x ≡ get_or xs n x → xs ≡ take n xs ++ x ∷ []
last_apart (y ∷ []) zero x long is = ap (λ z. z ∷ []) (sym is)
last_apart (y ∷ (z ∷ zs)) (suc n) x long is = ap (λ ys. y ∷ ys) (last_apart (z ∷ zs) n x (omega (arith, long)) is)
last_apart _ _ x long is = absurd (omega (arith, long))

pub split_last : {X : Type 0} (xs : List X) (x : X) → 1 ≤ length xs → x ≡ get_or xs (length xs - 1) x → xs ≡ take (length xs - 1) xs ++ x ∷ []
split_last xs x some is = last_apart xs (length xs - 1) x (omega (arith, some)) is

-- one key more, the last that is left
pub one_out : {X : Type 0} (f : X → PathStep) (xs : List X) (x : X) (v w all : Node) → 1 ≤ length xs → x ≡ get_or xs (length xs - 1) x → w ≡ nested (f x ∷ []) v → nested (map f xs) v ≡ all →
    nested (map f (take (length xs - 1) xs)) w ≡ all
one_out {X} f xs x v w all some is under so_far =
    let front : List X = take (length xs - 1) xs in
    ap (nested (map f front)) under
    ∙ (sym (nested_last (map f front) (f x) v)
    ∙ (ap (λ ys. nested ys v) (sym (map_push f front x)) ∙ (ap (λ (ys : List X). nested (map f ys) v) (sym (split_last xs x some is)) ∙ so_far)))

-- a list, its first element apart
pub split_first : {X : Type 0} (xs : List X) (x : X) → 1 ≤ length xs → x ≡ get_or xs 0 x → xs ≡ x ∷ take (length xs - 1) (drop 1 xs)
split_first [] x some is = absurd (omega (arith, some))
split_first (y ∷ ys) x some is = ap (λ z. z ∷ ys) (sym is) ∙ ap (λ zs. x ∷ zs) (sym (take_rest (y ∷ ys) 1))

-- below a node no item is made, and entries are
pub put_first : {X : Type 0} (f : X → PathStep) (n : Node) (xs : List X) (x : X) (v : Node) (b : Bool) → 1 ≤ length xs →
    x ≡ get_or xs 0 x → list_any (λ s. is_index (f s)) xs ≡ b →
    put_below n (map f xs) v ≡ cond b (refuses IndexOutOfRange) (gives (created n (f x) (map f (take (length xs - 1) (drop 1 xs))) v))
put_first f n xs x v b some is indexed = search (rules, split_first, list_any_map)
