-- Lists of which each element is seen as another, or tested.
use Rattle.std.proofs.Common.{◌≡◌, ℕ, suc, ◌+◌, ◌<◌, ◌≤◌, Bool, true, false, ◌&&◌, ◌||◌, List, [], ◌∷◌, ◌++◌, length, map, drop, get_or}
use Rattle.std.{proofs.Common.{reverse, refl, sym, ap, ◌∙◌, add-one, drop-cons}, proofs.lemmas.List.{map_push, reverse-append, drop_all}}
use Rattle.std.specs.List.{list_all, list_any}

pub list_all_map : {X Y : Type 0} (p : Y → Bool) (f : X → Y) (xs : List X) → list_all p (map f xs) ≡ list_all (λ x. p (f x)) xs
list_all_map p f [] = refl
list_all_map p f (x ∷ xs) = ap (λ b. p (f x) && b) (list_all_map p f xs)

pub list_any_map : {X Y : Type 0} (p : Y → Bool) (f : X → Y) (xs : List X) → list_any p (map f xs) ≡ list_any (λ x. p (f x)) xs
list_any_map p f [] = refl
list_any_map p f (x ∷ xs) = ap (λ b. p (f x) || b) (list_any_map p f xs)

pub map_reverse : {X Y : Type 0} (f : X → Y) (xs : List X) → map f (reverse xs) ≡ reverse (map f xs)
map_reverse f [] = refl
map_reverse {X} {Y} f (x ∷ xs) =
    ap (map f) (reverse-append (x ∷ []) xs)
    ∙ (map_push f (reverse xs) x ∙ (ap (λ (ys : List Y). ys ++ f x ∷ []) (map_reverse f xs) ∙ sym (reverse-append (f x ∷ []) (map f xs))))

-- ---- as a loop finds one that passes

rest_apart : {X : Type 0} (xs : List X) (i : ℕ) (x : X) → i < length xs → x ≡ get_or xs i x → drop i xs ≡ x ∷ drop (i + 1) xs
rest_apart {X} xs i x within is = drop-cons xs i x within ∙ (ap (λ y. y ∷ drop (suc i) xs) (sym is) ∙ ap (λ (n : ℕ). x ∷ drop n xs) (sym (add-one i)))

-- one of them passes
pub any_here : {X : Type 0} (p : X → Bool) (xs : List X) (i : ℕ) (x : X) (all : Bool) → i < length xs → x ≡ get_or xs i x → p x ≡ true → list_any p (drop i xs) ≡ all → true ≡ all
any_here p xs i x all within is passes so_far = ap (λ b. b || list_any p (drop (i + 1) xs)) (sym passes) ∙ (ap (list_any p) (sym (rest_apart xs i x within is)) ∙ so_far)

-- one more doesn't
pub any_further : {X : Type 0} (p : X → Bool) (xs : List X) (i : ℕ) (x : X) (all : Bool) → i < length xs → x ≡ get_or xs i x → p x ≡ false → list_any p (drop i xs) ≡ all → list_any p (drop (i + 1) xs) ≡ all
any_further p xs i x all within is passes so_far = ap (λ b. b || list_any p (drop (i + 1) xs)) (sym passes) ∙ (ap (list_any p) (sym (rest_apart xs i x within is)) ∙ so_far)

-- none does
pub any_done : {X : Type 0} (p : X → Bool) (xs : List X) (i : ℕ) (all : Bool) → length xs ≤ i → list_any p (drop i xs) ≡ all → false ≡ all
any_done p xs i all past so_far = ap (list_any p) (sym (drop_all i xs past)) ∙ so_far
