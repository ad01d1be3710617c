-- Steps that are walked back, the last one first.
use Rattle.std.proofs.Common.{rules, ◌≡◌, List, [], ◌∷◌, ◌++◌, map, reverse, append_assoc}
use Rattle.std.proofs.lemmas.List.{map-append, reverse-append}

-- one more, after those of which the last were pushed first
pub pushed_back : {A B : Type 0} (f : A → B) (front : List B) (xs : List A) (x : A) → front ++ reverse (map f (xs ++ x ∷ [])) ≡ (front ++ f x ∷ []) ++ reverse (map f xs)
pushed_back f front xs x = search (rules, map-append, reverse-append, append_assoc)
