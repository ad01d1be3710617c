-- A splice exchanges bytes in one place, and what splices do is taken back by the flipped ones.
use Rattle.std.proofs.Common.{◌≡◌, ℕ, List, [], ◌∷◌, ◌++◌, nat_eq, Some, None, refl, sym, ap, ◌∙◌, append_assoc, append-nil, length-append}
use Rattle.std.{proofs.Common.{length-take-le, rules}, specs.Prelude.option_and_then, proofs.Math.Seq.{drop-append_seam, take-append_seam}}
use Rattle.std.{proofs.lemmas.Bool.{le-leb, leb-true, and_parts}, proofs.lemmas.List.take-append-drop, proofs.lemmas.Slice.Eq.starts_is}
use Rattle.yq_text.specs.Splice.{Splice, swapped, Exchanges, change_done, all_done, flipped, lengths_done, length_done}

-- what is exchanged in one place is a splice done
pub done-from_exchanges : (s : Splice) (b c : List ℕ) → Exchanges s b c → change_done s b ≡ Some c
unfolding change_done
done-from_exchanges s b c p = search (rules, append_assoc, drop-append_seam, take-append_seam, le-leb, length-append, starts_is)

-- a splice done has exchanged bytes in one place
pub exchanges-from_done : (s : Splice) (b c : List ℕ) → change_done s b ≡ Some c → Exchanges s b c
unfolding change_done
exchanges-from_done s b c e = search (rules, and_parts, nat_eq, leb-true, starts_is, length-take-le, take-append-drop, append_assoc)

-- bytes exchanged are exchanged back by the swapped splice
swapped_exchanges : (s : Splice) (b c : List ℕ) → Exchanges s b c → Exchanges (swapped s) c b
swapped_exchanges s b c p = record { front = p.front; rest = p.rest; offset = p.offset; before = p.after; after = p.before }

-- splices done one list after the other
pub all_done-append : (xs ys : List Splice) (b : List ℕ) → all_done (xs ++ ys) b ≡ option_and_then (all_done ys) (all_done xs b)
all_done-append [] ys b = refl
all_done-append (x ∷ xs) ys b =
    elim (change_done x b) as (λ r. option_and_then (all_done (xs ++ ys)) r ≡ option_and_then (all_done ys) (option_and_then (all_done xs) r)) [
      | None ↦ refl
      | Some c ↦ all_done-append xs ys c
    ]

-- splices done are taken back
pub taken_back : (ss : List Splice) (b c : List ℕ) → all_done ss b ≡ Some c → all_done (flipped ss) c ≡ Some b
taken_back [] b c e = sym e
taken_back (s ∷ ss) b c e =
    elim (change_done s b) as (λ r. change_done s b ≡ r → option_and_then (all_done ss) r ≡ Some c → all_done (flipped ss ++ swapped s ∷ []) c ≡ Some b) [
      | None ↦ λ _ h. cc
      | Some m ↦ λ is h.
          all_done-append (flipped ss) (swapped s ∷ []) c
          ∙ ap (option_and_then (all_done (swapped s ∷ []))) (taken_back ss m c h)
          ∙ ap (option_and_then (λ d. Some d)) (done-from_exchanges (swapped s) m b (swapped_exchanges s b m (exchanges-from_done s b m is)))
    ] refl e

pub flipped-append : (xs ys : List Splice) → flipped (xs ++ ys) ≡ flipped ys ++ flipped xs
flipped-append [] ys = sym (append-nil (flipped ys))
flipped-append (x ∷ xs) ys = ap (λ l. l ++ swapped x ∷ []) (flipped-append xs ys) ∙ append_assoc (flipped ys) (flipped xs) (swapped x ∷ [])

pub flipped_twice : (ss : List Splice) → flipped (flipped ss) ≡ ss
flipped_twice [] = refl
flipped_twice (s ∷ ss) = flipped-append (flipped ss) (swapped s ∷ []) ∙ ap (λ l. s ∷ l) (flipped_twice ss)

-- and what was taken back is done again
pub done_again : (ss : List Splice) (b c : List ℕ) → all_done (flipped ss) c ≡ Some b → all_done ss b ≡ Some c
done_again ss b c e = ap (λ l. all_done l b) (sym (flipped_twice ss)) ∙ taken_back (flipped ss) c b e

-- lengths reached one list after the other
pub lengths_done-append : (xs ys : List Splice) (n : ℕ) → lengths_done (xs ++ ys) n ≡ option_and_then (lengths_done ys) (lengths_done xs n)
lengths_done-append [] ys n = refl
lengths_done-append (x ∷ xs) ys n =
    elim (length_done x n) as (λ r. option_and_then (lengths_done (xs ++ ys)) r ≡ option_and_then (lengths_done ys) (option_and_then (lengths_done xs) r)) [
      | None ↦ refl
      | Some m ↦ lengths_done-append xs ys m
    ]
