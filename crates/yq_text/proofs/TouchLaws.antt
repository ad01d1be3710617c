-- Exchanges that touch are one.
use Rattle.std.proofs.Common.{◌≡◌, ℕ, List, [], ◌∷◌, ◌++◌, refl, ap, append_assoc, append-nil, rules}
use Rattle.yq_text.specs.Script.{Segment, keep, put, keep_before, put_before, merged, changes, splices_at}

-- the same segments after others
merged_after : (ss us rs : List Segment) → merged us ≡ merged rs → merged (ss ++ us) ≡ merged (ss ++ rs)
merged_after [] us rs e = e
merged_after (keep t ∷ ss) us rs e = ap (keep_before t) (merged_after ss us rs e)
merged_after (put o w ∷ ss) us rs e = ap (put_before o w) (merged_after ss us rs e)

-- exchanges that touch
pub put_twice : (o w p x : List ℕ) (ss : List Segment) → put_before o w (put_before p x ss) ≡ put_before (o ++ p) (w ++ x) ss
put_twice o w p x ss = search (rules, append_assoc)

pub touching : (ss us : List Segment) (o p w x : List ℕ) → changes (ss ++ (put o w ∷ (put p x ∷ us))) ≡ changes (ss ++ (put (o ++ p) (w ++ x) ∷ us))
unfolding changes
touching ss us o p w x = ap (splices_at 0) (merged_after ss (put o w ∷ (put p x ∷ us)) (put (o ++ p) (w ++ x) ∷ us) (put_twice o w p x (merged us)))

pub nothing_kept : (ss us : List Segment) → changes (ss ++ (keep [] ∷ us)) ≡ changes (ss ++ us)
unfolding changes
nothing_kept ss us = ap (splices_at 0) (merged_after ss (keep [] ∷ us) us refl)

pub kept_in_two : (ss us : List Segment) (t u : List ℕ) → changes (ss ++ (keep t ∷ (keep u ∷ us))) ≡ changes (ss ++ (keep (t ++ u) ∷ us))
unfolding changes
kept_in_two ss us t u = search (rules, append-nil, append_assoc, merged_after)
