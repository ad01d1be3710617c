-- What segments keep before and after.
use Rattle.std.proofs.Common.{◌≡◌, ℕ, ◌≤◌, Bool, true, false, cond, List, [], ◌∷◌, ◌++◌, length, refl, sym, ap, ◌∙◌, arith, append_assoc}
use Rattle.std.{proofs.Common.{append-nil, length-append, rules}, proofs.lemmas.Bool.false≢true}
use Rattle.yq_text.specs.Script.{Segment, keep, put, old_text, new_text, are_kept, kept_front, kept_back}

-- ---- kept segments

pub one_kept : (t : List ℕ) (ss : List Segment) (b : Bool) → are_kept ss ≡ b → kept_back (keep t ∷ ss) ≡ cond b (t ++ kept_back ss) (kept_back ss)
one_kept t ss b e = ap (λ x. cond x (t ++ kept_back ss) (kept_back ss)) e

old_kept : (ss : List Segment) → are_kept ss ≡ true → old_text ss ≡ kept_back ss
old_kept [] e = refl
old_kept (keep t ∷ ss) e = ap (λ u. t ++ u) (old_kept ss e) ∙ sym (one_kept t ss true e)
old_kept (put o w ∷ ss) e = absurd (false≢true e)

pub new_kept : (ss : List Segment) → are_kept ss ≡ true → new_text ss ≡ kept_back ss
new_kept [] e = refl
new_kept (keep t ∷ ss) e = ap (λ u. t ++ u) (new_kept ss e) ∙ sym (one_kept t ss true e)
new_kept (put o w ∷ ss) e = absurd (false≢true e)

-- ---- the texts of segments

-- What is kept after ends the texts of segments.
pub record IsAfter (ss : List Segment) : Type 0 where
  pub old : List ℕ
  pub new : List ℕ
  pub old_is : old_text ss ≡ old ++ kept_back ss
  pub new_is : new_text ss ≡ new ++ kept_back ss

one_after : (t own all : List ℕ) (ss : List Segment) → are_kept ss ≡ false → all ≡ own ++ kept_back ss → t ++ all ≡ (t ++ own) ++ kept_back (keep t ∷ ss)
one_after t own all ss e is = ap (λ u. t ++ u) is ∙ (sym (append_assoc t own (kept_back ss)) ∙ ap (λ u. (t ++ own) ++ u) (sym (one_kept t ss false e)))

pub after : (ss : List Segment) → IsAfter ss
after [] = record { old = []; new = []; old_is = refl; new_is = refl }
after (keep t ∷ ss) = go (after ss) (are_kept ss) refl
  where
    go : IsAfter ss → (b : Bool) → are_kept ss ≡ b → IsAfter (keep t ∷ ss)
    go h true e = record { old = []; new = []; old_is = old_kept (keep t ∷ ss) e; new_is = new_kept (keep t ∷ ss) e }
    go h false e = record { old = t ++ h.old; new = t ++ h.new; old_is = one_after t h.old _ ss e h.old_is; new_is = one_after t h.new _ ss e h.new_is }
after (put o w ∷ ss) =
    let h = after ss in
    record {
      old = o ++ h.old;
      new = w ++ h.new;
      old_is = ap (λ u. o ++ u) h.old_is ∙ sym (append_assoc o h.old (kept_back ss));
      new_is = ap (λ u. w ++ u) h.new_is ∙ sym (append_assoc w h.new (kept_back ss));
    }

pub back_within : (ss : List Segment) → length (kept_back ss) ≤ length (old_text ss)
back_within ss = let h = after ss in omega (arith, ap length h.old_is, length-append h.old (kept_back ss))

-- The texts of segments of which one is replaced are between what is kept in front and what is kept after.
pub record IsBetween (ss : List Segment) : Type 0 where
  pub old : List ℕ
  pub new : List ℕ
  pub old_is : old_text ss ≡ kept_front ss ++ (old ++ kept_back ss)
  pub new_is : new_text ss ≡ kept_front ss ++ (new ++ kept_back ss)

one_between : (t front own all : List ℕ) (ss : List Segment) → are_kept ss ≡ false → all ≡ front ++ (own ++ kept_back ss) → t ++ all ≡ (t ++ front) ++ (own ++ kept_back (keep t ∷ ss))
one_between t front own all ss e is = search (rules, append_assoc, one_kept)

pub between : (ss : List Segment) → are_kept ss ≡ false → IsBetween ss
between [] e = absurd (false≢true (sym e))
between (keep t ∷ ss) e = let h = between ss e in record { old = h.old; new = h.new; old_is = one_between t (kept_front ss) h.old _ ss e h.old_is; new_is = one_between t (kept_front ss) h.new _ ss e h.new_is }
between (put o w ∷ ss) e = let h = after (put o w ∷ ss) in record { old = h.old; new = h.new; old_is = h.old_is; new_is = h.new_is }

-- ---- segments between a kept one in front and one after

pub last_kept : (ss : List Segment) (b : List ℕ) → are_kept (ss ++ (keep b ∷ [])) ≡ are_kept ss
last_kept (keep t ∷ ss) b = last_kept ss b
last_kept _ b = refl

pub back_last : (ss : List Segment) (b : List ℕ) → kept_back (ss ++ (keep b ∷ [])) ≡ kept_back ss ++ b
back_last [] b = append-nil b
back_last (keep t ∷ ss) b = search (rules, one_kept, last_kept, append_assoc, back_last ss b)
back_last (put o w ∷ ss) b = back_last ss b
