-- What is between the segments that are kept at both ends.
use Rattle.std.proofs.Common.{◌≡◌, ℕ, ◌+◌, Bool, true, false, cond, List, [], ◌∷◌, ◌++◌, length, nat_eq, refl, sym, ap, ◌∙◌, arith}
use Rattle.std.{proofs.Common.{append_assoc, append-nil, length-append, rules}, proofs.lemmas.Bool.false≢true}
use Rattle.yq_text.specs.Splice.{Splice}
use Rattle.yq_text.specs.Script.{Segment, keep, put, old_text, new_text, put_before, merged, splice_at, splices_at, changes_after, are_kept}
use Rattle.yq_text.{specs.Script.{kept_front, kept_back, from_first, to_last}, proofs.TouchLaws.put_twice}
use Rattle.yq_text.proofs.KeptSegments.{last_kept, new_kept, one_kept}

-- ---- the last one that is replaced

pub last_stays : (ss : List Segment) (t : List ℕ) → to_last (ss ++ (keep t ∷ [])) ≡ to_last ss
last_stays [] t = refl
last_stays (keep u ∷ ss) t = λ i. cond (last_kept ss t i) [] (keep u ∷ last_stays ss t i)
last_stays (put o w ∷ ss) t = ap (λ x. put o w ∷ x) (last_stays ss t)

last_gives : (ss : List Segment) (o w : List ℕ) → are_kept (ss ++ (put o w ∷ [])) ≡ false
last_gives (keep u ∷ ss) o w = last_gives ss o w
last_gives _ o w = refl

pub to_last_put : (ss : List Segment) (o w : List ℕ) → to_last (ss ++ (put o w ∷ [])) ≡ ss ++ (put o w ∷ [])
to_last_put [] o w = refl
to_last_put (keep u ∷ ss) o w = λ i. cond (last_gives ss o w i) [] (keep u ∷ to_last_put ss o w i)
to_last_put (put p x ∷ ss) o w = ap (λ s. put p x ∷ s) (to_last_put ss o w)

-- ---- what is kept after it

pub back_gives : (ss : List Segment) (o w : List ℕ) → kept_back (ss ++ (put o w ∷ [])) ≡ []
back_gives [] o w = refl
back_gives (keep u ∷ ss) o w = (λ i. cond (last_gives ss o w i) (u ++ back_gives ss o w i) (back_gives ss o w i))
back_gives (put p x ∷ ss) o w = back_gives ss o w

-- ---- the texts

pub new_first : (ss : List Segment) → new_text ss ≡ kept_front ss ++ new_text (from_first ss)
new_first (keep t ∷ ss) = ap (λ u. t ++ u) (new_first ss) ∙ sym (append_assoc t (kept_front ss) (new_text (from_first ss)))
new_first _ = refl

pub old_first : (ss : List Segment) → old_text ss ≡ kept_front ss ++ old_text (from_first ss)
old_first (keep t ∷ ss) = ap (λ u. t ++ u) (old_first ss) ∙ sym (append_assoc t (kept_front ss) (old_text (from_first ss)))
old_first _ = refl

pub new_last : (ss : List Segment) → new_text ss ≡ new_text (to_last ss) ++ kept_back ss
new_last [] = refl
new_last (keep t ∷ ss) = search (rules, new_kept, append_assoc, new_last ss)
new_last (put o w ∷ ss) = ap (λ u. w ++ u) (new_last ss) ∙ sym (append_assoc w (new_text (to_last ss)) (kept_back ss))

pub back_first : (ss : List Segment) → are_kept ss ≡ false → kept_back (from_first ss) ≡ kept_back ss
back_first [] e = absurd (false≢true (sym e))
back_first (keep t ∷ ss) e = back_first ss e ∙ sym (one_kept t ss false e)
back_first (put o w ∷ ss) e = refl

-- ---- the splices

-- those of segments after an exchange that touches them
abbrev run : ℕ → List ℕ → List ℕ → List Segment → List Splice
run n o w [] = splice_at n o w
run n o w (keep [] ∷ ss) = run n o w ss
run n o w (keep (b ∷ t) ∷ ss) = splice_at n o w ++ run (n + length w + length (b ∷ t)) [] [] ss
run n o w (put p x ∷ ss) = run n (o ++ p) (w ++ x) ss

pub after_nothing : (n : ℕ) (ss : List Segment) → splices_at n (put_before [] [] ss) ≡ splices_at n ss
after_nothing n ss = search rules

-- what is kept ends the exchange in front of it
pub loop_kept : (done more whole : List Splice) (n m : ℕ) (o w t : List ℕ) (rest : List Segment) → nat_eq (length t) 0 ≡ false → done ++ splices_at n (put_before o w (merged (keep t ∷ rest))) ≡ whole →
    more ≡ done ++ splice_at n o w → m ≡ n + length w + length t → more ++ splices_at m (put_before [] [] (merged rest)) ≡ whole
loop_kept done more whole n m o w t rest h1 h2 h3 h4 = search (rules, false≢true, after_nothing, append_assoc, length-append)

run_is : (n : ℕ) (o w : List ℕ) (ss : List Segment) → splices_at n (put_before o w (merged ss)) ≡ run n o w ss
run_is n o w [] = append-nil (splice_at n o w)
run_is n o w (keep [] ∷ ss) = run_is n o w ss
run_is n o w (keep (b ∷ t) ∷ ss) = search (rules, length-append, after_nothing, run_is (n + length w + length (b ∷ t)) [] [] ss)
run_is n o w (put p x ∷ ss) = ap (splices_at n) (put_twice o w p x (merged ss)) ∙ run_is n (o ++ p) (w ++ x) ss

run_of : (n : ℕ) (ss : List Segment) → changes_after n ss ≡ run n [] [] ss
run_of n ss = sym (after_nothing n (merged ss)) ∙ run_is n [] [] ss

run_kept : (n : ℕ) (o w : List ℕ) (ss : List Segment) → are_kept ss ≡ true → run n o w ss ≡ splice_at n o w
run_kept n o w [] e = refl
run_kept n o w (keep [] ∷ ss) e = run_kept n o w ss e
run_kept n o w (keep (b ∷ t) ∷ ss) e = ap (λ x. splice_at n o w ++ x) (run_kept (n + length w + length (b ∷ t)) [] [] ss e) ∙ append-nil (splice_at n o w)
run_kept n o w (put p x ∷ ss) e = absurd (false≢true e)

run_last : (n : ℕ) (o w : List ℕ) (ss : List Segment) → run n o w (to_last ss) ≡ run n o w ss
run_last n o w [] = refl
run_last n o w (keep t ∷ ss) = go (are_kept ss) refl (λ k p x. run_last k p x ss)
  where
    one : (u : List ℕ) → ((k : ℕ) (p x : List ℕ) → run k p x (to_last ss) ≡ run k p x ss) → run n o w (keep u ∷ to_last ss) ≡ run n o w (keep u ∷ ss)
    one u h1 = search rules

    go : (b : Bool) → are_kept ss ≡ b → ((k : ℕ) (p x : List ℕ) → run k p x (to_last ss) ≡ run k p x ss) → run n o w (cond b [] (keep t ∷ to_last ss)) ≡ run n o w (keep t ∷ ss)
    go b h1 h2 = search (rules, run_kept, one)
run_last n o w (put p x ∷ ss) = run_last n (o ++ p) (w ++ x) ss

pub changes_last : (n : ℕ) (ss : List Segment) → changes_after n (to_last ss) ≡ changes_after n ss
changes_last n ss = run_of n (to_last ss) ∙ (run_last n [] [] ss ∙ sym (run_of n ss))

pub changes_first : (n : ℕ) (ss : List Segment) → changes_after (n + length (kept_front ss)) (from_first ss) ≡ changes_after n ss
changes_first n [] = refl
changes_first n (keep t ∷ ss) = search (rules, length-append, changes_first (n + length t) ss)
changes_first n (put o w ∷ ss) = ap (λ k. changes_after k (put o w ∷ ss)) (omega arith)
