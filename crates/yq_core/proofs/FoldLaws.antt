-- What white space and breaks mean.
use Rattle.std.proofs.Common.{◌≡◌, ℕ, zero, suc, ◌+◌, Bool, true, false, cond, not, List, [], ◌∷◌, ◌++◌, take, drop, refl, sym, inl, inr}
use Rattle.std.{proofs.Common.{◌&&◌, ap, ◌∙◌, arith, append_assoc, append-nil, rules}, proofs.Math.Bool.or-true}
use Rattle.std.{proofs.lemmas.Bool.{false≢true, not-false, and_parts, cases_Bool, or_parts}, proofs.lemmas.List.take-append-drop}
use Rattle.yq_core.{specs.Text.{is_white, is_feed, is_return, is_space, front, upto, cut, NoneIn}, specs.Quoted.{folded, joined}}
use Rattle.yq_core.specs.ContentReading.{BlankBefore, within, after, item_with_blanks, one_break_more, content_on, breaks, space_text}
use Rattle.yq_core.{specs.ContentReading.before_of, specs.Plain.no_gap, proofs.Bools.at_byte, proofs.Upto.none_in_cut}

-- the gap after k further breaks
abbrev times : ℕ → BlankBefore → BlankBefore
times zero g = g
times (suc k) g = times k (one_break_more g)

-- the white space since the last break, of bytes that w comes before
abbrev since : List ℕ → List ℕ → List ℕ
since w [] = w
since w (b ∷ s) = cond (is_white b) (since (w ++ b ∷ []) s) (cond (is_feed b) (since [] s) (since w s))

is_spaced : (b : ℕ) (t : List ℕ) → not (is_space (b ∷ t)) ≡ false → is_space (b ∷ t) ≡ true
is_spaced b t h = not-false (is_space (b ∷ t)) h

over_space : (q : ℕ) (g : BlankBefore) (w s r : List ℕ) → NoneIn no_gap s r → content_on q 0 g w (s ++ r) ≡ content_on q 0 (times (breaks s) g) (since w s) r
unfolding content_on breaks
over_space q g w [] r h = refl
over_space q g w (b ∷ s) r h =
    search (rules, cases_Bool, at_byte, is_spaced, over_space q g (w ++ b ∷ []) s r h.1, over_space q (one_break_more g) [] s r h.1, over_space q g w s r h.1)

times_joined : (k n : ℕ) → times k (after (joined n)) ≡ after (joined (n + k))
times_joined zero n = ap (λ (i : ℕ). after (joined i)) (omega arith)
times_joined (suc k) n = times_joined k (suc n) ∙ ap (λ (i : ℕ). after (joined i)) (omega arith)

times_folded : (k n : ℕ) → times k (after (folded n)) ≡ after (folded (n + k))
times_folded zero n = ap (λ (i : ℕ). after (folded i)) (omega arith)
times_folded (suc k) n = times_folded k (suc n) ∙ ap (λ (i : ℕ). after (folded i)) (omega arith)

no_line : (s r : List ℕ) → front is_feed (s ++ r) ≡ true → is_space r ≡ false → breaks s ≡ 0 → ⊥
unfolding breaks
no_line [] [] f e n = false≢true f
no_line [] (c ∷ r) f e n = let here : is_space (c ∷ r) ≡ true = rw f (or-true (is_white c)) in false≢true (sym e ∙ here)
no_line (c ∷ s) r f e n = let m : suc (breaks s) ≡ 0 = rw f at n in omega (arith, m)

-- without a break all of it is white space
since_all : (w s r : List ℕ) → NoneIn no_gap s r → is_space r ≡ false → breaks s ≡ 0 → since w s ≡ w ++ s
unfolding breaks
since_all w [] r h e n = sym (append-nil w)
since_all w (b ∷ s) r h e n = elim (cases_Bool (is_white b)) [
  | inl y ↦ (let m : breaks s ≡ 0 = rw (at_byte is_white b 10 y refl) at n in rw y (since_all (w ++ b ∷ []) s r h.1 e m ∙ append_assoc w (b ∷ []) s))
  | inr y ↦ elim (cases_Bool (is_feed b)) [
    | inl x ↦ absurd (let m : suc (breaks s) ≡ 0 = rw x at n in omega (arith, m))
    | inr x ↦ absurd (let m : breaks s ≡ 0 = rw x at n in
        let k : is_space (b ∷ (s ++ r)) ≡ true = is_spaced b (s ++ r) h.0 in
        let f : (is_return b && front is_feed (s ++ r)) ≡ true = rw (y, x) at k in
        no_line s r (and_parts (is_return b) (front is_feed (s ++ r)) f).1 e m)
  ]
]

filled_is : (j : Bool) (s r : List ℕ) → NoneIn no_gap s r → is_space r ≡ false → item_with_blanks (times (breaks s) (before_of j)) (since [] s) ≡ space_text j s
filled_is j s r h e = search (rules, times_joined, since_all, times_folded)

pub content_space : (q : ℕ) (j : Bool) (s r : List ℕ) → NoneIn no_gap s r → is_space r ≡ false → content_on q 0 (before_of j) [] (s ++ r) ≡ space_text j s ++ content_on q 0 within [] r
unfolding content_on
content_space q j s r h e = search (rules, append-nil, or_parts, over_space, filled_is)

-- after the white space and breaks in front is none
pub space_ends : (t : List ℕ) → is_space (drop (upto no_gap t) t) ≡ false
unfolding upto
space_ends [] = refl
space_ends (b ∷ bs) = search (rules, cases_Bool, space_ends bs)

-- a step of the loop: the run of white space and breaks in front
pub content_gap : (q : ℕ) (j : Bool) (t : List ℕ) → content_on q 0 (before_of j) [] t ≡ space_text j (take (upto no_gap t) t) ++ content_on q 0 within [] (drop (upto no_gap t) t)
content_gap q j t = ap (content_on q 0 (before_of j) []) (sym (take-append-drop (upto no_gap t) t))
    ∙ content_space q j (take (upto no_gap t) t) (drop (upto no_gap t) t) (none_in_cut no_gap t) (space_ends t)

-- what white space and breaks in front mean, and what follows
pub gap_next : (q : ℕ) (j : Bool) (t space next gap : List ℕ) → (space, next) ≡ cut no_gap t → gap ≡ space_text j space → content_on q 0 (before_of j) [] t ≡ gap ++ content_on q 0 within [] next
gap_next q j t space next gap parts is = search (rules, content_gap)

-- what these and the item after them mean, and what follows
pub content_next : (q : ℕ) (j k : Bool) (t space next rest gap front : List ℕ) → (space, next) ≡ cut no_gap t → gap ≡ space_text j space → content_on q 0 within [] next ≡ front ++ content_on q 0 (before_of k) [] rest →
    content_on q 0 (before_of j) [] t ≡ gap ++ (front ++ content_on q 0 (before_of k) [] rest)
content_next q j k t space next rest gap front parts is item = gap_next q j t space next gap parts is ∙ ap (λ l. gap ++ l) item
