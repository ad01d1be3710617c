-- The lines of a text.
use Rattle.std.proofs.Common.{◌≡◌, ℕ, suc, ◌<◌, ◌≤◌, true, false, List, [], ◌∷◌, ◌++◌, length, take, drop, refl, sym, ap, ◌∙◌, inl, ◌⊎◌}
use Rattle.std.{proofs.Common.{⊎_elim, arith, append_assoc, rules}, proofs.lemmas.Bool.{false≢true, cond_both, cases_Bool}}
use Rattle.yq_core.specs.Text.{line_len, text_lines, put_byte, joined, is_line, is_empty, is_feed}

pub line_first : (b : ℕ) (bs : List ℕ) → text_lines (b ∷ bs) ≡ take (line_len (b ∷ bs)) (b ∷ bs) ∷ text_lines (drop (line_len (b ∷ bs)) (b ∷ bs))
unfolding text_lines line_len
line_first b [] = ⊎_elim {0, 0, 0} (λ h. rw h refl) (λ h. rw h refl) (cases_Bool (is_feed b))
line_first b (c ∷ cs) = search (rules, ⊎_elim, cases_Bool, line_first c cs)

pub line_step : (t : List ℕ) → 0 < length t → text_lines t ≡ take (line_len t) t ∷ text_lines (drop (line_len t) t)
line_step [] h = absurd (omega arith)
line_step (b ∷ bs) h = line_first b bs

pub line_len_some : (t : List ℕ) → 0 < length t → 0 < line_len t
unfolding line_len
line_len_some [] h = h
line_len_some (b ∷ bs) h = cond_both (is_feed b) 1 (suc (line_len bs)) (λ n. 0 < n) (λ _. omega arith) (λ _. omega arith)

pub line_len_within : (t : List ℕ) → line_len t ≤ length t
unfolding line_len
line_len_within [] = omega arith
line_len_within (b ∷ bs) = let again = line_len_within bs in cond_both (is_feed b) 1 (suc (line_len bs)) (λ n. n ≤ length (b ∷ bs)) (λ _. omega arith) (λ _. omega arith)

pub joined_lines : (t : List ℕ) → joined (text_lines t) ≡ t
unfolding text_lines
joined_lines [] = refl
joined_lines (b ∷ bs) = search (rules, ⊎_elim, cases_Bool, joined_lines bs)

-- each line but the last has a break
abbrev pub AreLines : List (List ℕ) → Type 0
AreLines [] = Unit {0}
AreLines (l ∷ ls) = ((is_line l ≡ true) ⊎ (ls ≡ [])) × AreLines ls

are_put : (b : ℕ) (ls : List (List ℕ)) → is_feed b ≡ false → AreLines ls → AreLines (put_byte b ls)
unfolding is_line
are_put b ls n h = search rules

pub lines_are : (t : List ℕ) → AreLines (text_lines t)
unfolding text_lines is_line
lines_are [] = tt
lines_are (b ∷ bs) = cond_both (is_feed b) ((b ∷ []) ∷ text_lines bs) (put_byte b (text_lines bs)) AreLines (λ h. (inl (rw h refl), lines_are bs)) (λ h. are_put b (text_lines bs) h (lines_are bs))

pub is_empty_is : (t : List ℕ) → is_empty t ≡ true → t ≡ []
is_empty_is t h = search rules

pub lines_again : (l t : List ℕ) → is_line l ≡ true → text_lines (l ++ t) ≡ l ∷ text_lines t
unfolding text_lines is_line
lines_again [] t h = absurd (false≢true h)
lines_again (b ∷ bs) t h = ⊎_elim {0, 0, 0}
    (λ e. let last : bs ≡ [] = is_empty_is bs (rw e at h) in rw last (rw e refl))
    (λ e. let again = lines_again bs t (rw e at h) in rw e (ap (put_byte b) again))
    (cases_Bool (is_feed b))

pub line_cut : (l t : List ℕ) → is_line l ≡ true → line_len (l ++ t) ≡ length l
unfolding line_len is_line
line_cut [] t h = absurd (false≢true h)
line_cut (b ∷ bs) t h = ⊎_elim {0, 0, 0}
    (λ e. let last : bs ≡ [] = is_empty_is bs (rw e at h) in rw last (rw e refl))
    (λ e. rw e (ap suc (line_cut bs t (rw e at h))))
    (cases_Bool (is_feed b))

pub line_some : (l : List ℕ) → is_line l ≡ true → 0 < length l
unfolding is_line
line_some [] h = absurd (false≢true h)
line_some (b ∷ l) h = omega arith

pub joined-append : (a b : List (List ℕ)) → joined (a ++ b) ≡ joined a ++ joined b
joined-append [] b = refl
joined-append (l ∷ a) b = ap (λ x. l ++ x) (joined-append a b) ∙ sym (append_assoc l (joined a) (joined b))
