-- What comes after the spaces in front of a line.
use Rattle.std.proofs.Common.{◌≡◌, ℕ, zero, suc, ◌+◌, Bool, true, false, cond, not, eqb, List, [], ◌∷◌, ◌++◌, drop, replicate, refl, ap}
use Rattle.std.{proofs.Common.{◌∙◌, ⊎_elim, arith, rules}, proofs.lemmas.Bool.cases_Bool, specs.List.prefix_len}
use Rattle.yq_core.{proofs.Bools.at_byte, specs.Lines.{spaces, without_spaces, is_tab, is_blank}}
use Rattle.yq_core.specs.Text.{is_white, ends_line, past_white, upto, no_white}

-- what comes after a prefix, step by step
pub prefix_drop : (p : ℕ → Bool) (b : ℕ) (l : List ℕ) → drop (prefix_len p (b ∷ l)) (b ∷ l) ≡ cond (p b) (drop (prefix_len p l) l) (b ∷ l)
prefix_drop p b l = search rules

-- the same of white space
pub white_drop : (b : ℕ) (l : List ℕ) → past_white (b ∷ l) ≡ cond (is_white b) (past_white l) (b ∷ l)
unfolding upto
white_drop b l = elim (is_white b) as (λ c. drop (cond (not c) 0 (suc (upto no_white l))) (b ∷ l) ≡ cond c (past_white l) (b ∷ l)) [ true ↦ refl | false ↦ refl ]

-- a line of spaces up to its break, and a line with a character that is neither white space nor a break
pub spaces_blank : (l : List ℕ) → ends_line (without_spaces l) ≡ true → is_blank l ≡ true
unfolding upto
spaces_blank [] h = refl
spaces_blank (b ∷ l) h = ⊎_elim {0, 0, 0}
    (λ e. let after : ends_line (without_spaces l) ≡ true = rw e at (rw (prefix_drop (λ x. eqb x 32) b l) at h) in
    rw (white_drop b l) (rw e (spaces_blank l after)))
    (λ e. let here : ends_line (b ∷ l) ≡ true = rw e at (rw (prefix_drop (λ x. eqb x 32) b l) at h) in
    let tab : eqb b 9 ≡ false = at_byte (λ x. ends_line (x ∷ l)) b 9 here refl in
    let white : is_white b ≡ false = rw e tab in
    rw (white_drop b l) (rw white here))
    (cases_Bool (eqb b 32))

pub char_not_blank : (l : List ℕ) → ends_line (without_spaces l) ≡ false → is_tab (without_spaces l) ≡ false → is_blank l ≡ false
unfolding upto
char_not_blank [] h k = h
char_not_blank (b ∷ l) h k = ⊎_elim {0, 0, 0}
    (λ e. let after : ends_line (without_spaces l) ≡ false = rw e at (rw (prefix_drop (λ x. eqb x 32) b l) at h) in
    let tab : is_tab (without_spaces l) ≡ false = rw e at (rw (prefix_drop (λ x. eqb x 32) b l) at k) in
    rw (white_drop b l) (rw e (char_not_blank l after tab)))
    (λ e. let here : ends_line (b ∷ l) ≡ false = rw e at (rw (prefix_drop (λ x. eqb x 32) b l) at h) in
    let tab : eqb b 9 ≡ false = rw e at (rw (prefix_drop (λ x. eqb x 32) b l) at k) in
    let white : is_white b ≡ false = rw e tab in
    rw (white_drop b l) (rw white here))
    (cases_Bool (eqb b 32))

-- spaces in front
pub prefix_next : (p : ℕ → Bool) (b : ℕ) (l : List ℕ) → p b ≡ true → prefix_len p (b ∷ l) ≡ suc (prefix_len p l)
prefix_next p b l h = rw h (omega arith)

pub prefix_none : (p : ℕ → Bool) (b : ℕ) (l : List ℕ) → p b ≡ false → prefix_len p (b ∷ l) ≡ 0
prefix_none p b l h = rw h refl

pub spaces_front : (m : ℕ) (t : List ℕ) → spaces (replicate m 32 ++ t) ≡ m + spaces t
spaces_front zero t = omega arith
spaces_front (suc m) t = let again = spaces_front m t in prefix_next (λ b. eqb b 32) 32 (replicate m 32 ++ t) refl ∙ omega (arith, again)

pub drop_front : (m k : ℕ) (t : List ℕ) → drop (m + k) (replicate m 32 ++ t) ≡ drop k t
drop_front zero k t = let z : 0 + k ≡ k = omega arith in ap (λ n. drop n t) z
drop_front (suc m) k t = let s : suc m + k ≡ suc (m + k) = omega arith in ap (λ n. drop n (32 ∷ (replicate m 32 ++ t))) s ∙ drop_front m k t
