-- Where the lines of a text are cut.
use Rattle.std.proofs.Common.{rules, ◌≡◌, ◌<◌, ◌≤◌, ℕ, suc, ◌-◌, true, eqb, eqb-true, List, [], ◌∷◌, ◌++◌, length, take, drop, get_or}
use Rattle.std.{proofs.Common.{drop-cons, refl, sym, ap, ap₂, ◌∙◌, arith}, proofs.lemmas.List.{append-nil, drop_all, take-append-drop}}
use Rattle.yq_core.{specs.Text.{put_byte, text_lines, joined}, proofs.LineLaws.{joined_lines, line_step}}
use Rattle.yq_history.specs.Hunks.{EndsInFeed}

-- a text that is not empty has a line
lines_some : (t : List ℕ) → 0 < length t → 0 < length (text_lines t)
lines_some t h = omega (arith, ap length (line_step t h))

-- a byte before the first line of several
put_more : (x : ℕ) (ls ms : List (List ℕ)) → 0 < length ls → put_byte x (ls ++ ms) ≡ put_byte x ls ++ ms
put_more x ls ms h = search rules

-- a text that ends with LF is not empty
ends_some : (f : List ℕ) → 0 < length (f ++ 10 ∷ [])
ends_some [] = omega arith
ends_some (x ∷ f) = omega arith

-- a text that ends with LF, before another one
pub following_lines : (f b : List ℕ) → text_lines ((f ++ 10 ∷ []) ++ b) ≡ text_lines (f ++ 10 ∷ []) ++ text_lines b
unfolding text_lines
following_lines [] b = refl
following_lines (x ∷ f) b = search (rules, put_more, lines_some, ends_some, following_lines f b)

pub lines_of_none : text_lines [] ≡ []
unfolding text_lines
lines_of_none = refl

-- lines are no more than bytes
put_length : (x : ℕ) (ls : List (List ℕ)) (n : ℕ) → length ls ≤ n → length (put_byte x ls) ≤ suc n
put_length x ls n h = search rules

pub lines_within : (t : List ℕ) → length (text_lines t) ≤ length t
unfolding text_lines
lines_within [] = omega arith
lines_within (x ∷ t) = search (rules, put_length, lines_within t)

-- texts with the same lines are the same
pub same_lines : (t u : List ℕ) → text_lines t ≡ text_lines u → t ≡ u
same_lines t u h = sym (joined_lines t) ∙ (ap joined h ∙ joined_lines u)

-- of nothing there are no lines
pub no_lines : (t : List ℕ) → t ≡ [] → text_lines t ≡ []
no_lines t none = ap text_lines none ∙ lines_of_none

pub none_left : (t : List ℕ) → t ≡ [] → length (text_lines t) ≡ 0
none_left t none = ap length (no_lines t none)

-- ---- a text that is cut at an offset

whole : (t a b : List ℕ) (n : ℕ) → a ≡ take n t → b ≡ drop n t → t ≡ a ++ b
whole t a b n front back = sym (ap₂ (λ x y. x ++ y) front back ∙ take-append-drop n t)

pub cut_front : (t a b : List ℕ) (n : ℕ) → a ≡ take n t → b ≡ drop n t → a ≡ [] → text_lines t ≡ text_lines a ++ text_lines b
cut_front t a b n front back h6 = search (rules, whole, no_lines)

pub cut_back : (t a b : List ℕ) (n : ℕ) → a ≡ take n t → b ≡ drop n t → b ≡ [] → text_lines t ≡ text_lines a ++ text_lines b
cut_back t a b n front back none =
    ap text_lines (whole t a b n front back ∙ (ap (λ x. a ++ x) none ∙ append-nil a)) ∙ (sym (append-nil (text_lines a)) ∙ ap (λ x. text_lines a ++ x) (sym (no_lines b none)))

pub cut_after : (t a b : List ℕ) (n : ℕ) → a ≡ take n t → b ≡ drop n t → EndsInFeed a → text_lines t ≡ text_lines a ++ text_lines b
cut_after t a b n front back ends =
    ap text_lines (whole t a b n front back ∙ ap (λ x. x ++ b) ends.1) ∙ (following_lines ends.0 b ∙ ap (λ x. text_lines x ++ text_lines b) (sym ends.1))

-- the last byte of a text is a line feed
pub ends_in : (t : List ℕ) → 1 ≤ length t → eqb (get_or t (length t - 1) 0) 10 ≡ true → EndsInFeed t
ends_in t some is =
    let n : ℕ = length t - 1 in
    let none : drop (suc n) t ≡ [] = drop_all (suc n) t (omega (arith, some)) in
    let last : drop n t ≡ 10 ∷ [] = drop-cons t n 0 (omega (arith, some)) ∙ ap₂ (λ x y. x ∷ y) (eqb-true (get_or t n 0) 10 is) none in
    (take n t, sym (take-append-drop n t) ∙ ap (λ x. take n t ++ x) last)

-- nothing is added
pub no_more_lines : (ls : List (List ℕ)) (t : List ℕ) → t ≡ [] → ls ≡ ls ++ text_lines t
no_more_lines ls t none = sym (append-nil ls) ∙ ap (λ x. ls ++ x) (sym (no_lines t none))

pub none_before : (t : List ℕ) → text_lines t ≡ text_lines [] ++ text_lines t
none_before t = ap (λ x. x ++ text_lines t) (sym lines_of_none)
