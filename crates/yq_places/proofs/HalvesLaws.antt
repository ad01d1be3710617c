-- What a text in two halves begins and ends with.
use Rattle.std.proofs.Common.{◌≡◌, ℕ, zero, suc, ◌+◌, ◌-◌, ◌<◌, ◌≤◌, Bool, true, false, cond, eqb, List, [], ◌∷◌, ◌++◌, length, drop}
use Rattle.std.proofs.Common.{slice_index, ◌||◌, refl, sym, ap, ◌∙◌, ◌⊎◌, inl, inr, ⊎_elim, arith, drop-cons, rules}
use Rattle.std.proofs.lemmas.Bool.{cases_lt, eq-eqb, eqb-true, ne_eqb, false_from_ne_true}
use Rattle.std.proofs.lemmas.List.{drop_all, get_or_append_left, get_or-append_right, get_or_past}
use Rattle.std.{proofs.lemmas.List.Folds.prefix_len-append, proofs.lemmas.List.Sums.prefix_len-le-length, specs.List.prefix_len}
use Rattle.yq_core.{specs.Text.{front, is_break, is_empty, is_feed, is_line, is_white, line_len, past_white}, proofs.Upto.upto_unless}
use Rattle.yq_row_table.specs.Reading.{begins_gap}
use Rattle.yq_places.specs.PrintedLines.{less_break}

-- the byte at a place is in the first half, or in the second one
pub byte_front : (a b : List ℕ) (n : ℕ) → n < length a → slice_index (a ++ b) n ≡ slice_index a n
byte_front a b n h = get_or_append_left a b 0 n h

pub byte_back : (a b : List ℕ) (n : ℕ) → length a ≤ n → slice_index (a ++ b) n ≡ slice_index b (n - length a)
byte_back a b n h = get_or-append_right a b (length a) n 0 refl h

-- what passes a test in front ends in the first half, or goes on in the second one
pub prefix_stays : (p : ℕ → Bool) (a b : List ℕ) → prefix_len p a < length a → prefix_len p (a ++ b) ≡ prefix_len p a
prefix_stays p a b h = search (rules, prefix_len-append, false_from_ne_true, eqb-true)

pub prefix_goes : (p : ℕ → Bool) (a b : List ℕ) → length a ≤ prefix_len p a → prefix_len p (a ++ b) ≡ prefix_len p a + prefix_len p b
prefix_goes p a b h = search (rules, prefix_len-le-length, prefix_len-append, eq-eqb)

-- the line in front ends in the first half, or goes on in the second one
pub line_stays : (a b : List ℕ) → line_len a < length a → line_len (a ++ b) ≡ line_len a
unfolding line_len
line_stays [] b h = absurd (omega (arith, h))
line_stays (x ∷ a) b h = go (is_feed x) h (line_stays a b)
  where
    go : (c : Bool) → cond c 1 (suc (line_len a)) < suc (length a) → (line_len a < length a → line_len (a ++ b) ≡ line_len a) → cond c 1 (suc (line_len (a ++ b))) ≡ cond c 1 (suc (line_len a))
    go c h1 h2 = search rules

pub line_ends : (a b : List ℕ) → is_line a ≡ true → line_len (a ++ b) ≡ line_len a
unfolding line_len is_line
line_ends [] b h = absurd (cc)
line_ends (x ∷ a) b h = go (is_feed x) h (line_ends a b)
  where
    go : (c : Bool) → cond c (is_empty a) (is_line a) ≡ true → (is_line a ≡ true → line_len (a ++ b) ≡ line_len a) → cond c 1 (suc (line_len (a ++ b))) ≡ cond c 1 (suc (line_len a))
    go c h1 h2 = search rules

pub line_goes : (a b : List ℕ) → length a ≤ line_len a → is_line a ≡ false → line_len (a ++ b) ≡ line_len a + line_len b
unfolding line_len is_line
line_goes [] b h e = omega arith
line_goes (x ∷ a) b h e = search (rules, line_goes a b)

-- a gap begins where white space is all there is, or by what comes after it
white_at : (t : List ℕ) (n : ℕ) → n ≡ prefix_len is_white t → past_white t ≡ drop n t
white_at t n e = ap (λ k. drop k t) (upto_unless is_white t ∙ sym e)

pub gap_white : (t : List ℕ) (n : ℕ) → is_empty t ≡ false → n ≡ prefix_len is_white t → length t ≤ n → begins_gap t ≡ true
gap_white t n e w h = rw (white_at t n w, drop_all n t h, e) refl

feed_next : (t : List ℕ) (n : ℕ) → front is_feed (drop n t) ≡ is_feed (slice_index t n)
feed_next t n = ⊎_elim (λ h. ap (front is_feed) (drop-cons t n 0 h)) (λ h. ap (front is_feed) (drop_all n t h) ∙ sym (ap is_feed (get_or_past t n 0 h))) (cases_lt n (length t))

gap_by : (t : List ℕ) (n : ℕ) → n ≡ prefix_len is_white t → n < length t → begins_gap t ≡ (is_break (slice_index t n ∷ slice_index t (n + 1) ∷ []) || eqb (slice_index t n) 35)
gap_by t n w h =
    let next : suc n ≡ n + 1 = omega arith in
    search (rules, white_at, drop-cons, slice_index, feed_next, next)

pub gap_break : (t : List ℕ) (n x y : ℕ) → n ≡ prefix_len is_white t → n < length t → x ≡ slice_index t n → y ≡ slice_index t (n + 1) → is_break (x ∷ y ∷ []) ≡ true → begins_gap t ≡ true
gap_break t n x y w h ex ey e = gap_by t n w h ∙ ap (λ (c : Bool). c || eqb (slice_index t n) 35) (sym (λ i. is_break (ex i ∷ ey i ∷ [])) ∙ e)

pub gap_hash : (t : List ℕ) (n x y : ℕ) → n ≡ prefix_len is_white t → n < length t → x ≡ slice_index t n → y ≡ slice_index t (n + 1) → is_break (x ∷ y ∷ []) ≡ false → begins_gap t ≡ eqb x 35
gap_hash t n x y w h ex ey e = gap_by t n w h ∙ (ap (λ (c : Bool). c || eqb (slice_index t n) 35) (sym (λ i. is_break (ex i ∷ ey i ∷ [])) ∙ e) ∙ ap (λ k. eqb k 35) (sym ex))

-- a text less its last break, by the bytes that end it
last_other : (t : List ℕ) (m : ℕ) → length t ≡ suc m → (slice_index t m ≡ 10 → ⊥) → length (less_break t) ≡ suc m
unfolding less_break
last_other (b ∷ []) zero e f = ap (λ c. length (cond c [] (b ∷ []))) (ne_eqb b 10 f)
last_other (b ∷ (d ∷ [])) (suc zero) e f = search (rules, ne_eqb)
last_other (b ∷ (d ∷ (x ∷ t))) (suc m) e f = ap suc (last_other (d ∷ (x ∷ t)) m (omega (arith, e)) f)
last_other _ _ e f = absurd (omega (arith, e))

last_feed : (t : List ℕ) (m : ℕ) → length t ≡ suc m → slice_index t m ≡ 10 → ((k : ℕ) → suc k ≡ m → slice_index t k ≡ 13 → ⊥) → length (less_break t) ≡ m
unfolding less_break
last_feed (b ∷ []) zero e f r = ap (λ c. length (cond c [] (b ∷ []))) (eq-eqb b 10 f)
last_feed (b ∷ (d ∷ [])) (suc zero) e f r = cc (ne_eqb b 13 (r zero refl), eq-eqb d 10 f)
last_feed (b ∷ (d ∷ (x ∷ t))) (suc m) e f r = ap suc (last_feed (d ∷ (x ∷ t)) m (omega (arith, e)) f (λ k is. r (suc k) (ap suc is)))
last_feed _ _ e f r = absurd (omega (arith, e))

last_return : (t : List ℕ) (m : ℕ) → length t ≡ suc (suc m) → slice_index t (suc m) ≡ 10 → slice_index t m ≡ 13 → length (less_break t) ≡ m
unfolding less_break
last_return (b ∷ (d ∷ (x ∷ t))) (suc m) e f r = ap suc (last_return (d ∷ (x ∷ t)) m (omega (arith, e)) f r)
last_return t m e f r = search (rules, arith, eq-eqb)

pub no_break : (t : List ℕ) → (length t ≡ 0) ⊎ (slice_index t (length t - 1) ≡ 10 → ⊥) → length (less_break t) ≡ length t
unfolding less_break
no_break [] h = refl
no_break (b ∷ t) (inl h) = absurd (omega (arith, h))
no_break (b ∷ t) (inr h) = let same : suc (length t) - 1 ≡ length t = omega arith in last_other (b ∷ t) (length t) refl (λ f. h (ap (slice_index (b ∷ t)) same ∙ f))

pub break_feed : (t : List ℕ) → slice_index t (length t - 1) ≡ 10 → (1 < length t → slice_index t (length t - 2) ≡ 13 → ⊥) → length (less_break t) ≡ length t - 1
break_feed [] f r = absurd (omega (arith, f))
break_feed (b ∷ t) f r =
    let n = length t in
    let same : suc n - 1 ≡ n = omega arith in
    last_feed (b ∷ t) n refl (ap (slice_index (b ∷ t)) (sym same) ∙ f)
    (λ k e x. let before : suc n - 2 ≡ k = omega (arith, e) in r (omega (arith, e)) (ap (slice_index (b ∷ t)) before ∙ x)) ∙ sym same

pub break_return : (t : List ℕ) → 1 < length t → slice_index t (length t - 1) ≡ 10 → slice_index t (length t - 2) ≡ 13 → length (less_break t) ≡ length t - 2
break_return t h f r =
    let m = length t - 2 in
    last_return t m (omega (arith, h)) (ap (slice_index t) (sym (omega (arith, h))) ∙ f) r
