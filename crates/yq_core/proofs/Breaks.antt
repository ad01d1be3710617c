-- What a search for the next LF tells of breaks.
use Rattle.std.proofs.Common.{◌≡◌, ℕ, suc, ◌+◌, ◌<◌, ◌≤◌, false, min, eqb, eqb-true, List, [], ◌∷◌, length, Option, Some, None, refl, sym}
use Rattle.std.{proofs.Common.{ap, ◌∙◌, arith, rules}, proofs.lemmas.Bool.false_from_ne_true, proofs.lemmas.List.Sums.position_or_len_is}
use Rattle.std.{specs.List.position_or_len, specs.Option.unwrap_or, proofs.Math.Dec.eqb-suc-suc}
use Rattle.memchr.specs.Find.{IsFirstByte, is_byte}
use Rattle.yq_core.{specs.Text.{upto, at_feed, line_len, is_break, is_line, is_empty, ends_line}, proofs.Upto.upto_le_length}

feed-position : (t : List ℕ) → upto at_feed t ≡ position_or_len (is_byte 10) t
unfolding upto
feed-position [] = refl
feed-position (b ∷ bs) = search (rules, feed-position bs)

-- what a search for the LF found
pub first_feed : (t : List ℕ) (r : Option ℕ) → IsFirstByte (is_byte 10) t r → unwrap_or r (length t) ≡ upto at_feed t
first_feed t None h = rw feed-position (sym (position_or_len_is (is_byte 10) t (length t) 0 (omega arith)
    (λ k below. false_from_ne_true _ (h k (omega arith) below)) (λ past. absurd (omega arith))))
first_feed t (Some i) h = search (rules, feed-position, position_or_len_is, false_from_ne_true)

-- a line ends after its LF, or at the end
pub line_len-feed : (t : List ℕ) → line_len t ≡ min (upto at_feed t + 1) (length t)
unfolding line_len upto
line_len-feed [] = refl
line_len-feed (b ∷ bs) = search (rules, min, line_len-feed bs)

pub line_len_here : (t : List ℕ) (n : ℕ) → n ≡ upto at_feed t → n < length t → line_len t ≡ n + 1
line_len_here t n e h = omega (arith, line_len-feed t)

pub line_len_last : (t : List ℕ) (n : ℕ) → n ≡ upto at_feed t → length t ≤ n → line_len t ≡ n
line_len_last t n e h = omega (arith, line_len-feed t, upto_le_length at_feed t)

-- where the end is not in front, a line ends at a break
pub ends_line_is : (t : List ℕ) → 1 ≤ length t → ends_line t ≡ is_break t
ends_line_is t le = search rules

empty-length : (t : List ℕ) → is_empty t ≡ eqb 0 (length t)
empty-length t = search rules

-- a line with its break ends after its first LF
is_line-feed : (t : List ℕ) → is_line t ≡ eqb (suc (upto at_feed t)) (length t)
unfolding is_line upto
is_line-feed [] = refl
is_line-feed (b ∷ bs) = search (rules, eqb-suc-suc, empty-length, is_line-feed bs)

pub is_line_here : (t : List ℕ) (n : ℕ) → n ≡ upto at_feed t → n < length t → is_line t ≡ eqb (n + 1) (length t)
is_line_here t n e h = let one : suc (upto at_feed t) ≡ n + 1 = omega arith in is_line-feed t ∙ ap (λ k. eqb k (length t)) one

pub is_line_last : (t : List ℕ) (n : ℕ) → n ≡ upto at_feed t → length t ≤ n → is_line t ≡ false
is_line_last t n e h = is_line-feed t ∙ false_from_ne_true _ (λ k. absurd (omega (arith, eqb-true (suc (upto at_feed t)) (length t) k)))
