-- Where a text may be cut.
use Rattle.std.proofs.Common.{rules, ◌≡◌, ℕ, zero, suc, ◌+◌, ◌<◌, ◌≤◌, Bool, true, ◌&&◌, eqb, min, List, [], ◌∷◌, length, drop, get_or}
use Rattle.std.{proofs.Common.{refl, ⊎_elim, subst, arith, eqb-true, drop-cons}, proofs.lemmas.Bool.{or_cases, cases_lt, and_parts}}
use Rattle.std.proofs.lemmas.List.Sums.{prefix_len_passes}
use Rattle.std.{proofs.lemmas.Str.{IsCharBoundary-start, IsCharBoundary-end, IsCharBoundary-after_ascii}, specs.List.prefix_len}
use Rattle.std.specs.Str.{IsUtf8, IsCharBoundary}
use Rattle.yq_core.specs.Text.{upto, at_feed, unless, is_white, is_break, is_space, ends_line, is_return, is_feed, front, line_len}
use Rattle.yq_core.{proofs.Upto.{upto_le_length, upto_ends, upto_unless}, proofs.Breaks.line_len-feed}

-- after bytes that are all ASCII
pub boundary_after : (t : List ℕ) (n : ℕ) → IsUtf8 t → n ≤ length t → ((k : ℕ) → k < n → get_or t k 0 < 128) → IsCharBoundary t n
boundary_after t zero u le ascii = IsCharBoundary-start t u
boundary_after t (suc m) u le ascii =
    let same : m + 1 ≡ suc m = omega arith in
    subst (λ (i : ℕ). IsCharBoundary t i) same (IsCharBoundary-after_ascii t m u (omega arith) (ascii m (omega arith)))

pub boundary_unless : (p : ℕ → Bool) (t : List ℕ) → IsUtf8 t → ((b : ℕ) → p b ≡ true → b < 128) → IsCharBoundary t (upto (unless p) t)
boundary_unless p t u ascii = boundary_after t (upto (unless p) t) u (upto_le_length (unless p) t)
    (λ k below. ascii _ (prefix_len_passes p t k 0 (rw upto_unless at below)))

-- before an ASCII byte
pub boundary_ends : (ends : List ℕ → Bool) (t : List ℕ) → ((b : ℕ) (bs : List ℕ) → ends (b ∷ bs) ≡ true → b < 128) → ends [] ≡ true → IsCharBoundary t (upto ends t)
boundary_ends ends t ascii e = search (rules, upto_le_length, upto_ends, drop-cons)

pub white_ascii : (b : ℕ) → is_white b ≡ true → b < 128
white_ascii b h = ⊎_elim (λ e. omega (arith, eqb-true b 32 e)) (λ e. omega (arith, eqb-true b 9 e)) (or_cases (eqb b 32) (eqb b 9) h)

pub break_ascii : (b : ℕ) (bs : List ℕ) → is_break (b ∷ bs) ≡ true → b < 128
break_ascii b bs h = ⊎_elim (λ e. omega (arith, eqb-true b 10 e)) (λ e. omega (arith, eqb-true b 13 (and_parts (is_return b) (front is_feed bs) e).0)) (or_cases (is_feed b) (is_return b && front is_feed bs) h)

pub space_ascii : (b : ℕ) (bs : List ℕ) → is_space (b ∷ bs) ≡ true → b < 128
space_ascii b bs h = ⊎_elim (λ e. white_ascii b e) (λ e. break_ascii b bs e) (or_cases (is_white b) (is_break (b ∷ bs)) h)

pub boundary_spaces : (t : List ℕ) (n : ℕ) → n ≡ prefix_len (λ b. eqb b 32) t → IsUtf8 t → IsCharBoundary t n
boundary_spaces t n e u = rw e (rw (← upto_unless) (boundary_unless (λ b. eqb b 32) t u (λ b h. omega (arith, eqb-true b 32 h))))

pub boundary_in_spaces : (t : List ℕ) (n : ℕ) → n ≤ prefix_len (λ b. eqb b 32) t → IsUtf8 t → IsCharBoundary t n
boundary_in_spaces t n few u = search (rules, upto_unless, upto_le_length, boundary_after, prefix_len_passes)

pub boundary_white : (t : List ℕ) (n : ℕ) → n ≡ prefix_len is_white t → IsUtf8 t → IsCharBoundary t n
boundary_white t n e u = rw e (rw (← upto_unless) (boundary_unless is_white t u white_ascii))

pub boundary_break : (t : List ℕ) (n : ℕ) → n ≡ upto ends_line t → IsCharBoundary t n
boundary_break t n e = rw e (boundary_ends ends_line t break_ascii refl)

-- after a line with its break
pub boundary_line : (t : List ℕ) (n : ℕ) → n ≡ line_len t → IsUtf8 t → IsCharBoundary t n
boundary_line t n e u =
    let k = upto at_feed t in
    let by_feed : line_len t ≡ min (k + 1) (length t) = line_len-feed t in
    ⊎_elim (λ lt.
    let at_break : at_feed (drop k t) ≡ true = upto_ends at_feed t refl in
    let is : get_or t k 0 ≡ 10 = eqb-true _ _ (rw (drop-cons t k 0 lt) at at_break) in
    let same : k + 1 ≡ n = omega arith in
    subst (λ (i : ℕ). IsCharBoundary t i) same (IsCharBoundary-after_ascii t k u lt (omega arith)))
    (λ le. let same : length t ≡ n = omega arith in subst (λ (i : ℕ). IsCharBoundary t i) same (IsCharBoundary-end t))
    (cases_lt k (length t))
