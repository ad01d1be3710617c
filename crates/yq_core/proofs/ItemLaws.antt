-- What the items of a scalar mean, and where a text may be cut.
use Rattle.std.proofs.Common.{◌≡◌, ℕ, suc, ◌<◌, ◌≤◌, Bool, true, false, eqb, List, [], ◌∷◌, ◌++◌, length, take, drop, get_or, Some, None}
use Rattle.std.proofs.Common.{refl, sym, inl, inr, ap, ◌∙◌, arith, eqb-true, append-nil, length-drop, rules}
use Rattle.std.{proofs.lemmas.Bool.{false≢true, or_cases, cases_lt, and_parts, cases_Bool, or_parts}, proofs.lemmas.List.take-append-drop}
use Rattle.std.{proofs.Math.Utf8.encode, specs.Str.{IsUtf8, IsCharBoundary}}
use Rattle.yq_core.{specs.Text.{is_break, is_space, front, upto, NoneIn}, specs.Quoted.joined, specs.QuotedReading.leading_escape}
use Rattle.yq_core.specs.ContentReading.{BlankBefore, within, after, content_on, break_len, before_of, is_pair, is_slash, ends_run}
use Rattle.yq_core.{specs.Plain.no_gap, proofs.Upto.{upto_le_length, none_in_cut}}
use Rattle.yq_core.proofs.Boundaries.{boundary_ends, space_ascii, break_ascii, boundary_after}
use Rattle.yq_core.proofs.EscapeLaws.{escape_ascii, escape_within}

-- bytes that are all ASCII
low_at : (b : ℕ) (bs : List ℕ) (n k : ℕ) → b < 128 → ((j : ℕ) → j < n → get_or bs j 0 < 128) → k < suc n → get_or (b ∷ bs) k 0 < 128
low_at b bs n k low rest lt = search rules

space_low : (t : List ℕ) (k : ℕ) → k < upto no_gap t → get_or t k 0 < 128
unfolding upto
space_low [] k lt = absurd (omega arith)
space_low (b ∷ bs) k lt = elim (cases_Bool (is_space (b ∷ bs))) [
  | inl s ↦ (let n : k < suc (upto no_gap bs) = rw s at lt in low_at b bs (upto no_gap bs) k (space_ascii b bs s) (λ j l. space_low bs j l) n)
  | inr s ↦ absurd (let n : k < 0 = rw s at lt in omega (arith, n))
]

pub boundary_space : (t : List ℕ) (n : ℕ) → n ≡ upto no_gap t → IsUtf8 t → IsCharBoundary t n
boundary_space t n e u = rw e (boundary_after t (upto no_gap t) u (upto_le_length no_gap t) (space_low t))

run_ascii : (q b : ℕ) (bs : List ℕ) → ends_run q (b ∷ bs) ≡ true → b < 128
run_ascii q b bs h = search (rules, or_cases, space_ascii, eqb-true, and_parts)

pub boundary_run : (q : ℕ) (t : List ℕ) (n : ℕ) → n ≡ upto (ends_run q) t → IsCharBoundary t n
boundary_run q t n e = rw e (boundary_ends (ends_run q) t (run_ascii q) refl)

-- bytes that are passed over
content_skip : (q k : ℕ) (g : BlankBefore) (w t : List ℕ) → content_on q k g w t ≡ content_on q 0 g w (drop k t)
unfolding content_on
content_skip q (suc k) g w (b ∷ t) = content_skip q k g w t
content_skip q _ g w _ = refl

at_break : (bs : List ℕ) → is_break bs ≡ true → content_on 34 0 within [] (92 ∷ bs) ≡ content_on 34 0 (after (joined 0)) [] (drop (break_len bs) bs)
unfolding content_on
at_break bs e = rw e (content_skip 34 (break_len bs) (after (joined 0)) [] bs)

at_none : (bs : List ℕ) → is_break bs ≡ false → leading_escape bs ≡ None → content_on 34 0 within [] (92 ∷ bs) ≡ content_on 34 0 within [] bs
unfolding content_on
at_none bs e n = rw (e, n) refl

-- an escape in front
pub escape_break : (t : List ℕ) → front (λ b. eqb b 92) t ≡ true → is_break (drop 1 t) ≡ true → content_on 34 0 within [] t ≡ content_on 34 0 (after (joined 0)) [] (drop (break_len (drop 1 t)) (drop 1 t))
escape_break t h e = search (rules, false≢true, at_break)

pub escape_none : (t : List ℕ) → front (λ b. eqb b 92) t ≡ true → is_break (drop 1 t) ≡ false → leading_escape (drop 1 t) ≡ None → content_on 34 0 within [] t ≡ content_on 34 0 within [] (drop 1 t)
escape_none t h e n = search (rules, false≢true, at_none)

pub escape_some : (t : List ℕ) (c k : ℕ) → front (λ b. eqb b 92) t ≡ true → is_break (drop 1 t) ≡ false → leading_escape (drop 1 t) ≡ Some (c, k) → content_on 34 0 within [] t ≡ encode c ++ content_on 34 0 within [] (drop k (drop 1 t))
unfolding content_on
escape_some t c k h e n = search (rules, false≢true, encode, content_skip)

-- where it may be cut
pub boundary_slash : (t : List ℕ) → front (λ b. eqb b 92) t ≡ true → IsUtf8 t → IsCharBoundary t 1
boundary_slash t h u = search (rules, false≢true, boundary_after)

break_within : (t : List ℕ) → is_break t ≡ true → break_len t ≤ length t
break_within t h1 = search (rules, false≢true, cases_Bool, and_parts)

break_low : (t : List ℕ) → is_break t ≡ true → (k : ℕ) → k < break_len t → get_or t k 0 < 128
break_low t h1 k h2 = search (rules, false≢true, break_ascii, break_within, cases_Bool, eqb-true, and_parts)

pub boundary_break : (t : List ℕ) → is_break t ≡ true → IsUtf8 t → IsCharBoundary t (break_len t)
boundary_break t h u = boundary_after t (break_len t) u (break_within t h) (break_low t h)

pub boundary_escape : (t : List ℕ) (c k : ℕ) → leading_escape t ≡ Some (c, k) → IsUtf8 t → IsCharBoundary t k
boundary_escape t c k h u = boundary_after t k u (escape_within t c k h) (escape_ascii t c k h)

-- bytes that mean themselves
pub content_itself : (q : ℕ) (p rest : List ℕ) → NoneIn (ends_run q) p rest → content_on q 0 within [] (p ++ rest) ≡ p ++ content_on q 0 within [] rest
unfolding content_on
content_itself q [] rest h = refl
content_itself q (b ∷ p) rest h = search (rules, or_parts, content_itself q p rest h.1)

pub content_pair : (q : ℕ) (t : List ℕ) → is_pair q t ≡ true → content_on q 0 within [] t ≡ 39 ∷ content_on q 0 within [] (drop 2 t)
unfolding content_on
content_pair q t h1 = search (rules, false≢true, and_parts, eqb-true)

pair_low : (q : ℕ) (t : List ℕ) → is_pair q t ≡ true → (k : ℕ) → k < 2 → get_or t k 0 < 128
pair_low q t h1 k h2 = search (rules, false≢true, and_parts, eqb-true)

pub boundary_pair : (q : ℕ) (t : List ℕ) → is_pair q t ≡ true → IsUtf8 t → IsCharBoundary t 2
boundary_pair q t h u = boundary_after t 2 u (search (rules, false≢true, and_parts)) (pair_low q t h)

pub content_run : (q : ℕ) (t : List ℕ) → content_on q 0 within [] t ≡ take (upto (ends_run q) t) t ++ content_on q 0 within [] (drop (upto (ends_run q) t) t)
content_run q t = ap (content_on q 0 within []) (sym (take-append-drop (upto (ends_run q) t) t)) ∙ content_itself q (take (upto (ends_run q) t) t) (drop (upto (ends_run q) t) t) (none_in_cut (ends_run q) t)

-- what follows a cut is no longer, and shorter where the cut isn't in front
pub cut_within : (ends : List ℕ → Bool) (t r : List ℕ) → r ≡ drop (upto ends t) t → length r ≤ length t
cut_within ends t r e = omega (arith, ap length e, length-drop (upto ends t) t)

pub cut_shorter : (ends : List ℕ → Bool) (t r : List ℕ) → r ≡ drop (upto ends t) t → 0 < length t → ends t ≡ false → length r < length t
unfolding upto
cut_shorter ends [] r e some h = absurd (omega arith)
cut_shorter ends (b ∷ bs) r e some h = search (rules, length-drop)

-- a run begins where neither white space, a break, two quotes nor a backslash is in front
pub runs_on : (q : ℕ) (t : List ℕ) → 0 < length t → is_space t ≡ false → is_pair q t ≡ false → is_slash q t ≡ false → ends_run q t ≡ false
runs_on q t some space pair slash = search rules

-- what is shorter than a text that is no longer
pub shorter_still : (x next all : ℕ) → next ≤ all → x ≤ next → (0 < next → x < next) → 0 < all → x < all
shorter_still x next all no_longer le lt some = search (rules, cases_lt)

-- at the end all is there
pub all_folded : (q : ℕ) (j : Bool) (out rest all : List ℕ) → eqb (length rest) 0 ≡ true → out ++ content_on q 0 (before_of j) [] rest ≡ all → out ≡ all
unfolding content_on
all_folded q true out [] all h e = sym (append-nil out) ∙ e
all_folded q false out [] all h e = sym (append-nil out) ∙ e
all_folded q j out (b ∷ bs) all h e = absurd (omega (arith, eqb-true (length (b ∷ bs)) 0 h))
