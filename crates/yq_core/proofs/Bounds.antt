-- Where a text may be cut.
use Rattle.std.proofs.Common.{◌≡◌, ◌⊎◌, ℕ, suc, ◌+◌, ◌<◌, true, false, eqb, List, [], ◌∷◌, length, take, get_or, refl, ap, subst, inl, inr}
use Rattle.std.proofs.Common.{⊎_elim, arith, eqb-true, rules}
use Rattle.std.proofs.lemmas.Bool.{false≢true, cond_both, or_cases, cases_lt, false_from_ne_true}
use Rattle.std.{proofs.lemmas.Str.{IsCharBoundary-start, IsCharBoundary-end, IsCharBoundary-after_ascii}, specs.List.prefix_len}
use Rattle.std.specs.Str.{IsUtf8, IsCharBoundary}
use Rattle.yq_core.{specs.Quoted.IsQuotedText, specs.Text.unless, proofs.Boundaries.{boundary_ends, space_ascii}, proofs.Upto.upto_unless}
use Rattle.yq_core.{specs.declared.gap.GapPlace.GapPlace, specs.declared.gap.GapPlace.TheVariants.{Token, Comment}}
use Rattle.yq_core.{specs.Gaps.{goes, next_gap_place, in_comment}, specs.Nodes.{begins_with, in_name}, specs.Reading.flow_gap_len}
use Rattle.yq_core.specs.Scalars.{is_quoted}

-- a gap ends at the start, at the end, or after an ASCII byte
data Ends (t : List ℕ) (n : ℕ) : Type 0 where
  at_start : n ≡ 0 → Ends t n
  at_end : n ≡ length t → Ends t n
  following_ascii : (k : ℕ) → n ≡ k + 1 → k < length t → get_or t k 0 < 128 → Ends t n

goes_ascii : (s : GapPlace) (b : ℕ) (bs : List ℕ) → goes s b bs ≡ true → (in_comment s ≡ true) ⊎ (b < 128)
goes_ascii s b bs h1 = search (rules, ⊎_elim, space_ascii, eqb-true, or_cases)

comment_end : (t : List ℕ) → flow_gap_len Comment t ≡ 0 → t ≡ []
unfolding flow_gap_len
comment_end [] h = refl
comment_end (b ∷ t) h = absurd (omega (arith, h))

one_more : (b : ℕ) (bs : List ℕ) (n : ℕ) → (n ≡ 0 → (b < 128) ⊎ (bs ≡ [])) → Ends bs n → Ends (b ∷ bs) (suc n)
one_more b bs n h (at_start e) = ⊎_elim {0, 0, 0} (λ low. following_ascii 0 (omega (arith, e)) (omega arith) low) (λ none. at_end (rw none (ap suc e))) (h e)
one_more b bs n h (at_end e) = at_end (ap suc e)
one_more b bs n h (following_ascii k e lt low) = following_ascii (suc k) (omega arith) (omega arith) low

gap_ends : (s : GapPlace) (t : List ℕ) → Ends t (flow_gap_len s t)
unfolding flow_gap_len
gap_ends s [] = at_start refl
gap_ends s (b ∷ bs) = let again = gap_ends (next_gap_place s b) bs in
    cond_both (goes s b bs) (suc (flow_gap_len (next_gap_place s b) bs)) 0 (λ n. Ends (b ∷ bs) n)
    (λ h. one_more b bs (flow_gap_len (next_gap_place s b) bs) (λ none. ⊎_elim {0, 0, 0}
    (λ r. ⊎_elim {0, 0, 0} (λ low. inl low) (λ is. inr (comment_end bs (subst (λ (x : GapPlace). flow_gap_len x bs ≡ 0) is none))) (search rules))
    (λ low. inl low) (goes_ascii s b bs h)) again)
    (λ h. at_start refl)

boundary_by : (t : List ℕ) (n : ℕ) → IsUtf8 t → Ends t n → IsCharBoundary t n
boundary_by t n u (at_start e) = rw e (IsCharBoundary-start t u)
boundary_by t n u (at_end e) = rw e (IsCharBoundary-end t)
boundary_by t n u (following_ascii k e lt low) = rw e (IsCharBoundary-after_ascii t k u lt low)

pub boundary_gap : (t : List ℕ) (n : ℕ) → n ≡ flow_gap_len Token t → IsUtf8 t → IsCharBoundary t n
boundary_gap t n e u = rw e (boundary_by t (flow_gap_len Token t) u (gap_ends Token t))

pub boundary_first : (t : List ℕ) (k : ℕ) → k < 128 → begins_with k t ≡ true → IsUtf8 t → IsCharBoundary t 1
boundary_first [] k low h u = absurd (false≢true h)
boundary_first (b ∷ t) k low h u = IsCharBoundary-after_ascii (b ∷ t) 0 u (omega arith) (omega (arith, eqb-true b k h))

pub boundary_name : (t : List ℕ) (n : ℕ) → n ≡ prefix_len in_name t → IsCharBoundary t n
boundary_name t n e = search (rules, ⊎_elim, false_from_ne_true, eqb-true, false≢true, cases_lt, upto_unless, boundary_ends)

pub name_none : (t : List ℕ) → unless in_name t ≡ eqb (prefix_len in_name t) 0
name_none t = search rules

-- a cut of a text without a quote in front has none
pub plain_unquoted : (t : List ℕ) (n : ℕ) → is_quoted t ≡ false → is_quoted (take n t) ≡ true → IsQuotedText (take n t)
plain_unquoted t n e h = search (rules, false≢true)
