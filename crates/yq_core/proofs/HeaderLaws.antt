-- The header of a block scalar, both ways.
use Rattle.std.proofs.Common.{◌≡◌, ℕ, suc, ◌+◌, ◌≤◌, true, ◌&&◌, ◌||◌, List, [], ◌∷◌, ◌++◌, length, take, Option, Some, None, sym, ap, ◌∙◌}
use Rattle.std.proofs.Common.{subst, ⊎_elim, eqb-true, append_assoc, append-nil, length-append, rules}
use Rattle.std.proofs.lemmas.Bool.{false≢true, cond_both, or_cases, leb-true, le-leb, and_parts, cases_Bool}
use Rattle.std.{proofs.lemmas.List.take-append-drop, proofs.Math.Seq.{take-append_seam, drop-append_seam}, proofs.lemmas.Option.same_Some}
use Rattle.yq_core.{proofs.Bools.chosen, proofs.LineLaws.line_cut, proofs.SpaceLaws.white_drop}
use Rattle.yq_core.specs.Block.{style_indicator, sign_text, IsIndicators, is_tail}
use Rattle.yq_core.specs.BlockReading.{read_style, digit_at, sign_at, Indicators, indicators_at, values, read_header_tail}
use Rattle.yq_core.{specs.Lines.{is_hash, is_blank}, specs.Text.{is_white, front, past_white, line_len, is_line}}
use Rattle.yq_core.{specs.declared.block_header.BlockStyle.BlockStyle, specs.declared.block_header.Chomping.Chomping}
use Rattle.yq_core.specs.declared.block_header.Chomping.TheVariants as chompings

-- the header's mark
pub style_takes : (t : List ℕ) (x : BlockStyle × List ℕ) → read_style t ≡ Some x → t ≡ style_indicator x.0 ∷ x.1
unfolding read_style
style_takes t x h1 = search (rules, ⊎_elim, same_Some, eqb-true, chosen)

abbrev pub IsIndicatorsCut : List ℕ → Indicators → Type 0
IsIndicatorsCut t m = (t ≡ m.2 ++ m.3) × IsIndicators m.0 m.1 m.2

pub indicators_takes : (t : List ℕ) → IsIndicatorsCut t (indicators_at t)
unfolding indicators_at
indicators_takes t = search (rules, cond_both, and_parts, leb-true, eqb-true, append_assoc)

pub indicators_length : (t : List ℕ) → length t ≡ length (indicators_at t).2 + length (indicators_at t).3
indicators_length t = ap length (indicators_takes t).0 ∙ length-append (indicators_at t).2 (indicators_at t).3

-- the header's line
abbrev pub IsTailCut : List ℕ → List ℕ × List ℕ → Type 0
IsTailCut t x = (t ≡ x.0 ++ x.1) × (is_tail x.0 ≡ true)

pub tail_takes : (t : List ℕ) (x : List ℕ × List ℕ) → read_header_tail t ≡ Some x → IsTailCut t x
unfolding read_header_tail
tail_takes t x h = ⊎_elim {0, 0, 0}
    (λ w. subst (IsTailCut t) (same_Some _ _ w.1) (sym (take-append-drop (line_len t) t), w.0))
    (λ w. cc) (chosen (is_tail (take (line_len t) t)) h)

pub tail_again : (p rest : List ℕ) → is_tail p ≡ true → read_header_tail (p ++ rest) ≡ Some (p, rest)
unfolding read_header_tail
tail_again p rest h = search (rules, and_parts, line_cut, take-append_seam, drop-append_seam)

tail_low : (b : ℕ) (l : List ℕ) → (is_blank (b ∷ l) || (front is_white (b ∷ l) && is_hash (past_white (b ∷ l)))) ≡ true → b ≤ 32
tail_low b l h = search (rules, ⊎_elim, eqb-true, or_cases, white_drop, and_parts, cases_Bool)

-- no digit and no sign is in front
abbrev pub NoIndicator : List ℕ → Type 0
NoIndicator t = (digit_at t ≡ (None, t)) × (sign_at t ≡ (chompings.Clip, t))

pub tail_no_indicator : (p t : List ℕ) → is_tail p ≡ true → NoIndicator (p ++ t)
unfolding is_line
tail_no_indicator p t h = search (rules, false≢true, and_parts, tail_low)

-- digit and sign
digit_again : (d : ℕ) (t : List ℕ) → 1 ≤ d → d ≤ 9 → digit_at ((48 + d) ∷ t) ≡ (Some d, t)
digit_again d t a b = search (rules, le-leb)

first_again : (d : ℕ) (c : Chomping) (t : List ℕ) → 1 ≤ d → d ≤ 9 → NoIndicator t → indicators_at ((48 + d) ∷ (sign_text c ++ t)) ≡ (Some d, c, (48 + d) ∷ sign_text c, t)
unfolding indicators_at
first_again d c t a b h = search (rules, digit_again)

again_after : (d : ℕ) (c : Chomping) (t : List ℕ) → 1 ≤ d → d ≤ 9 → NoIndicator t → indicators_at (sign_text c ++ ((48 + d) ∷ t)) ≡ (Some d, c, sign_text c ++ (48 + d) ∷ [], t)
unfolding indicators_at
again_after d c t h1 h2 h3 = search (rules, digit_again, first_again)

pub indicators_again : (digit : Option ℕ) (c : Chomping) (p t : List ℕ) → IsIndicators digit c p → NoIndicator t → indicators_at (p ++ t) ≡ (digit, c, p, t)
unfolding indicators_at
indicators_again digit c p t h1 h2 = search (rules, ⊎_elim, append-nil, first_again, append_assoc, again_after)

-- where its pieces are
pub style_length : (t : List ℕ) (s : BlockStyle) (u : List ℕ) → read_style t ≡ Some (s, u) → length t ≡ suc (length u)
style_length t s u h = ap length (style_takes t (s, u) h)

pub head_length : (t u r : List ℕ) (s : BlockStyle) (d : Option ℕ) (c : Chomping) → read_style t ≡ Some (s, u) → (d, c, r) ≡ values (indicators_at u) → length t ≡ 1 + length (indicators_at u).2 + length r
head_length t u r s d c h m = search (rules, style_length, indicators_length)

pub tail_length : (t p r : List ℕ) → read_header_tail t ≡ Some (p, r) → length t ≡ length p + length r
tail_length t p r h = ap length (tail_takes t (p, r) h).0 ∙ length-append p r
