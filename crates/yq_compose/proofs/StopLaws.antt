-- Where lines end that are deeper than a level, line by line.
use Rattle.std.proofs.Common.{◌≡◌, ℕ, zero, suc, ◌+◌, ◌<◌, List, [], ◌∷◌, drop, Some, true, not, refl, ap, ◌∙◌, arith}
use Rattle.std.{proofs.lemmas.Bool.{lt-ltb, cond-true, cond-false}, specs.List.slice_get}
use Rattle.yq_outline.{specs.Ends.{deeper_count, part, has_no_lines}, specs.Outline.{Line, level}, proofs.EndsLaws.{deeper_at, drop_at}}

-- one that is deeper is counted
pub count_here : (ls : List Line) (at floor : ℕ) (l : Line) → slice_get ls at ≡ Some l → floor < level l → deeper_count floor (drop at ls) ≡ suc (deeper_count floor (drop (suc at) ls))
count_here ls at floor l is deep =
    let one : at + 1 ≡ suc at = omega arith in
    ap (deeper_count floor) (drop_at ls at l is)
    ∙ (cond-true _ _ _ (lt-ltb floor (level l) deep) ∙ ap (λ (j : ℕ). suc (deeper_count floor (drop j ls))) one)

-- none are there
pub count_none : (ls : List Line) (i floor : ℕ) → has_no_lines (part ls i floor) ≡ true → deeper_count floor (drop i ls) ≡ 0
count_none [] zero floor e = refl
count_none [] (suc i) floor e = refl
count_none (l ∷ ls) zero floor e = cond-false _ _ _ (deeper_at (l ∷ ls) 0 floor l refl ∙ ap not e)
count_none (l ∷ ls) (suc i) floor e = count_none ls i floor e

-- one is there alone
pub count_one : (ls : List Line) (at next floor : ℕ) (l : Line) → slice_get ls at ≡ Some l → floor < level l → next ≡ at + 1 → has_no_lines (part ls next floor) ≡ true → next ≡ at + deeper_count floor (drop at ls)
count_one ls at next floor l is deep e none =
    let same : next ≡ suc at = omega (arith, e) in
    omega (arith, e, count_here ls at floor l is deep, count_none ls next floor none, ap (λ (j : ℕ). deeper_count floor (drop j ls)) same)
