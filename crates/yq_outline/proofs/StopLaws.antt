-- Where lines end that are deeper than a level: after one of them and those under it.
use Rattle.std.proofs.Common.{◌≡◌, ℕ, suc, ◌+◌, ◌<◌, List, [], ◌∷◌, length, drop, Some, sym, ap, ◌∙◌, arith, rules}
use Rattle.std.{proofs.lemmas.Bool.{lt-ltb, ltb-true, cond-true}, proofs.lemmas.List.drop-drop, proofs.lemmas.Option.slice_get_within}
use Rattle.std.specs.List.{slice_get}
use Rattle.yq_outline.{specs.Ends.{IsEndOf, deeper_count}, specs.Outline.{Line, level}, proofs.LineEnds.{end_counted, end_agrees}}
use Rattle.yq_outline.proofs.EndsLaws.{drop_at}

count_more : (n : ℕ) (l : Line) (ls : List Line) → n < level l → deeper_count n (l ∷ ls) ≡ suc (deeper_count n ls)
count_more n l ls h = cond-true _ (suc (deeper_count n ls)) 0 (lt-ltb n (level l) h)

-- lines that are deeper than a level are passed with those that are deeper than one above it
passed : (n floor : ℕ) (ls : List Line) → floor < n → deeper_count floor ls ≡ deeper_count n ls + deeper_count floor (drop (deeper_count n ls) ls)
passed n floor [] h = omega arith
passed n floor (l ∷ ls) h = search (rules, count_more, ltb-true, passed n floor ls h)

pub stop_end : (ls : List Line) (at : ℕ) (l : Line) → slice_get ls at ≡ Some l → IsEndOf ls at ((at + 1) + deeper_count (level l) (drop (at + 1) ls))
stop_end ls at l is = search (rules, end_counted)

pub stop_step : (ls : List Line) (at floor next : ℕ) (l : Line) → slice_get ls at ≡ Some l → floor < level l → IsEndOf ls at next →
    at + deeper_count floor (drop at ls) ≡ next + deeper_count floor (drop next ls)
stop_step ls at floor next l is deep ends =
    let rest : List Line = drop (at + 1) ls in
    let m : ℕ = deeper_count (level l) rest in
    let within : at < length ls = slice_get_within ls at l is in
    let next_is : next ≡ (at + 1) + m = end_agrees ls at next within ends ∙ sym (end_agrees ls at ((at + 1) + m) within (stop_end ls at l is)) in
    let count : deeper_count floor (drop at ls) ≡ suc (deeper_count floor rest) = ap (deeper_count floor) (drop_at ls at l is) ∙ count_more floor l rest deep in
    let after : deeper_count floor (drop next ls) ≡ deeper_count floor (drop m rest) = ap (λ (k : ℕ). deeper_count floor (drop k ls)) next_is ∙ ap (deeper_count floor) (sym (drop-drop m (at + 1) ls)) in
    omega (arith, count, passed (level l) floor rest deep, next_is, after)
