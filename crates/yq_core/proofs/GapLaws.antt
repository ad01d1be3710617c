-- A gap, read and spelled.
use Rattle.std.proofs.Common.{◌≡◌, ℕ, suc, true, ◌&&◌, List, [], ◌∷◌, ◌++◌, length, take, drop, Some, refl, ap, rules}
use Rattle.std.{proofs.lemmas.Bool.{cond_both, not-true}, proofs.lemmas.List.take-append-drop}
use Rattle.std.{proofs.Math.Seq.{take-append_seam, drop-append_seam}, proofs.lemmas.Option.same_Some}
use Rattle.yq_core.{specs.Text.is_marker, specs.declared.gap.GapPlace.GapPlace, specs.declared.gap.GapPlace.TheVariants.Token}
use Rattle.yq_core.specs.Gaps.{goes, next_gap_place, gap_place_after, at_line_start, AllGo, stops, IsInlineGap}
use Rattle.yq_core.{specs.Reading.{flow_gap_len, gap_end, read_gap}, proofs.Binds.not_then}

abbrev Cut : GapPlace → List ℕ → ℕ → Type 0
Cut s t n = AllGo s (take n t) (drop n t) × (stops (gap_place_after s (take n t)) (drop n t) ≡ true) × (gap_end s t ≡ gap_place_after s (take n t))

gap_cut : (s : GapPlace) (t : List ℕ) → Cut s t (flow_gap_len s t)
unfolding flow_gap_len gap_end
gap_cut s [] = (tt, refl, refl)
gap_cut s (b ∷ bs) = let again = gap_cut (next_gap_place s b) bs in
    cond_both (goes s b bs) (suc (flow_gap_len (next_gap_place s b) bs)) 0 (λ n. Cut s (b ∷ bs) n)
    (λ h. ((rw (take-append-drop (flow_gap_len (next_gap_place s b) bs) bs) h, again.0), again.1, rw h again.2))
    (λ h. (tt, rw h refl, rw h refl))

pub gap_takes : (t : List ℕ) (x : List ℕ × List ℕ) → read_gap t ≡ Some x → (t ≡ x.0 ++ x.1) × IsInlineGap x.0 x.1
unfolding read_gap
gap_takes t x h =
    let n = flow_gap_len Token t in
    let c = gap_cut Token t in
    let g = not_then (at_line_start (gap_end Token t) && is_marker (drop n t)) h in
    search (rules, same_Some, take-append-drop)

pub gap_append : (s : GapPlace) (p rest : List ℕ) → AllGo s p rest → stops (gap_place_after s p) rest ≡ true → (flow_gap_len s (p ++ rest) ≡ length p) × (gap_end s (p ++ rest) ≡ gap_place_after s p)
unfolding flow_gap_len gap_end
gap_append s [] [] h e = (refl, refl)
gap_append s [] (b ∷ rest) h e = let g = not-true (goes s b rest) e in (rw g refl, rw g refl)
gap_append s (b ∷ p) rest h e = let again = gap_append (next_gap_place s b) p rest h.1 e in (rw h.0 (ap suc again.0), rw h.0 again.1)

pub gap_again : (p rest : List ℕ) → IsInlineGap p rest → read_gap (p ++ rest) ≡ Some (p, rest)
unfolding read_gap
gap_again p rest h = search (rules, gap_append, drop-append_seam, take-append_seam)

-- no gap
pub none_gap : (rest : List ℕ) → stops Token rest ≡ true → IsInlineGap [] rest
none_gap rest h = record { inside = tt; ends = h; unmarked = refl }
