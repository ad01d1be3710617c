-- Steps of the loop over a gap.
use Rattle.std.proofs.Common.{◌≡◌, ℕ, ◌+◌, ◌<◌, ◌≤◌, true, false, List, [], ◌∷◌, length, get_or, refl, arith}
use Rattle.yq_core.{proofs.Across.{rest_of, rest_is}, specs.Gaps.{goes, next_gap_place}, specs.Reading.{flow_gap_len, gap_end}}
use Rattle.yq_core.specs.declared.gap.GapPlace.{GapPlace}

-- where the gap doesn't go on
pub gap_stops : (before : GapPlace) (t : List ℕ) → 1 ≤ length t → goes before (get_or t 0 0) (rest_of t) ≡ false → (flow_gap_len before t ≡ 0) × (gap_end before t ≡ before)
unfolding flow_gap_len gap_end
gap_stops before [] le h = absurd (omega arith)
gap_stops before (b ∷ bs) le h = let e = rw rest_is at h in (rw e refl, rw e refl)

-- over one byte
pub gap_goes : (before : GapPlace) (t : List ℕ) → 1 ≤ length t → goes before (get_or t 0 0) (rest_of t) ≡ true →
    (flow_gap_len before t ≡ 1 + flow_gap_len (next_gap_place before (get_or t 0 0)) (rest_of t)) × (gap_end before t ≡ gap_end (next_gap_place before (get_or t 0 0)) (rest_of t))
unfolding flow_gap_len gap_end
gap_goes before [] le h = absurd (omega arith)
gap_goes before (b ∷ bs) le h = let e = rw rest_is at h in (rw (e, rest_is) (omega arith), rw (e, rest_is) refl)

-- at the end
pub gap_none : (before : GapPlace) (t : List ℕ) → length t < 1 → (flow_gap_len before t ≡ 0) × (gap_end before t ≡ before)
unfolding flow_gap_len gap_end
gap_none before [] lt = (refl, refl)
gap_none before (b ∷ bs) lt = absurd (omega arith)
