-- Reading (own; you may skip it): the ends of the parts of a text, as the code keeps them: where they are in it, and how long their pieces are.
use Rattle.std.{specs.Prelude.{ℕ, ◌-◌, nat_lt, List, [], ◌∷◌, length, map, take, drop, if◌then◌else◌}, specs.List.All}
use Rattle.yq_text.specs.declared.halves.Halves.{Halves}
use Rattle.yq_row_table.{specs.Offsets.AreCuts, specs.View.Bound}
use Rattle.yq_row_table.specs.declared.ends.EndPlace as declared

-- the gap and the marker's line at the end of a part, cut from the front of a text (own)
abbrev pub bound_at : List ℕ → declared.EndPlace → Bound
bound_at t e = record { rows = e.rows; end = take e.gap t; marker = take e.marker (drop e.gap t) }

-- the same where that end is in the text (own)
abbrev pub bound_in : List ℕ → declared.EndPlace → Bound
bound_in whole e = bound_at (drop e.start whole) e

-- the same of several parts (own)
abbrev pub bounds_in : List ℕ → List declared.EndPlace → List Bound
bounds_in whole ends = map (bound_in whole) ends

-- what comes before the end of a part, its gap and the marker's line are in a text, each cut between characters (own)
unfoldable pub EndIsLocated : List ℕ → declared.EndPlace → Type 0
EndIsLocated whole e = AreCuts whole (e.start ∷ e.gap ∷ e.marker ∷ [])

-- the same of several parts (own)
abbrev pub EndsAreLocated : List ℕ → List declared.EndPlace → Type 0
EndsAreLocated whole ends = All (EndIsLocated whole) ends

-- what comes after so many bytes of a text, in the half in which they end; where both meet there, in the second one (own)
abbrev pub half_from : Halves → ℕ → List ℕ
half_from text n = if nat_lt n (length text.front.now) then drop n text.front.now else drop (n - length text.front.now) text.back.now

-- the end of a part, in the half of a text in which it begins (own)
abbrev pub bound_in_half : Halves → declared.EndPlace → Bound
bound_in_half text e = bound_at (half_from text e.start) e

-- the same of several parts (own)
abbrev pub bounds_in_halves : Halves → List declared.EndPlace → List Bound
bounds_in_halves text ends = map (bound_in_half text) ends

-- the end of a part that begins after so many bytes, before which so many rows are, by its lengths (own)
abbrev pub end_at : ℕ → ℕ → (end marker : List ℕ) → declared.EndPlace
end_at start rows end marker = record { rows = rows; start = start; gap = length end; marker = length marker }
