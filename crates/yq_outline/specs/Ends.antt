-- Reading (own; you may skip it: the clauses `found` and `only` show that it agrees with the grammar): where lines end and steps lead, by indexes.
use Rattle.std.specs.Prelude.{◌≡◌, ℕ, zero, suc, ◌+◌, ◌<◌, ◌≤◌, nat_lt, List, [], ◌∷◌, drop, length, slice_get, Option, Some, None}
use Rattle.std.specs.Prelude.{option_map, option_and_then, Bool, true, false, if◌then◌else◌}
use Rattle.yq_core.specs.Paths.{Step}
use Rattle.yq_outline.{specs.Outline.{Line, level, Outline, end, row}, specs.Group.{deeper_lines, shallow, group}}
use Rattle.yq_outline.specs.Places.{lines_before, FoundLine, find}

-- from a line on, the first lines that are deeper than a level, as an outline
abbrev pub part : List Line → ℕ → ℕ → Outline
part ls start floor = deeper_lines floor (group (drop start ls))

-- the lines after those, as an outline
abbrev pub rest : List Line → ℕ → ℕ → Outline
rest ls start floor = shallow floor (group (drop start ls))

-- whether an outline has no lines
abbrev pub has_no_lines : Outline → Bool
has_no_lines end = true
has_no_lines (row l u a) = false

-- the lines under line i end before line next
abbrev pub IsEndOf : List Line → ℕ → ℕ → Type 0
IsEndOf ls i next =
    (i < next) × (next ≤ length ls) × ((l : Line) → slice_get ls i ≡ Some l → rest ls (i + 1) (level l) ≡ group (drop next ls))

-- how many lines in front are deeper than a level (8.2)
abbrev pub deeper_count : ℕ → List Line → ℕ
deeper_count n [] = 0
deeper_count n (l ∷ ls) = if nat_lt n (level l) then suc (deeper_count n ls) else 0

-- where the lines under line n end, by the number of lines before that: they are the deeper ones that follow it (8.2)
abbrev pub lines_end : ℕ → List Line → ℕ
lines_end n [] = 0
lines_end zero (l ∷ ls) = suc (deeper_count (level l) ls)
lines_end (suc n) (l ∷ ls) = suc (lines_end n ls)

-- the index of a line that was found, where no steps go on in its head
abbrev pub found_line : FoundLine → List Step → Option ℕ
found_line f [] = Some (length (lines_before f.place))
found_line f (s ∷ ss) = None

-- the line of the entry or item to which steps lead, by its index; the root has none
abbrev pub line_at_steps : List Step → List Line → Option ℕ
line_at_steps [] ls = None
line_at_steps (s ∷ ss) ls = option_and_then (λ x. found_line x.0 x.1) (find s ss (group ls))

-- the line to which steps lead, by its index, and the steps that go on in its head; the root has none
abbrev pub reached : List Step → List Line → Option (ℕ × List Step)
reached [] ls = None
reached (s ∷ ss) ls = option_map (λ x. (length (lines_before x.0.place), x.1)) (find s ss (group ls))
