-- Reading (own; you may skip it: the clauses `found` and `only` show that it agrees with the grammar): where a step leads among lines, by indexes.
use Rattle.std.specs.Prelude.{ℕ, ◌+◌, List, [], ◌∷◌, length, slice_get, Option, Some, None, option_map, option_and_then, Bool, true, false}
use Rattle.yq_core.{specs.Paths.Step, specs.Tree.Node}
use Rattle.yq_outline.{specs.Ends.part, specs.Outline.{LineMark, Bare, Key, Dash, Line, level, Outline, end, row}}
use Rattle.yq_outline.specs.Places.{lines_before, FoundLine, find}

-- where a line is that was found among those from a place on, with those under it
abbrev pub position : ℕ → Option FoundLine → Option (ℕ × Line × Outline)
position start found = option_map (λ f. (start + length (lines_before f.place), f.line, f.under)) found

-- a line by its index, with those under it
abbrev pub line_here : List Line → Option ℕ → Option (ℕ × Line × Outline)
line_here ls None = None
line_here ls (Some i) = option_map (λ l. (i, l, part ls (i + 1) (level l))) (slice_get ls i)

-- a line begins with no mark
abbrev pub has_no_mark : LineMark → Bool
has_no_mark Bare = true
has_no_mark (Key k) = false
has_no_mark Dash = false

-- the first of lines is a node itself
abbrev pub begins_with_node : Outline → Bool
begins_with_node end = false
begins_with_node (row l u a) = has_no_mark l.mark

-- where steps lead among the lines from one on that are deeper than a level: to a line, by its index, and on in its head
abbrev pub reach_in : List Line → ℕ → ℕ → Step → List Step → Option (ℕ × List Step)
reach_in ls first floor s ss = option_map (λ x. (first + length (lines_before x.0.place), x.1)) (find s ss (part ls first floor))

-- the first where there is a head, else the second
abbrev pub if_head : Option Node → Option (ℕ × List Step) → Option (ℕ × List Step) → Option (ℕ × List Step)
if_head None x y = y
if_head (Some n) x y = x

-- where steps lead from a line: on in its head, or under it
abbrev pub reach_under : List Line → ℕ → Step → List Step → Line → Option (ℕ × List Step)
reach_under ls i s ss l = if_head l.head (Some (i, s ∷ ss)) (reach_in ls (i + 1) (level l) s ss)

-- where steps lead from a line, by its index, or from the root
abbrev pub reach_from : List Line → Option ℕ → List Step → Option (ℕ × List Step)
reach_from ls None [] = None
reach_from ls None (s ∷ ss) = reach_in ls 0 0 s ss
reach_from ls (Some i) [] = Some (i, [])
reach_from ls (Some i) (s ∷ ss) = option_and_then (reach_under ls i s ss) (slice_get ls i)
