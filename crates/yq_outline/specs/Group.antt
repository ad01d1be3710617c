-- Reading (own; you may skip it: the clauses `found` and `only` show that it agrees with the grammar): lines grouped from the last to the first.
use Rattle.std.specs.Prelude.{ℕ, nat_lt, nat_eq, ◌+◌, List, [], ◌∷◌, Option, Some, None, Bool, true, false, ◌&&◌, if◌then◌else◌}
use Rattle.yq_core.specs.Tree.{Node}
use Rattle.yq_outline.specs.Outline.{LineMark, Bare, Key, Dash, Line, level, Outline, end, row, value}

-- the first lines of an outline that are deeper than n, with what is under them
abbrev pub deeper_lines : ℕ → Outline → Outline
deeper_lines n end = end
deeper_lines n (row l under after) = if nat_lt n (level l) then row l under (deeper_lines n after) else end

-- what of an outline is after those
abbrev pub shallow : ℕ → Outline → Outline
shallow n end = end
shallow n (row l under after) = if nat_lt n (level l) then shallow n after else row l under after

-- a line before an outline, of which the first deeper lines come under it
abbrev pub lead : Line → Outline → Outline
lead l o = row l (deeper_lines (level l) o) (shallow (level l) o)

-- lines as an outline: under each line the deeper ones that follow it
abbrev pub group : List Line → Outline
group [] = end
group (l ∷ ls) = lead l (group ls)

-- whether an entry with a head has nothing under it
abbrev pub is_open : Option Node → Outline → Bool
is_open None under = true
is_open (Some n) end = true
is_open (Some n) (row l u a) = false

-- whether a node on a line of its own is there, and is alone
abbrev pub is_whole : LineMark → Option Node → Outline → Bool
is_whole Bare (Some n) end = true
is_whole Bare (Some n) (row l u a) = false
is_whole Bare None after = false
is_whole (Key k) head after = true
is_whole Dash head after = true

-- the level of an outline's first line, or n where it has no lines
abbrev pub level_or : ℕ → Outline → ℕ
level_or n end = n
level_or n (row l u a) = level l

-- whether an outline is even at a level
abbrev pub is_even : ℕ → Outline → Bool
is_even n end = true
is_even n (row l under after) =
    nat_eq (level l) n && (is_open l.head under && (is_whole l.mark l.head after
    && (nat_lt n (level_or (level l + 1) under) && (is_even (level_or (level l + 1) under) under && is_even n after))))

-- whether an outline is even at the level of its first line
abbrev pub is_fine : Outline → Bool
is_fine o = is_even (level_or 0 o) o

-- the node that lines mean, if their outline is even
abbrev pub are_there : List Line → Option Node
are_there ls = let o = group ls in if is_fine o then Some (value o) else None
