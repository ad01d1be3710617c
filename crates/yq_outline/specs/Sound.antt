-- Reading (own; you may skip it: the clauses `found` and `only` show that it agrees with the grammar): what is asked of a document's lines.
use Rattle.std.specs.Prelude.{ℕ, nat_le, nat_eq, Option, Some, None, Bool, true, false, ◌&&◌}
use Rattle.yq_core.{specs.Tree.{Node, Children}, specs.Keys.{depth, deepest, has_unique_keys, each_has_unique_keys}}
use Rattle.yq_outline.{specs.Outline.{LineMark, Bare, Key, Dash, Line, level, Outline, value}, specs.Group.{is_fine, is_open}}

-- whether an outline means a node in which at most d collections are nested and no mapping has a key twice
abbrev pub is_sound_outline : ℕ → Outline → Bool
is_sound_outline d o = is_fine o && (nat_le (depth (value o)) d && has_unique_keys (value o))

-- whether at most d collections are nested in a head, and no mapping in it has a key twice
abbrev pub head_is_sound : ℕ → Option Node → Bool
head_is_sound d None = true
head_is_sound d (Some n) = nat_le (depth n) d && has_unique_keys n

-- the same of each item or entry
abbrev pub are_sound : ℕ → Children → Bool
are_sound d cs = nat_le (deepest cs) d && each_has_unique_keys cs

-- whether a line is at a level, has no head where lines are under it, and a head as is asked
abbrev pub line_is_sound : ℕ → ℕ → Line → Outline → Bool
line_is_sound d n l under = nat_eq (level l) n && (is_open l.head under && head_is_sound d l.head)

-- the same of a line and of the lines under it
abbrev pub are_sound_under : ℕ → ℕ → Line → Outline → Bool
are_sound_under d n l under = line_is_sound d n l under && is_sound_outline d under

-- whether a line begins an item or an entry, and is no node itself
abbrev pub is_entry_line : LineMark → Bool
is_entry_line Bare = false
is_entry_line (Key k) = true
is_entry_line Dash = true
