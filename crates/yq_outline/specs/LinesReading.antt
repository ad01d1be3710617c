-- Reading (own; you may skip it: the clauses `found` and `only` show that it agrees with the grammar): what is asked of all lines of a document.
use Rattle.std.{specs.Prelude.{ℕ, List, [], ◌∷◌, Bool, true, false, ◌&&◌, Option, Some, None}, specs.List.list_any, specs.Str.bytes_eq}
use Rattle.yq_core.{specs.Tree.{Node, alias, scalar, list}, specs.Inline.depth_limit, specs.Anchors.{Name, Anchors, Refers, names_of}}
use Rattle.yq_outline.{specs.Group.group, specs.Names.line_names, specs.Outline.{LineMark, Bare, Key, Dash, Line, value}}
use Rattle.yq_outline.specs.Sound.{is_sound_outline}
use Rattle.yq_core.specs.Tree as tree

-- whether a node, if there is one, is no alias
abbrev pub is_no_alias : Option Node → Bool
is_no_alias None = true
is_no_alias (Some (alias name)) = false
is_no_alias (Some (scalar a kind text)) = true
is_no_alias (Some (list a cs)) = true
is_no_alias (Some (tree.map a cs)) = true

-- whether the node that begins with a line may take an anchor
abbrev pub may_take : LineMark → Option (List ℕ) → Option Node → Bool
may_take Bare None head = is_no_alias head
may_take Bare (Some a) head = false
may_take (Key k) a head = true
may_take Dash a head = true

-- whether an anchor before lines is the only one of their node
abbrev pub is_free : Option (List ℕ) → List Line → Bool
is_free None ls = true
is_free (Some a) [] = true
is_free (Some a) (l ∷ ls) = may_take l.mark l.anchor l.head

-- whether no node has two anchors, and no alias has one
abbrev pub have_one_anchor_each : List Line → Bool
have_one_anchor_each [] = true
have_one_anchor_each (l ∷ ls) = is_free l.anchor ls && have_one_anchor_each ls

-- whether each alias has the name of an anchor before it, or of one that is known already
abbrev pub are_bound : List (List ℕ) → List Name → Bool
are_bound known [] = true
are_bound known (Anchors a ∷ names) = are_bound (a ∷ known) names
are_bound known (Refers a ∷ names) = list_any (bytes_eq a) known && are_bound known names

-- whether no node has two anchors, no alias has one, and each alias has an earlier anchor, by the names in lines
abbrev pub names_are_sound : List Line → Bool
names_are_sound ls = have_one_anchor_each ls && are_bound [] (line_names ls)

-- whether lines mean a node, no mapping has a key twice, not too many collections are nested, and anchors and aliases are as is asked
abbrev pub lines_are_sound : List Line → Bool
lines_are_sound ls = have_one_anchor_each ls && (are_bound [] (names_of (value (group ls))) && is_sound_outline depth_limit (group ls))
