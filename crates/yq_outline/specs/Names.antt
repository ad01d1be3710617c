-- Reading (own; you may skip it: the clauses `found` and `only` show that it agrees with the grammar): the anchors and aliases of lines.
use Rattle.std.specs.Prelude.{ℕ, Bool, true, false, List, [], ◌∷◌, ◌++◌, Option, Some, None, ⊤}
use Rattle.yq_core.{specs.Tree.{Node, alias, scalar, list}, specs.Anchors.{Name, Anchors, Refers, anchor_names, names_of, IsNoAlias}}
use Rattle.yq_outline.specs.Outline.{Line}
use Rattle.yq_core.specs.Tree as tree

-- whether a name is that of an alias (7.1)
abbrev pub is_reference : Name → Bool
is_reference (Anchors a) = false
is_reference (Refers a) = true

-- the anchors and aliases in a head, in the order of the text
abbrev pub head_names : Option Node → List Name
head_names None = []
head_names (Some h) = names_of h

-- the anchors and aliases of lines, in the order of the text
abbrev pub line_names : List Line → List Name
line_names [] = []
line_names (l ∷ ls) = anchor_names l.anchor (head_names l.head ++ line_names ls)

-- the anchor before a head is none of the head (6.9.2)
abbrev pub IsUnnamed : Option Node → Type 0
IsUnnamed None = ⊤
IsUnnamed (Some (alias name)) = ⊤
IsUnnamed (Some (scalar None kind text)) = ⊤
IsUnnamed (Some (scalar (Some a) kind text)) = ⊥
IsUnnamed (Some (list None cs)) = ⊤
IsUnnamed (Some (list (Some a) cs)) = ⊥
IsUnnamed (Some (tree.map None cs)) = ⊤
IsUnnamed (Some (tree.map (Some a) cs)) = ⊥

-- an alias has no anchor before it (7.1)
abbrev pub MayBeNamed : Option (List ℕ) → Option Node → Type 0
MayBeNamed None head = ⊤
MayBeNamed (Some a) head = IsNoAlias head

-- the anchors before heads are those of the lines, and no alias has one (6.9.2, 7.1)
abbrev pub HaveHeadsApart : List Line → Type 0
HaveHeadsApart [] = ⊤
HaveHeadsApart (l ∷ ls) = (IsUnnamed l.head × MayBeNamed l.anchor l.head) × HaveHeadsApart ls
