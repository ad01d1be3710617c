-- A collection of one item or entry (YAML 1.2.2, section 3.2.1; own).
use Rattle.std.specs.Prelude.{ℕ, List, Option, Some, None}
use Rattle.yq_core.specs.Tree.{Node, none, child, list, map, key_label}

-- a list of one item, or a mapping of one entry (own)
abbrev pub singleton : Option (List ℕ) → Node → Node
singleton None v = list None (child (key_label None) v none)
singleton (Some k) v = map None (child (key_label (Some k)) v none)
