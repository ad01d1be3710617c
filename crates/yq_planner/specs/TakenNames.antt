-- Whether a change takes away an anchor that an alias names, by the node at which it is made: as the code finds it.
use Rattle.std.{specs.Prelude.{ℕ, List, Bool, false, Some, None, Option}, specs.List.list_any}
use Rattle.yq_core.{specs.Paths.{To, child_at}, specs.Tree.{Node, Children, children_of}, specs.Anchors.Name}
use Rattle.yq_semantics.specs.Changes.{Addition, appends, overwrites, Change, replaces, adds, removes, sets_comment, refers_to}
use Rattle.yq_semantics.specs.Changes.{is_used_inside, is_used_in}

-- whether an anchor, if there is one, is named by an alias among these names (own)
abbrev pub is_used_anchor : List Name → Option (List ℕ) → Bool
is_used_anchor names None = false
is_used_anchor names (Some a) = list_any (refers_to a) names

-- whether what is overwritten by an addition to a mapping with these entries holds such an anchor (own)
abbrev pub overwrites_at : List Name → Children → Addition → Bool
overwrites_at names cs (appends k v) = false
overwrites_at names cs (overwrites k v) = is_used_inside names (child_at (To k) cs)

-- whether what is removed or overwritten at a node does (own)
abbrev pub takes_at : List Name → Node → Change → Bool
takes_at names n (replaces v) = is_used_inside names (Some n)
takes_at names n (adds xs) = list_any (overwrites_at names (children_of n)) xs
takes_at names n removes = is_used_in names (Some n)
takes_at names n (sets_comment place text) = false
