-- Maps by texts, as the code makes them of nodes.
use Rattle.std.{specs.Prelude.{◌≡◌, ℕ, List, Option, Some, None, option_map, is_some, if◌then◌else◌}, specs.BTreeMap.{BTreeMap, get_by}}
use Rattle.std.{specs.Borrow.Bor, specs.Cmp.Lexicographic.slice_cmp, specs.List.list_any, specs.Ordering.nat_cmp}
use Rattle.yq_core.{specs.Paths.{To, child_at, key_is}, specs.Tree.{Label, Node, Children}, specs.Anchors.Name}
use Rattle.yq_nodes.specs.Nodes.{node_of}
use Rattle.yq_semantics.specs.Changes.{refers_to}
use Rattle.yq_nodes.specs.declared.nodes.node.Node as nodes

-- what a map has for a text (own)
abbrev pub get_text : {X : Type 0} → List ℕ → BTreeMap (Bor (List ℕ)) X → Option X
get_text k m = get_by (λ j. slice_cmp nat_cmp k j.now) m

-- a map has the value of each key of these entries (own)
abbrev pub IsIndex : Children → BTreeMap (Bor (List ℕ)) nodes.Node → Type 0
IsIndex cs m = (k : List ℕ) → option_map node_of (get_text k m) ≡ child_at (To k) cs

-- a map has the name of each alias among these names, and no other text (own)
abbrev pub HasAliases : {X : Type 0} → List Name → BTreeMap (Bor (List ℕ)) X → Type 0
HasAliases names m = (k : List ℕ) → is_some (get_text k m) ≡ list_any (refers_to k) names

-- what is kept for a key when one more item or entry comes: the first one of the key (own)
abbrev pub kept_first : List ℕ → Option Node → Label → Node → Option Node
kept_first k (Some old) label n = Some old
kept_first k None label n = if key_is k label.key then Some n else None
