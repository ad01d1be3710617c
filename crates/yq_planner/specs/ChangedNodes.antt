-- Nodes of a tree that are changed (own).
use Rattle.std.{specs.Prelude.{◌≡◌, ℕ, List, Some, length}, specs.Borrow.Bor, specs.BTreeMap.BTreeMap}
use Rattle.yq_core.{specs.Anchors.names_of, specs.Paths.{Step, node_at}, specs.Tree.Node}
use Rattle.yq_planner.specs.Indexes.{HasAliases}

-- A path of so many steps leads to a node of a tree, and a map has the aliases among the tree's names (own).
pub record LeadsToNode {X : Type 0} (root : Node) (path : List Step) (aliases : BTreeMap (Bor (List ℕ)) X) (node : Node) (steps : ℕ) : Type 0 where
  pub named : HasAliases (names_of root) aliases
  pub here : node_at path root ≡ Some node
  pub long : length path ≡ steps
