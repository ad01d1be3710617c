-- Nodes of items and entries inside an inline node (own).
use Rattle.std.specs.Prelude.{◌≡◌, ◌+◌, Some, true, ℕ}
use Rattle.yq_core.{specs.Entries.EntryPieces, specs.Nodes.IsFlowNode}

-- An item or entry so many steps inside a node: its node is an inline node there, in which one collection less may be nested for each step
-- (YAML 1.2.2, section 7.4; own).
pub record IsNodeWithin (depth steps : ℕ) (y : EntryPieces) : Type 0 where
  pub left : ℕ
  pub depth_is : depth ≡ steps + left
  pub node : IsFlowNode true (Some 0) left y.node y.rest
