use Rattle.std.{proofs.Common.{◌≡◌, ℕ, List, option_map}, specs.Option.option_or}
use Rattle.yq_core.{specs.Paths.{To, child_at}, specs.Tree.children_of}
use Rattle.yq_nodes.{specs.Children.left_of, specs.Nodes.node_of}
use Rattle.yq_outline.specs.Counts.{count}
use Rattle.yq_planner.specs.Indexes.{get_text}
use Rattle.yq_planner.proofs.updating.entry_index.index_of.Given as goal

abbrev pub invariant-each : goal.invariant-each
invariant-each l = (k : List ℕ) → option_or (option_map node_of (get_text k l.index)) (child_at (To k) (left_of l.entries)) ≡ child_at (To k) (children_of (node_of l.fn.node))

abbrev pub decreases-each : goal.decreases-each
decreases-each l = count (left_of l.entries)
