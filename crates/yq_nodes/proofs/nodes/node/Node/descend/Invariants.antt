use Rattle.std.proofs.Common.{◌≡◌, drop, map}
use Rattle.yq_core.specs.Entries.{tree_step}
use Rattle.yq_outline.specs.Labelled.{labelled_from}
use Rattle.yq_nodes.specs.Nodes.{labelled_of}
use Rattle.yq_nodes.proofs.nodes.node.Node.descend.Given as goal

-- where the steps lead from the first node, those that are left lead from here
abbrev pub invariant-steps : goal.invariant-steps
invariant-steps l = labelled_from (map tree_step l.steps) (labelled_of l.fn.self) ≡ labelled_from (map tree_step (drop l.step-index l.steps)) (labelled_of l.node)
