use Rattle.std.proofs.Common.{◌≡◌, drop}
use Rattle.yq_core.{specs.Trees.parts_tree, specs.View.entries_end, specs.Paths.To}
use Rattle.yq_outline.specs.Labelled.{labelled_at}
use Rattle.yq_nodes.proofs.nodes.flow.entry_at.Given as goal

-- what is looked for is what is looked for from here on
abbrev pub invariant-each : goal.invariant-each
invariant-each l = labelled_at (To l.key) (parts_tree (entries_end (drop l.entry-index l.entries))) ≡ labelled_at (To l.fn.key) (parts_tree (entries_end l.fn.entries))
