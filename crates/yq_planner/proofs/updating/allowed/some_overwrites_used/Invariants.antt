use Rattle.std.{proofs.Common.{◌≡◌, List, drop}, specs.List.list_any}
use Rattle.yq_core.{specs.Anchors.Name, specs.Tree.children_of}
use Rattle.yq_nodes.specs.Nodes.{node_of}
use Rattle.yq_planner.{specs.ChangeView.addition_of, specs.Indexes.HasAliases, specs.TakenNames.overwrites_at}
use Rattle.yq_planner.proofs.updating.allowed.some_overwrites_used.Given as goal

abbrev pub invariant-each : goal.invariant-each
invariant-each l = (names : List Name) → HasAliases names l.aliases →
    list_any (λ x. overwrites_at names (children_of (node_of l.node)) (addition_of x)) (drop l.addition-index l.additions) ≡ list_any (λ x. overwrites_at names (children_of (node_of l.node)) (addition_of x)) l.additions
