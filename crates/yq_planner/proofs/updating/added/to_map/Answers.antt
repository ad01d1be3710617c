use Rattle.std.proofs.Common.{List, sym, ap, ◌∙◌}
use Rattle.yq_core.{specs.Values.value_node, specs.Tree.children_of}
use Rattle.yq_nodes.specs.Nodes.{node_of}
use Rattle.yq_semantics.{specs.Changes.{Addition, adds, added_entries}, specs.Judgement.gives, proofs.ValueMaps.node_of-map}
use Rattle.yq_planner.proofs.updating.added.to_map.Goals as goal

pub returns : goal.returns
returns c =
    ap (added_entries (children_of (node_of c.args.node.now))) (ap value_node c.in-Map.is ∙ node_of-map c.in-Map.others)
    ∙ ap (λ (xs : List Addition). gives (adds xs)) (sym (c.in_ok-entries.ensures (children_of (node_of c.args.node.now)) c.in_ok-index.ensures))
