use Rattle.yq_core.specs.Anchors.{names_of}
use Rattle.yq_nodes.specs.Nodes.{node_of}
use Rattle.yq_planner.{proofs.IndexLaws.without_aliases, proofs.UsedLaws.none_refer}
use Rattle.yq_planner.proofs.updating.anchors.aliases_of.Goals as goal

pub returns-then-not-may_refer : goal.returns-then-not-may_refer
returns-then-not-may_refer c =
    let names = names_of (node_of c.args.node.now) in
    without_aliases names c.new-aliases.result c.new-aliases.ensures.empty (λ k. none_refer names k (c.may_refer.ensures c.if-not-may_refer.true))
