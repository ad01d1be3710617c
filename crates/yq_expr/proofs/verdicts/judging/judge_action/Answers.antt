use Rattle.yq_nodes.specs.Nodes.{node_of}
use Rattle.yq_expr.proofs.verdicts.judging.judge_action.Goals as goal

pub returns : goal.returns
returns c = c.judge_found.ensures (node_of c.args.found.now.document.root) c.in_ok-aliases.ensures c.requires.within
