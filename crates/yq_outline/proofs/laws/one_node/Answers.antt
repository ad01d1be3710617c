use Rattle.yq_outline.proofs.Unique.{one_node}
use Rattle.yq_outline.proofs.laws.one_node.Goals as goal

pub returns : goal.returns
returns c = one_node
