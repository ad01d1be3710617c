use Rattle.yq_inline.{proofs.NodeForms.ends, proofs.PartSteps.node_read_here}
use Rattle.yq_inline.proofs.parts.past_borrowed.Goals as goal

pub unreachable-requires : goal.unreachable-requires
unreachable-requires c =
    let n = c.args.node in
    let e = ends n.total n.depth n.text.now n.borrowed in
    node_read_here n.depth n.text.now e.rest e.passed c.in-Err.ensures.read
