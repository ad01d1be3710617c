use Rattle.yq_inline.proofs.AlongLaws.{front_found}
use Rattle.yq_inline.proofs.along.read_front.Goals as goal

pub returns-in-Ok : goal.returns-in-Ok
returns-in-Ok c = let n = c.args.node in front_found n.flow n.spaces n.depth n.text.now _ _ c.in-Ok.ensures.read
