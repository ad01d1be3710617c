use Rattle.yq_compose.{proofs.BorrowedDepths.{never_unread, read_leading}, proofs.DecidingLaws.decides_as}
use Rattle.yq_compose.proofs.inline_fault.borrowed_fault.Goals as goal

pub returns-in-Ok-clause-sound : goal.returns-in-Ok-clause-sound
returns-in-Ok-clause-sound c = decides_as c.node_fault.result _ _ (read_leading c.args.node.total _ c.args.node.depth c.args.depth c.args.node.text.now _ _ c.in-Ok.ensures.read) c.node_fault.ensures.sound

pub returns-in-Err-clause-sound : goal.returns-in-Err-clause-sound
returns-in-Err-clause-sound c = never_unread c.in-Err.e _ c.args.node.depth c.args.node.text.now _ c.args.node.borrowed c.in-Err.ensures.read
