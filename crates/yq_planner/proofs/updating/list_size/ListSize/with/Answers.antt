use Rattle.std.proofs.Common.{arith}
use Rattle.yq_planner.proofs.ListSizeLaws.{both_sizes}
use Rattle.yq_planner.proofs.updating.list_size.ListSize.with.Goals as goal

pub returns : goal.returns
returns c = λ cs ds h k.
    both_sizes cs ds c.args.self.now c.args.other.now _ h k (omega (arith, c.max.ensures)) (omega (arith, c.saturating_add.ensures))
