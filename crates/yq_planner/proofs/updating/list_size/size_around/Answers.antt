use Rattle.std.proofs.Common.{arith, refl}
use Rattle.yq_planner.proofs.ListSizeLaws.{one_size}
use Rattle.yq_planner.proofs.updating.list_size.size_around.Goals as goal

pub returns : goal.returns
returns c = λ v fit is. one_size v c.args.nested _ fit is (omega (arith, c.min.ensures)) refl
