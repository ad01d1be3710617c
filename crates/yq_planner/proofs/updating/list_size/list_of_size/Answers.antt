use Rattle.std.proofs.Common.{rules}
use Rattle.yq_planner.proofs.ListSizeLaws.{small_for}
use Rattle.yq_planner.proofs.updating.list_size.list_of_size.Goals as goal

pub returns : goal.returns
returns c = search (rules, small_for)
