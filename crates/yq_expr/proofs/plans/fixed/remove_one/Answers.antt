use Rattle.std.proofs.Common.{rules}
use Rattle.yq_expr.proofs.FixedLaws.{some_below}
use Rattle.yq_expr.proofs.plans.fixed.remove_one.Goals as goal

pub returns : goal.returns
returns c = search (rules, some_below)
