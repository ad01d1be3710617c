use Rattle.std.proofs.Common.{rules}
use Rattle.yq_expr.proofs.FixedLaws.{not_so, sole_by}
use Rattle.yq_expr.proofs.plans.fixed.is_sole.Goals as goal

pub returns-then-count-eq1 : goal.returns-then-count-eq1
returns-then-count-eq1 c = search (rules, sole_by, not_so, c.root.ensures.node, c.may_refer.ensures)
