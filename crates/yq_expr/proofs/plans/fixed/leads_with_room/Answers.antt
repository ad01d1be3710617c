use Rattle.std.proofs.Common.{rules}
use Rattle.yq_expr.proofs.plans.fixed.leads_with_room.Goals as goal

pub returns-clause-is : goal.returns-clause-is
returns-clause-is c = search (rules, c.in_ok-leads.ensures.is)
