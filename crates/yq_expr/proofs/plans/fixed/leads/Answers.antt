use Rattle.std.proofs.Common.{rules}
use Rattle.yq_expr.proofs.FixedLaws.{leads_so}
use Rattle.yq_expr.proofs.plans.fixed.leads.Goals as goal

pub returns-clause-is : goal.returns-clause-is
returns-clause-is c = search (rules, leads_so)
