use Rattle.std.proofs.Common.{rules}
use Rattle.yq_expr.proofs.AllChanges.{modified}
use Rattle.yq_expr.proofs.plans.changes.assign.Goals as goal

pub returns-in-Modify-clause-changes : goal.returns-in-Modify-clause-changes
returns-in-Modify-clause-changes c = search (rules, modified, c.at_found.ensures.changes)
