use Rattle.std.proofs.Common.{rules}
use Rattle.yq_expr.proofs.FixedLaws.{alone_by, fixed_by}
use Rattle.yq_expr.proofs.plans.fixed.fixed_path.Goals as goal

pub returns-clause-fixed : goal.returns-clause-fixed
returns-clause-fixed c = search (rules, alone_by, fixed_by)
