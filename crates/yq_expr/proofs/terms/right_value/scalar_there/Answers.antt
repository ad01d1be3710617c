use Rattle.std.proofs.Common.{rules}
use Rattle.yq_expr.proofs.SummandLaws.{scalar_copied}
use Rattle.yq_expr.proofs.terms.right_value.scalar_there.Goals as goal

pub returns-in-Scalar : goal.returns-in-Scalar
returns-in-Scalar c = search (rules, scalar_copied)
