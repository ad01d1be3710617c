use Rattle.std.proofs.Common.{rules}
use Rattle.yq_expr.proofs.VerdictLaws.{assigned}
use Rattle.yq_expr.proofs.verdicts.judging.judge_assigned.Goals as goal

pub returns : goal.returns
returns c = search (rules, assigned)
