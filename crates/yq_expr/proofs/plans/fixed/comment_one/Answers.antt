use Rattle.std.proofs.Common.{rules}
use Rattle.yq_expr.proofs.FixedLaws.{comments_one}
use Rattle.yq_expr.proofs.plans.fixed.comment_one.Goals as goal

pub returns-in-Line : goal.returns-in-Line
returns-in-Line c = search (rules, comments_one)

pub returns-in-Head : goal.returns-in-Head
returns-in-Head c = search (rules, comments_one)
