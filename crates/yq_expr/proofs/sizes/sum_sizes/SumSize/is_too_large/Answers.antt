use Rattle.std.proofs.Common.{rules, arith}
use Rattle.yq_expr.proofs.SumLaws.{large_text}
use Rattle.yq_expr.proofs.sizes.sum_sizes.SumSize.is_too_large.Goals as goal

pub returns-in-Text : goal.returns-in-Text
returns-in-Text c = λ more j sized.
    large_text c.args.before.now c.in-Text.length c.saturating_add.result c.utf8.before (omega (arith, c.saturating_add.ensures)) (search (rules, more)) j (rw c.in-Text.is at sized)
