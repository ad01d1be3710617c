use Rattle.std.{proofs.Common.{arith, eqb}, proofs.lemmas.List.Sums.count_by-le-length}
use Rattle.yq_row_walk.proofs.extent.before_last.Goals as goal

pub returns-then-dashes-le1 : goal.returns-then-dashes-le1
returns-then-dashes-le1 c = omega (arith, count_by-le-length (λ b. eqb b 45) c.args.dashes.now, c.if-dashes-le1.true)
