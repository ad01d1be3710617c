use Rattle.std.proofs.Common.{arith}
use Rattle.yq_rows.proofs.touched.past_end.Goals as goal

pub overflow_add-result : goal.overflow_add-result
overflow_add-result c = omega (arith, c.in-Some.ensures.within)
