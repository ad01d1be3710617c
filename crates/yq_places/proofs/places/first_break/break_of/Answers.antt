use Rattle.std.proofs.Common.{arith, length-append, rules}
use Rattle.yq_places.proofs.FirstBreakLaws.{feed_agrees, return_agrees}
use Rattle.yq_places.proofs.places.first_break.break_of.Goals as goal

pub returns-then-len-eq2 : goal.returns-then-len-eq2
returns-then-len-eq2 c = search (rules, return_agrees)

pub returns-else-len-eq2 : goal.returns-else-len-eq2
returns-else-len-eq2 c = search (rules, feed_agrees)

pub len-requires : goal.len-requires
len-requires c = omega (arith, length-append c.split_break.result.1.front.now c.split_break.result.1.back.now)
