use Rattle.yq_compose.proofs.AheadLaws.{ahead_at, ahead_end, ahead_over}
use Rattle.yq_compose.proofs.ahead.ahead_of.Goals as goal

pub passed-init : goal.passed-init
passed-init c = λ all first le a. (first, le, a)

pub returns-then-first-row : goal.returns-then-first-row
returns-then-first-row c = λ all first le a. ahead_at all c.args.row c.passed.left.now c.first-item.result c.in-len1-up.len_at_least c.first-item.is c.if-first-row.true (c.passed.invariant all first le a)

pub passed-preserved : goal.passed-preserved
passed-preserved c = λ all first le a. ahead_over all c.args.row c.passed.left.now c.first-item.result c.in-len1-up.len_at_least c.first-item.is c.if-first-row.false (c.passed.invariant all first le a)

pub returns : goal.returns
returns c = λ all first le a. ahead_end all c.args.row c.passed.left.now c.in_default.len_below (c.passed.invariant all first le a)
