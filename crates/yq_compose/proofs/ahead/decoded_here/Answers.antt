use Rattle.yq_compose.proofs.AheadLaws.{here_other}
use Rattle.yq_compose.proofs.ahead.decoded_here.Goals as goal

pub returns-then-first-row : goal.returns-then-first-row
returns-then-first-row c = λ all a. here_other all c.args.row c.args.decoded.now c.first-item.result c.in-len1-up.len_at_least c.first-item.is c.if-first-row.true a
