use Rattle.std.proofs.Common.{arith, rules}
use Rattle.yq_journal.proofs.NumberLaws.{number_begins, number_more, number_zero}
use Rattle.yq_journal.proofs.read.pieces.number.Goals as goal

pub returns-then-number-eq0-clause-text : goal.returns-then-number-eq0-clause-text
returns-then-number-eq0-clause-text c = number_zero c.args.text.now (omega arith) (let d = c.in_ok-number.ensures in omega arith)

pub digits-init : goal.digits-init
digits-init c = search (rules, number_begins)

pub digits-preserved : goal.digits-preserved
digits-preserved c = search (rules, number_more)
