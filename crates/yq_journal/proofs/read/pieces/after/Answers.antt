use Rattle.std.{proofs.Common.{arith, rules}, proofs.lemmas.List.{take-append-drop, length-drop, take_all, take-take}}
use Rattle.yq_journal.proofs.FrontLaws.{alike_more}
use Rattle.yq_journal.proofs.read.pieces.after.Goals as goal

pub bytes-preserved : goal.bytes-preserved
bytes-preserved c = alike_more c.args.text.now c.args.bytes.now c.bytes.i (omega arith) (omega arith) c.bytes.invariant (omega arith)

pub returns : goal.returns
returns c = search (rules, take-take, take_all, length-drop, take-append-drop)
