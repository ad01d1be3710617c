use Rattle.std.proofs.Common.{◌++◌, codes, decimal}
use Rattle.yq_journal.proofs.FrontLaws.{and_then}
use Rattle.yq_journal.proofs.read.scan.cursor.Goals as goal

pub returns-clause-text : goal.returns-clause-text
returns-clause-text c =
    let t = c.args.text.now in
    let key = codes "{\"at\":" in
    let at = decimal c.in_ok-at.at in
    and_then t (key ++ at) (codes ",\"pending\":null,\"records\":") c.in_ok-at.rest.now c.in_ok-after-2.field-0.now
    (and_then t key at c.in_ok-after.field-0.now c.in_ok-at.rest.now c.in_ok-after.ensures c.in_ok-at.ensures.text) c.in_ok-after-2.ensures
