use Rattle.std.proofs.Common.{arith}
use Rattle.yq_journal.proofs.FrontLaws.{journal_found, rests_sound}
use Rattle.yq_journal.proofs.read.scan.scanned.Goals as goal

pub returns-clause-text : goal.returns-clause-text
returns-clause-text c =
    (journal_found c.in-Some-2.records.items c.in-Some.at c.args.bytes.now c.in-Some.rest.now c.in-Some-2.rest.now c.in-Some-after.end.now
    (rests_sound c.in-Some-2.records.items c.in-Some.at (omega arith) (omega arith)) c.in-Some.ensures.fits c.in-Some.ensures.text
    (rw c.in-Some-2.is at c.in_ok-records.ensures) c.in-Some-after.ensures (omega arith) c.in-Ok.ensures.cases.1).0

pub returns-clause-reads_back : goal.returns-clause-reads_back
returns-clause-reads_back c =
    (journal_found c.in-Some-2.records.items c.in-Some.at c.args.bytes.now c.in-Some.rest.now c.in-Some-2.rest.now c.in-Some-after.end.now
    (rests_sound c.in-Some-2.records.items c.in-Some.at (omega arith) (omega arith)) c.in-Some.ensures.fits c.in-Some.ensures.text
    (rw c.in-Some-2.is at c.in_ok-records.ensures) c.in-Some-after.ensures (omega arith) c.in-Ok.ensures.cases.1).1
