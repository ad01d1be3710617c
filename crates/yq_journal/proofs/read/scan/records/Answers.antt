use Rattle.std.proofs.Common.{sym, subst, true}
use Rattle.yq_journal.{specs.Json.{record_data, record_of}, proofs.FrontLaws.{FoundSoFar, found_ends, found_more}}
use Rattle.yq_journal.proofs.read.scan.records.Goals as goal

pub returns-in-Some-after : goal.returns-in-Some-after
returns-in-Some-after c =
    found_ends record_data (record_of true) c.records.found.items c.records.later c.args.text.now c.records.left.now c.in-Some-after.rest.now c.records.invariant c.in-Some-after.ensures

pub records-preserved : goal.records-preserved
records-preserved c =
    subst (λ xs. FoundSoFar record_data (record_of true) xs true c.args.text.now c.in-Some-2.rest.now) (sym c.in_ok-push.ensures.items)
    (found_more record_data (record_of true) c.records.found.items _ c.records.later c.args.text.now c.records.left.now c.in-Some-after_comma.next.now c.in-Some-2.rest.now
    c.records.invariant c.in-Some-after_comma.ensures (rw c.in-Some-2.is at c.in_ok-record.ensures))
