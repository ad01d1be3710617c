use Rattle.std.proofs.Common.{sym, subst, true}
use Rattle.yq_journal.{specs.Json.{change_data, splice_of}, proofs.FrontLaws.{FoundSoFar, found_ends, found_more}}
use Rattle.yq_journal.proofs.read.scan.splices.Goals as goal

pub returns-in-Some-after : goal.returns-in-Some-after
returns-in-Some-after c =
    found_ends change_data splice_of c.splices.found.items c.splices.later c.args.text.now c.splices.left.now c.in-Some-after.rest.now c.splices.invariant c.in-Some-after.ensures

pub splices-preserved : goal.splices-preserved
splices-preserved c =
    subst (λ xs. FoundSoFar change_data splice_of xs true c.args.text.now c.in-Some-2.rest.now) (sym c.in_ok-push.ensures.items)
    (found_more change_data splice_of c.splices.found.items _ c.splices.later c.args.text.now c.splices.left.now c.in-Some-after_comma.next.now c.in-Some-2.rest.now
    c.splices.invariant c.in-Some-after_comma.ensures (rw c.in-Some-2.is at c.in_ok-splice.ensures))
