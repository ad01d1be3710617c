use Rattle.yq_text.specs.Splice.{Splice}
use Rattle.yq_journal.proofs.FrontLaws.{leading_splice}
use Rattle.yq_journal.proofs.read.scan.splice.Goals as goal

pub returns-in-Some-after-2 : goal.returns-in-Some-after-2
returns-in-Some-after-2 c =
    let seen : Splice = record { at = c.in-Some.at; old = c.in-Some-3.old.items; new = c.in-Some-2.new.items } in
    leading_splice seen c.args.text.now c.in-Some.rest.now c.in-Some-2.rest.now c.in-Some-after.rest.now c.in-Some-3.rest.now c.in-Some-after-2.rest.now c.in-Some.ensures.fits
    (rw c.in-Some-2.is at c.in_ok-new.ensures.reads_back) (rw c.in-Some-3.is at c.in_ok-old.ensures.reads_back) c.in-Some.ensures.text
    (rw c.in-Some-2.is at c.in_ok-new.ensures.text) c.in-Some-after.ensures (rw c.in-Some-3.is at c.in_ok-old.ensures.text) c.in-Some-after-2.ensures
