use Rattle.yq_batch.proofs.LeftLoops.{entries_are, part_missing, part_there}
use Rattle.yq_batch.proofs.left.entry_place.Goals as goal

pub returns-in-Some : goal.returns-in-Some
returns-in-Some c =
    part_there _ _ _ entries_are c.deref.result.now c.args.entries.now.items c.args.index c.in-Some.entry.now (c.in-Some.entry.now.1.start, c.end_of.result)
    c.deref.ensures.value c.in-Some.ensures.lookup.0 c.in-Some.ensures.lookup.1 (λ i. (c.in-Some.entry.now.1.start, c.end_of.ensures i))

pub returns-in-None : goal.returns-in-None
returns-in-None c = part_missing _ _ _ entries_are c.deref.result.now c.args.entries.now.items c.args.index c.deref.ensures.value c.in-None.ensures.lookup.0
