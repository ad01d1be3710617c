use Rattle.yq_operation.proofs.exchanged.edits.Goals as goal

pub returns-in-Replace : goal.returns-in-Replace
returns-in-Replace c = rw c.in-Replace.is c.replaced.ensures
