use Rattle.yq_batch.proofs.head_removals.remove_in_head.Goals as goal

pub remove_each-requires-clause-there : goal.remove_each-requires-clause-there
remove_each-requires-clause-there c = record { read = c.text-text.ensures.read; reports = c.requires.head }
