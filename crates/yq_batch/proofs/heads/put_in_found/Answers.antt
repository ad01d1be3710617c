use Rattle.yq_batch.proofs.heads.put_in_found.Goals as goal

pub put_in_head-requires-clause-there : goal.put_in_head-requires-clause-there
put_in_head-requires-clause-there c = record { read = c.text-text.ensures.read; reports = c.requires.head }
