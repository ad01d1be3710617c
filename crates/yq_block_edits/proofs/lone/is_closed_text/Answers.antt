use Rattle.yq_block_edits.proofs.ClosedLaws.{closed_last}
use Rattle.yq_block_edits.proofs.lone.is_closed_text.Goals as goal

pub returns-in-len1-up : goal.returns-in-len1-up
returns-in-len1-up c = closed_last c.args.text.now c.in-len1-up.len_at_least
