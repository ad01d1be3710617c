use Rattle.yq_journal.proofs.StepLaws.{back_parts}
use Rattle.yq_journal.proofs.piece_table.parted.Goals as goal

pub returns-then-back-clause-parts : goal.returns-then-back-clause-parts
returns-then-back-clause-parts c = back_parts c.args.back _ c.args.splices.now _ _ c.if-back.true c.split_at.ensures.front c.split_at.ensures.back
