use Rattle.yq_journal.proofs.LaneLaws.{bare_from_lanes}
use Rattle.yq_journal.proofs.bare.are_bare.Goals as goal

pub returns : goal.returns
returns c = bare_from_lanes c.args.limit c.args.text.now c.args.at c.requires
