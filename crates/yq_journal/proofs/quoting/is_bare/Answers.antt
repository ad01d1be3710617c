use Rattle.yq_journal.proofs.LaneLaws.{bare_where}
use Rattle.yq_journal.proofs.quoting.is_bare.Goals as goal

pub returns : goal.returns
returns c = bare_where 255 c.is_bare_below.result c.args.bytes.now c.is_bare_below.ensures
