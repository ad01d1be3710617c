use Rattle.yq_history.proofs.VisibleLaws.{bare_on}
use Rattle.yq_history.proofs.visible.is_bare.Goals as goal

pub returns : goal.returns
returns c = bare_on c.is_bare_below.result c.args.text.now c.is_bare_below.ensures
