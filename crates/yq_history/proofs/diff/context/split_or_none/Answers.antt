use Rattle.yq_history.proofs.LineCuts.{none_before}
use Rattle.yq_history.proofs.diff.context.split_or_none.Goals as goal

pub returns-in-None : goal.returns-in-None
returns-in-None c = none_before c.args.text.now
