use Rattle.yq_history.proofs.LineCuts.{none_before}
use Rattle.yq_history.proofs.diff.parts.split_after.Goals as goal

pub returns-then-is_first : goal.returns-then-is_first
returns-then-is_first c = none_before c.args.text.now
