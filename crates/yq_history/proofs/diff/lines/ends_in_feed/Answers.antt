use Rattle.yq_history.proofs.LineCuts.{ends_in}
use Rattle.yq_history.proofs.diff.lines.ends_in_feed.Goals as goal

pub returns-in-len1-up : goal.returns-in-len1-up
returns-in-len1-up c = ends_in c.args.text.now c.in-len1-up.len_at_least
