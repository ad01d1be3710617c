use Rattle.yq_compose.proofs.ReachedLaws.{bare_at}
use Rattle.yq_compose.proofs.reached.is_bare.Goals as goal

pub returns : goal.returns
returns c = λ h l is. bare_at c.args.at.level l (c.requires.reached.agrees c.requires.line.upto h l is)
