use Rattle.yq_compose.proofs.ReachedLaws.{key_at}
use Rattle.yq_compose.proofs.reached.has_key.Goals as goal

pub returns : goal.returns
returns c = λ h l is. key_at c.args.at.level l (c.requires.reached.agrees c.requires.line.upto h l is)
