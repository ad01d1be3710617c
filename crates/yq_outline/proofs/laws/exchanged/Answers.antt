use Rattle.yq_outline.proofs.PlaceLaws.{exchanged}
use Rattle.yq_outline.proofs.laws.exchanged.Goals as goal

pub returns : goal.returns
returns c = exchanged
