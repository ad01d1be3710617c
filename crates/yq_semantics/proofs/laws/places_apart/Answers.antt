use Rattle.yq_semantics.proofs.updates.PipePlaces.{places_are_there}
use Rattle.yq_semantics.proofs.laws.places_apart.Goals as goal

pub returns : goal.returns
returns c = places_are_there
