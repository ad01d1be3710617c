use Rattle.std.proofs.Common.{rules}
use Rattle.yq_places.proofs.KnownFronts.{all_put}
use Rattle.yq_places.proofs.places.way.put_item.Goals as goal

pub returns : goal.returns
returns c = search (rules, all_put)
