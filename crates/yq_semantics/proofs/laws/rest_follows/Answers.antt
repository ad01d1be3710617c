use Rattle.yq_semantics.proofs.updates.AlikeRooms.{rest_follow, rest_after}
use Rattle.yq_semantics.proofs.laws.rest_follows.Goals as goal

pub returns-clause-follow : goal.returns-clause-follow
returns-clause-follow c op ops old new docs h = rest_follow op ops old new docs h.leaves h.follow

pub returns-clause-after : goal.returns-clause-after
returns-clause-after c op ops old new docs h = rest_after op ops old new docs h.leaves h.follow
