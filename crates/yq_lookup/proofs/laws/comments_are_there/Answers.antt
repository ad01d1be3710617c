use Rattle.yq_places.proofs.CommentLocationLaws.{comments_are_there}
use Rattle.yq_lookup.proofs.laws.comments_are_there.Goals as goal

pub returns : goal.returns
returns c = comments_are_there
