use Rattle.yq_edit_laws.proofs.MoreLaws.{more_is_put}
use Rattle.yq_edit_laws.proofs.edit_laws.more_is_put.Goals as goal

pub returns : goal.returns
returns c = more_is_put
