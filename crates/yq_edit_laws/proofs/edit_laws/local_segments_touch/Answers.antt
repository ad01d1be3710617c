use Rattle.yq_edit_laws.proofs.TouchLaws.{local_touches}
use Rattle.yq_edit_laws.proofs.edit_laws.local_segments_touch.Goals as goal

pub returns : goal.returns
returns c = local_touches
