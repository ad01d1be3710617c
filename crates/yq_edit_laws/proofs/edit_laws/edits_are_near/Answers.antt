use Rattle.yq_edit_laws.proofs.NearLaws.{edits_are_near}
use Rattle.yq_edit_laws.proofs.edit_laws.edits_are_near.Goals as goal

pub returns : goal.returns
returns c = edits_are_near
