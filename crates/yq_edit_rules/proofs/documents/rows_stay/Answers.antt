use Rattle.yq_edit_rules.proofs.AnchorLaws.{anchors_stay, lines_among}
use Rattle.yq_edit_rules.proofs.documents.rows_stay.Goals as goal

pub returns-clause-anchors : goal.returns-clause-anchors
returns-clause-anchors c = anchors_stay

pub returns-clause-among : goal.returns-clause-among
returns-clause-among c = lines_among
