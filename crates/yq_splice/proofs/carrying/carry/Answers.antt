use Rattle.yq_documents.specs.Reading.{cut_of}
use Rattle.yq_splice.proofs.SessionLaws.{has_cut, reading_cut}
use Rattle.yq_splice.proofs.carrying.carry.Goals as goal

pub new-requires : goal.new-requires
new-requires c = has_cut c.args.text.now (cut_of c.args.text.now) _ (reading_cut c.args.text.now c.requires) c.in_ok-rows.ensures
