use Rattle.yq_documents.specs.Reading.{cut_of}
use Rattle.yq_edit_laws.proofs.CutLaws.{cut_read}
use Rattle.yq_splice.proofs.SessionLaws.{reading_cut}
use Rattle.yq_splice.proofs.carrying.cut_again.Goals as goal

pub returns-in-Ok : goal.returns-in-Ok
returns-in-Ok c = let t = c.args.text.now in let is = c.in-Ok.ensures.only (cut_of t) (cut_read t (cut_of t) (reading_cut t c.requires)) in cc
