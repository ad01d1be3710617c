use Rattle.yq_documents.proofs.ReadyLaws.{cut_ready}
use Rattle.yq_documents.proofs.documents.Documents.are_ready.Goals as goal

pub returns : goal.returns
returns c = cut_ready c.lines_shaped.ensures.shaped c.lines_shaped.ensures.tree c.args.self.now c.rows-rows.ensures.cut c.rows-rows.ensures.sound
