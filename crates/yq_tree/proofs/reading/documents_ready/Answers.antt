use Rattle.yq_documents.proofs.ReadyLaws.{read_ready}
use Rattle.yq_tree.proofs.reading.documents_ready.Goals as goal

pub returns : goal.returns
returns c = read_ready c.lines_shaped.ensures.shaped c.lines_shaped.ensures.tree
