use Rattle.yq_documents.proofs.ReadLaws.{one_reading}
use Rattle.yq_tree.proofs.reading.one_reading.Goals as goal

pub returns : goal.returns
returns c = one_reading
