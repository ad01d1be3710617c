use Rattle.yq_documents.proofs.ReadLaws.{exact_reading}
use Rattle.yq_tree.proofs.reading_laws.exact_reading.Goals as goal

pub returns : goal.returns
returns c = exact_reading
