use Rattle.yq_documents.proofs.ReadLaws.{text_takes, text_again}
use Rattle.yq_tree.proofs.reading.cut_read.Goals as goal

pub returns-clause-taken : goal.returns-clause-taken
returns-clause-taken c = text_takes

pub returns-clause-reads : goal.returns-clause-reads
returns-clause-reads c = text_again
