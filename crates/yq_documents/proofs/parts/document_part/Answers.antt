use Rattle.std.proofs.Common.{rules}
use Rattle.yq_documents.proofs.PartNumberLaws.{document_told}
use Rattle.yq_documents.proofs.parts.document_part.Goals as goal

pub returns-clause-value : goal.returns-clause-value
returns-clause-value c = search (rules, document_told)
