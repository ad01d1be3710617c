use Rattle.yq_documents.proofs.HoldLaws.{rows_held}
use Rattle.yq_documents.proofs.documents.Documents.into_rows.Goals as goal

pub returns : goal.returns
returns c = rows_held c.self.invariant c.self.view_is
