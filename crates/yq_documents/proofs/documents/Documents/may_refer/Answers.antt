use Rattle.yq_documents.proofs.HoldLaws.{alias_free_held}
use Rattle.yq_documents.proofs.documents.Documents.may_refer.Goals as goal

pub returns : goal.returns
returns c = alias_free_held c.self.invariant c.self.view_is
