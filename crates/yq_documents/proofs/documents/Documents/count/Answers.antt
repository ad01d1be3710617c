use Rattle.std.proofs.Common.{◌≡◌, length, rules, ◌∙◌}
use Rattle.yq_documents.proofs.HoldLaws.{count_held}
use Rattle.yq_documents.proofs.documents.Documents.count.Goals as goal

pub returns : goal.returns
returns c =
    let counted : c.len.result ≡ length c.self.inside.documents.items = search rules in
    counted ∙ count_held c.self.invariant c.self.view_is
