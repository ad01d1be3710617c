use Rattle.std.proofs.Common.{rules}
use Rattle.yq_lookup.proofs.DocumentFronts.{one_stays}
use Rattle.yq_lookup.proofs.cut_text.CutText.documents_before.Goals as goal

pub returns : goal.returns
returns c = search (rules, one_stays)
