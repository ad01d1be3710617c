use Rattle.std.{proofs.Common.◌∙◌, proofs.lemmas.Result.IfOk-weaker}
use Rattle.yq_lookup.proofs.cut_text.CutText.node_at.Goals as goal

pub returns : goal.returns
returns c = IfOk-weaker c.read.result _ _ (λ o is. is ∙ c.in_ok-found.ensures.node) c.read.ensures
