use Rattle.std.proofs.Common.{◌++◌, ◌∙◌, ap, refl}
use Rattle.yq_text.proofs.DraftLaws.{on_ok}
use Rattle.yq_text.proofs.draft.Draft.put.Goals as goal

pub returns-clause-splices : goal.returns-clause-splices
returns-clause-splices c = on_ok _ refl

pub returns-clause-at : goal.returns-clause-at
returns-clause-at c = on_ok _ refl

pub returns-clause-gone : goal.returns-clause-gone
returns-clause-gone c = on_ok _ c.in_ok-push_gone.ensures

pub returns-clause-come : goal.returns-clause-come
returns-clause-come c = on_ok _ (c.in_ok-push_bytes.ensures ∙ ap (λ t. c.args.self.now.come.items ++ t) c.as_bytes.ensures.value)
