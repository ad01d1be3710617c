use Rattle.std.proofs.Common.{ℕ, ◌∙◌, Global, Vec, ap, rules}
use Rattle.yq_text.proofs.draft.Draft.keep.Goals as goal

pub returns-clause-at : goal.returns-clause-at
returns-clause-at c = search rules

pub returns-clause-gone : goal.returns-clause-gone
returns-clause-gone c = ap (λ (v : Vec ℕ Global). v.items) c.replace-old.ensures.after ∙ c.new.ensures.items
