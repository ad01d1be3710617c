use Rattle.std.{proofs.Common.rules, proofs.lemmas.List.take-take}
use Rattle.yq_edit_laws.proofs.edit.edit_at.Goals as goal

pub returns : goal.returns
returns c = search (rules, take-take)
