use Rattle.std.proofs.Common.{rules}
use Rattle.yq_scalar_reader.proofs.SameContentLaws.{same_end}
use Rattle.yq_scalar_reader.proofs.same_content.folds_to.Goals as goal

pub returns : goal.returns
returns c = search (rules, same_end)
