use Rattle.std.proofs.Common.{append_assoc, rules}
use Rattle.yq_core.{proofs.FoldLaws.{content_next, space_ends}, proofs.ItemLaws.{cut_within, shorter_still}}
use Rattle.yq_scalar_reader.proofs.folding.push_next.Goals as goal

pub fold_item-item-requires : goal.fold_item-item-requires
fold_item-item-requires c = search (rules, space_ends)

pub returns-clause-value : goal.returns-clause-value
returns-clause-value c = search (rules, append_assoc, content_next)

pub returns-clause-shorter : goal.returns-clause-shorter
returns-clause-shorter c = search (rules, cut_within, shorter_still)
