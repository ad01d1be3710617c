use Rattle.std.proofs.Common.{◌∙◌}
use Rattle.yq_batch.proofs.LeftLoops.{items_are, parts_counted}
use Rattle.yq_batch.proofs.left.count_items.Goals as goal

pub returns : goal.returns
returns c = c.len.ensures ∙ (c.args.items.now.ok.0 ∙ parts_counted _ _ _ items_are c.args.items.now.items)
