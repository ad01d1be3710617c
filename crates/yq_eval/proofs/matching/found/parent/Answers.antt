use Rattle.yq_eval.proofs.StepLaws.{parent_gives}
use Rattle.yq_eval.proofs.matching.found.parent.Goals as goal

pub returns-in-List : goal.returns-in-List
returns-in-List c =
    parent_gives c.args.places.now c.place-item.result c.kind.result c.in-len1.len_at_least c.in-len1.len_below c.place-item.is c.in_default-missing.is
    c.kind.ensures c.in-List.is
