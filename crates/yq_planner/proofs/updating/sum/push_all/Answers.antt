use Rattle.std.{proofs.Common.rules, proofs.lemmas.List.{map_push, nil_from_length}}
use Rattle.yq_planner.proofs.SumLaws.{followed_none, item_more}
use Rattle.yq_planner.proofs.updating.sum.push_all.Goals as goal

pub each-preserved : goal.each-preserved
each-preserved c = search (rules, map_push, item_more)

pub returns : goal.returns
returns c = search (rules, nil_from_length, followed_none)
