use Rattle.std.{proofs.Common.rules, proofs.lemmas.List.nil_from_length}
use Rattle.yq_planner.proofs.updating.sum.put_entries.Goals as goal

pub each-preserved : goal.each-preserved
each-preserved c = search rules

pub returns : goal.returns
returns c = search (rules, nil_from_length)
