use Rattle.std.{proofs.Common.rules, proofs.lemmas.List.length-map}
use Rattle.yq_planner.proofs.ScalarValues.{scalar_value}
use Rattle.yq_expr.proofs.FixedLaws.{term_by}
use Rattle.yq_expr.proofs.plans.fixed.put_scalar.Goals as goal

pub returns : goal.returns
returns c = search (rules, term_by, scalar_value, length-map)
