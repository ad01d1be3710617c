use Rattle.std.proofs.Common.{ap, ◌∙◌, rules}
use Rattle.yq_core.specs.SchemaReading.{resolve}
use Rattle.yq_planner.{proofs.ScalarValues.scalar_value, proofs.SumLaws.{int_written, int_agrees}}
use Rattle.yq_planner.proofs.updating.sum.int.Goals as goal

pub new-requires : goal.new-requires
new-requires c = ap resolve (int_agrees c.args.number c.format.result.now c.ranges.number c.format.ensures.text) ∙ int_written c.args.number c.ranges.number

pub returns : goal.returns
returns c = search (rules, scalar_value, int_agrees)
