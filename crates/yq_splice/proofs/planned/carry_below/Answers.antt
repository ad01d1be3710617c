use Rattle.std.proofs.Common.{List, sym, subst}
use Rattle.yq_semantics.specs.Operations.{Operation}
use Rattle.yq_edit_laws.{specs.Carried.carry_all, specs.Valid.AreServed}
use Rattle.yq_splice.{specs.Answers.MayEdit, proofs.PlanLaws.sole_part}
use Rattle.yq_splice.proofs.planned.carry_below.Goals as goal

pub carry_part_under-requires : goal.carry_part_under-requires
carry_part_under-requires c =
    subst (λ (os : List Operation). AreServed os c.args.cut.now) (sole_part c.args.plan.now c.part-item.result c.in-len1.len_at_least c.in-len1.len_below c.part-item.is) c.requires

pub returns : goal.returns
returns c =
    subst (λ (os : List Operation). MayEdit c.carry_part_under.result (carry_all os c.args.cut.now))
    (sym (sole_part c.args.plan.now c.part-item.result c.in-len1.len_at_least c.in-len1.len_below c.part-item.is)) c.carry_part_under.ensures
