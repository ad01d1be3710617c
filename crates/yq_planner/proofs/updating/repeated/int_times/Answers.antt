use Rattle.std.proofs.Common.{sym, ◌∙◌}
use Rattle.yq_core.specs.Values.{value_node}
use Rattle.yq_planner.proofs.RepeatedLaws.{ints_added}
use Rattle.yq_planner.proofs.updating.repeated.int_times.Goals as goal

pub returns : goal.returns
returns c =
    ints_added c.args.times c.args.one.now c.args.other.now c.in-Some.first c.in-Some-int_value.added c.in-Some-number_times.total (value_node c.in_ok-sum.sum)
    c.requires (sym c.int_value.ensures.exact ∙ c.in-Some.is) (sym c.int_value-2.ensures.exact ∙ c.in-Some-int_value.is)
    (sym c.number_times.ensures ∙ c.in-Some-number_times.is) c.in_ok-sum.ensures
