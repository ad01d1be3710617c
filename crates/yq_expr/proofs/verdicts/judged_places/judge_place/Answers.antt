use Rattle.std.proofs.Common.{map, rules}
use Rattle.yq_core.specs.Values.{value_node}
use Rattle.yq_eval.specs.PlaceView.{place_of}
use Rattle.yq_semantics.{specs.RightValues.right_value, specs.View.term_of}
use Rattle.yq_expr.{specs.SumSizes.HasSmall, proofs.VerdictLaws.small_put}
use Rattle.yq_expr.proofs.verdicts.judged_places.judge_place.Goals as goal

pub returns-in-Some-clause-verdict : goal.returns-in-Some-clause-verdict
returns-in-Some-clause-verdict c = λ root named within.
    let p = place_of c.args.place.now in
    let j = right_value c.args.effect.now.doc (map term_of c.in-Modify.terms.now) p in
    let large : HasSmall j (value_node c.in-Some.small) = search (rules, c.in-Some.is) in
    search (rules, small_put, c.in-Modify.is, c.judge_effect-in-Some.ensures, large)
