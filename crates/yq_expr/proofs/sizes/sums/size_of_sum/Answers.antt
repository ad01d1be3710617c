use Rattle.std.proofs.Common.{◌-◌, drop, length, take}
use Rattle.yq_expr.{specs.SumSizes.{GivesSized, found_term}, proofs.ChangeLaws.split_first, proofs.SumLaws.sum_of_all}
use Rattle.yq_expr.proofs.sizes.sums.size_of_sum.Goals as goal

pub returns-in-Some : goal.returns-in-Some
returns-in-Some c =
    let first : GivesSized (found_term c.args.doc c.args.place.now c.first-item.result) c.in-Some.size = rw c.in-Some.is at c.in_ok-size.ensures in
    let others = take (length c.args.terms.now - 1) (drop 1 c.args.terms.now) in
    sum_of_all c.args.doc c.args.place.now c.first-item.result others c.args.terms.now c.in-Some.size c.size_with_terms.result first c.size_with_terms.ensures
    (split_first c.args.terms.now c.first-item.result c.in-len1-up.len_at_least c.first-item.is)
