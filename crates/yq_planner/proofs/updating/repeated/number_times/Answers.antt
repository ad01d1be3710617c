use Rattle.std.{proofs.Common.{FitsSigned, sym, subst, ◌∙◌, arith}, proofs.lemmas.Int.to_z-of_z}
use mir.Syntax.{w64}
use Rattle.yq_planner.proofs.RepeatedLaws.{fits_number, number_more}
use Rattle.yq_planner.proofs.updating.repeated.number_times.Goals as goal

pub sums-preserved : goal.sums-preserved
sums-preserved c =
    let fits = c.in-Some.ensures.0 in
    let is = c.in-Some.ensures.1 in
    record {
      so_far = number_more c.sums.left _ _ _ _ (omega (arith, c.sums-test.true)) (fits_number _ fits)
          (to_z-of_z w64 c.in-Some.sum (subst (FitsSigned w64) (sym is) fits) ∙ is) c.sums.invariant.so_far;
    }
