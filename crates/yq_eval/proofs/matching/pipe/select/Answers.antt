use Rattle.std.{proofs.Common.{Err, ap, ◌∙◌}, proofs.lemmas.Result.err_from_is_err_and}
use Rattle.yq_eval.proofs.EachLaws.{failed}
use Rattle.yq_eval.proofs.matching.pipe.select.Goals as goal

pub returns-in_err-select_each : goal.returns-in_err-select_each
returns-in_err-select_each c =
    let p = err_from_is_err_and c.from_residual.result c.from_residual.ensures.1 in
    failed _ _ _ _ (p.1 ∙ ap Err p.2) (rw c.deref.ensures.value at c.in_err-select_each.ensures)
