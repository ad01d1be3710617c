use Rattle.std.proofs.lemmas.Result.{IfOk-weaker}
use Rattle.yq_batch.proofs.RowOpenAnswers.{may_add}
use Rattle.yq_batch.proofs.any_row.change_inside.Goals as goal

pub returns-in-Append-Some-clause-puts : goal.returns-in-Append-Some-clause-puts
returns-in-Append-Some-clause-puts c =
    IfOk-weaker c.added_at_end.result _ _ (λ o h. may_add c.args.cut.now c.args.doc c.args.end.now c.in-Append-Some.end c.args.op.now o c.in-Append-Some.is-1 h) c.added_at_end.ensures
