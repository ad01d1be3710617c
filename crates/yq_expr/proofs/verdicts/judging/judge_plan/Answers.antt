use Rattle.std.proofs.Common.{sym, subst}
use Rattle.yq_documents.specs.Reading.{documents_of}
use Rattle.yq_semantics.{specs.Judgement.Judges, specs.Rooms.room_of, specs.View.update_of}
use Rattle.yq_expr.proofs.VerdictLaws.{plan_judged}
use Rattle.yq_expr.proofs.verdicts.judging.judge_plan.Goals as goal

pub returns : goal.returns
returns c = subst (Judges (λ _. tt) c.judge_update.result) (sym (plan_judged (update_of c.args.update.now) (room_of c.args.documents.now) (documents_of c.args.documents.now))) c.judge_update.ensures
