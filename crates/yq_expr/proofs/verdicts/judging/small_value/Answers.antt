use Rattle.std.{proofs.Common.{sym, ◌∙◌, rules}, proofs.lemmas.Bool.false≢true}
use Rattle.yq_expr.proofs.VerdictLaws.{ok_given, ok_some}
use Rattle.yq_expr.proofs.verdicts.judging.small_value.Goals as goal

pub returns-then-adds-clause-free : goal.returns-then-adds-clause-free
returns-then-adds-clause-free c = search (rules, ok_given)

pub returns-clause-free : goal.returns-clause-free
returns-clause-free c = ok_some c.substitute.result (λ is. absurd (false≢true (sym c.if-adds.false ∙ is)))
