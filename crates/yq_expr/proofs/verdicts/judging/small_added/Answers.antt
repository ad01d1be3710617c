use Rattle.std.{proofs.Common.{sym, ◌∙◌, rules}, proofs.lemmas.Bool.false≢true}
use Rattle.yq_expr.proofs.VerdictLaws.{ok_given, ok_some}
use Rattle.yq_expr.proofs.verdicts.judging.small_added.Goals as goal

pub returns-then-is_mapping-clause-free : goal.returns-then-is_mapping-clause-free
returns-then-is_mapping-clause-free c = search (rules, ok_given)

pub returns-clause-free : goal.returns-clause-free
returns-clause-free c = ok_some c.substitute.result (λ is. absurd (false≢true (sym (sym c.is_mapping.ensures ∙ c.if-is_mapping.false) ∙ is)))
