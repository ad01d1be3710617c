use Rattle.std.proofs.lemmas.List.{nil_from_length}
use Rattle.yq_planner.proofs.IndexLaws.{no_aliases}
use Rattle.yq_expr.proofs.VerdictLaws.{ok_some}
use Rattle.yq_expr.proofs.verdicts.judging.small_entries.Goals as goal

pub returns-then-is_empty-clause-free : goal.returns-then-is_empty-clause-free
returns-then-is_empty-clause-free c =
    ok_some c.substitute.result (λ names h. no_aliases names c.args.aliases.now (nil_from_length _ (c.is_empty.ensures.0 c.if-is_empty.true)) h)
