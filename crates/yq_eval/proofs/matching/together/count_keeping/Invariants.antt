use Rattle.std.proofs.Common.{◌≡◌}
use Rattle.yq_eval.proofs.matching.together.count_keeping.Given as goal

abbrev pub invariant-stages : goal.invariant-stages
invariant-stages l = record {
  counted : l.count ≡ l.stage-index;
}
