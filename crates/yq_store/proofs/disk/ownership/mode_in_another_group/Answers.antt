use Rattle.std.proofs.Common.{bit_and, bit_or, ap}
use Rattle.yq_store.proofs.ModeLaws.{and_within_both, of_everyone}
use Rattle.yq_store.proofs.disk.ownership.mode_in_another_group.Goals as goal

pub returns-clause-exact : goal.returns-clause-exact
returns-clause-exact c = ap (λ x. bit_and (bit_and c.args.mode 511) (bit_or 455 x)) (of_everyone c.args.mode)

pub returns-clause-within : goal.returns-clause-within
returns-clause-within c = and_within_both c.args.mode _ _
