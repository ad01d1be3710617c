use Rattle.std.{proofs.Common.{◌∙◌, bit_and, ap}, proofs.lemmas.Nat.and_assoc, specs.Int.Bits.and_self}
use Rattle.yq_store.proofs.disk.ownership.mode_within.Goals as goal

pub returns-clause-within : goal.returns-clause-within
returns-clause-within c = and_assoc c.args.of_file _ c.args.of_file ∙ ap (bit_and _) (and_self c.args.of_file)
