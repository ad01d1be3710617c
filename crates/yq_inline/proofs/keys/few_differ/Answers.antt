use Rattle.std.proofs.Common.{arith}
use Rattle.yq_inline.proofs.KeysLaws.{few_keys}
use Rattle.yq_inline.proofs.keys.few_differ.Goals as goal

pub returns-in-empty : goal.returns-in-empty
returns-in-empty c = few_keys c.args.keys.now (omega (arith, c.in-empty.len_below))
