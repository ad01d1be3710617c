use Rattle.std.{proofs.Common.{◌≡◌, ◌++◌, replicate}, specs.String.string_bytes}
use Rattle.yq_scalar_reader.proofs.pushing.push_spaces.Given as goal

abbrev pub invariant-loop : goal.invariant-loop
invariant-loop l = string_bytes l.out ≡ string_bytes l.fn.out ++ replicate l.counter 32
