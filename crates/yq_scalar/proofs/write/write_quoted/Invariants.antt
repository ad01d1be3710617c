use Rattle.std.{proofs.Common.{◌≡◌, ◌++◌, ◌==◌, encode_utf8, flat_map, if◌then◌else◌}, specs.String.string_bytes}
use Rattle.yq_core.specs.Written.{in_double, in_single}
use Rattle.yq_scalar.proofs.write.write_quoted.Given as goal

abbrev pub invariant-each : goal.invariant-each
invariant-each l = string_bytes l.out ≡ encode_utf8 l.quote ++ flat_map (λ c. if l.quote == 34 then in_double c else in_single c) l.yielded
