use Rattle.std.{proofs.Common.{◌≡◌, encode_utf8, flat_map}, specs.String.string_bytes}
use Rattle.yq_args.specs.JournalNames.{escaped_path}
use Rattle.yq_args.proofs.journal_name.escaped_path.Given as goal

abbrev pub invariant-each : goal.invariant-each
invariant-each l = string_bytes l.out ≡ flat_map (λ c. escaped_path (encode_utf8 c)) l.yielded
