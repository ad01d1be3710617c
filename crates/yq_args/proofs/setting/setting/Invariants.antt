use Rattle.std.{proofs.Common.{◌≡◌, ◌++◌, flat_map}, specs.String.string_bytes}
use Rattle.yq_args.specs.Setting.{in_text, setting_front}
use Rattle.yq_args.proofs.setting.setting.Given as goal

abbrev pub invariant-each : goal.invariant-each
invariant-each l = string_bytes l.out ≡ setting_front l.expr ++ flat_map in_text l.yielded
