use Rattle.std.{proofs.Common.{◌≡◌, flat_map}, specs.String.string_bytes}
use Rattle.yq_history.specs.Visible.{visible_char}
use Rattle.yq_history.proofs.visible.visible.Given as goal

abbrev pub invariant-each : goal.invariant-each
invariant-each l = string_bytes l.text ≡ flat_map visible_char l.yielded
