use Rattle.std.{proofs.Common.{◌≡◌, ◌+◌, ◌-◌, ◌≤◌, length, drop}, specs.List.prefix_len}
use Rattle.yq_core.specs.SchemaReading.{is_digit}
use Rattle.yq_core.proofs.schema.past_digits.Given as goal

abbrev pub decreases-digits : goal.decreases-digits
decreases-digits l = length l.text - l.n

abbrev pub invariant-digits : goal.invariant-digits
invariant-digits l = record { within : l.n ≤ length l.text; so_far : l.n + prefix_len (is_digit l.base) (drop l.n l.text) ≡ prefix_len (is_digit l.base) l.text }
