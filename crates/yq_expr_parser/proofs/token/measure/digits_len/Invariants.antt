use Rattle.std.{proofs.Common.{◌≡◌, ◌+◌, ◌-◌, ◌≤◌, length, drop}, specs.List.prefix_len, specs.Char.is_ascii_digit}
use Rattle.yq_expr_parser.proofs.token.measure.digits_len.Given as goal

abbrev pub decreases-digits : goal.decreases-digits
decreases-digits l = length l.text - l.n

abbrev pub invariant-digits : goal.invariant-digits
invariant-digits l = record { within : l.n ≤ length l.text; so_far : l.n + prefix_len is_ascii_digit (drop l.n l.text) ≡ prefix_len is_ascii_digit l.text }
