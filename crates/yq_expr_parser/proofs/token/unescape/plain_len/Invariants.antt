use Rattle.std.{proofs.Common.{◌≡◌, ◌+◌, ◌-◌, ◌≤◌, length, drop}, specs.List.prefix_len}
use Rattle.yq_expr_parser.specs.Lexing.{is_plain_byte}
use Rattle.yq_expr_parser.proofs.token.unescape.plain_len.Given as goal

abbrev pub decreases-plain : goal.decreases-plain
decreases-plain l = length l.text - l.n

abbrev pub invariant-plain : goal.invariant-plain
invariant-plain l = record { within : l.n ≤ length l.text; so_far : l.n + prefix_len is_plain_byte (drop l.n l.text) ≡ prefix_len is_plain_byte l.text }
