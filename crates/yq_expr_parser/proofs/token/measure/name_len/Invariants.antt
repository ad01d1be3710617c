use Rattle.std.{proofs.Common.{◌≡◌, ◌+◌, ◌-◌, ◌≤◌, length, drop}, specs.List.prefix_len}
use Rattle.yq_semantics.specs.Tokens.{is_name_byte}
use Rattle.yq_expr_parser.proofs.token.measure.name_len.Given as goal

abbrev pub decreases-name : goal.decreases-name
decreases-name l = length l.text - l.n

abbrev pub invariant-name : goal.invariant-name
invariant-name l = record { within : l.n ≤ length l.text; so_far : l.n + prefix_len is_name_byte (drop l.n l.text) ≡ prefix_len is_name_byte l.text }
