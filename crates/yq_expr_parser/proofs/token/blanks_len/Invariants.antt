use Rattle.std.{proofs.Common.{◌≡◌, ◌+◌, ◌-◌, ◌≤◌, length, drop}, specs.List.prefix_len}
use Rattle.yq_semantics.specs.Tokens.{is_token_blank}
use Rattle.yq_expr_parser.proofs.token.blanks_len.Given as goal

abbrev pub decreases-blanks : goal.decreases-blanks
decreases-blanks l = length l.text - l.n

abbrev pub invariant-blanks : goal.invariant-blanks
invariant-blanks l = record { within : l.n ≤ length l.text; so_far : l.n + prefix_len is_token_blank (drop l.n l.text) ≡ prefix_len is_token_blank l.text }
