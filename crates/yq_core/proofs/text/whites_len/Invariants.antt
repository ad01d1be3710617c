use Rattle.std.{proofs.Common.{◌≡◌, ◌+◌, ◌-◌, ◌≤◌, length, drop}, specs.List.prefix_len}
use Rattle.yq_core.specs.Text.{is_white}
use Rattle.yq_core.proofs.text.whites_len.Given as goal

abbrev pub decreases-whites : goal.decreases-whites
decreases-whites l = length l.text - l.n

abbrev pub invariant-whites : goal.invariant-whites
invariant-whites l = record { within : l.n ≤ length l.text; so_far : l.n + prefix_len is_white (drop l.n l.text) ≡ prefix_len is_white l.text }
