use Rattle.std.{proofs.Common.{◌≡◌, ◌+◌, ◌-◌, ◌≤◌, length, drop}, specs.List.prefix_len}
use Rattle.yq_core.specs.Runs.{is_ascii_byte}
use Rattle.yq_core.proofs.ascii.ascii_len.Given as goal

abbrev pub decreases-lanes : goal.decreases-lanes
decreases-lanes l = length l.text - l.at

abbrev pub invariant-lanes : goal.invariant-lanes
invariant-lanes l = record { within : l.at ≤ length l.text; so_far : l.at + prefix_len is_ascii_byte (drop l.at l.text) ≡ prefix_len is_ascii_byte l.text }
