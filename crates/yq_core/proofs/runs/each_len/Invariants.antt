use Rattle.std.{proofs.Common.{◌≡◌, ◌+◌, ◌-◌, ◌≤◌, length, drop}, specs.List.prefix_len}
use Rattle.yq_core.specs.Runs.{run_goes_on}
use Rattle.yq_core.proofs.runs.each_len.Given as goal

abbrev pub decreases-each : goal.decreases-each
decreases-each l = length l.text - l.n

abbrev pub invariant-each : goal.invariant-each
invariant-each l = record { within : l.n ≤ length l.text; so_far : l.n + prefix_len (run_goes_on l.run) (drop l.n l.text) ≡ prefix_len (run_goes_on l.run) l.text }
