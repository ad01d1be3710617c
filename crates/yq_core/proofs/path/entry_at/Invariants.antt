use Rattle.std.proofs.Common.{◌≡◌, drop}
use Rattle.yq_core.{specs.Paths.To, specs.Entries.flow_part_at, specs.View.entries_end}
use Rattle.yq_core.proofs.path.entry_at.Given as goal

abbrev pub invariant-each : goal.invariant-each
invariant-each l = flow_part_at (To l.key) (entries_end (drop l.entry-index l.entry-items)) ≡ flow_part_at (To l.fn.key) (entries_end l.fn.entries.items)
