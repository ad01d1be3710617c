use Rattle.std.proofs.Common.{◌≡◌, length}
use Rattle.yq_core.{specs.Entries.flow_part_at, specs.Paths.To}
use Rattle.yq_inline.specs.BorrowedParts.{parts_view}
use Rattle.yq_inline.proofs.parts.BorrowedParts.entry.Given as goal

abbrev pub invariant-each : goal.invariant-each
invariant-each l = flow_part_at (To l.key) (parts_view l.rest) ≡ flow_part_at (To l.fn.key) (parts_view l.fn.self)

abbrev pub decreases-each : goal.decreases-each
decreases-each l = length l.rest.text.now
