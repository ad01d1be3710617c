use Rattle.std.proofs.Common.{◌≡◌, length}
use Rattle.yq_core.{specs.Entries.flow_part_at, specs.Paths.Nth}
use Rattle.yq_inline.specs.BorrowedParts.{parts_view}
use Rattle.yq_inline.proofs.parts.BorrowedParts.item.Given as goal

abbrev pub invariant-each : goal.invariant-each
invariant-each l = flow_part_at (Nth l.left) (parts_view l.rest) ≡ flow_part_at (Nth l.fn.index) (parts_view l.fn.self)

abbrev pub decreases-each : goal.decreases-each
decreases-each l = length l.rest.text.now
