use Rattle.std.proofs.Common.{length}
use Rattle.yq_outline.specs.RowWalk.{AreKnown}
use Rattle.yq_row_walk.proofs.known_item.known_among.Given as goal

abbrev pub decreases-items : goal.decreases-items
decreases-items l = length l.rest

-- the items that are left are known
abbrev pub invariant-items : goal.invariant-items
invariant-items l = AreKnown l.walk.rows.now.rows l.rest
