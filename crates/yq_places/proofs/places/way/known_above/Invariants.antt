use Rattle.std.proofs.Common.{length, map}
use Rattle.yq_core.specs.Entries.{tree_step}
use Rattle.yq_outline.specs.RowWalk.{AreKnown}
use Rattle.yq_row_walk.specs.Walk.{LeadOnBy}
use Rattle.yq_places.proofs.places.way.known_above.Given as goal

abbrev pub decreases-steps : goal.decreases-steps
decreases-steps l = length l.left

-- where the steps lead, those that are left lead from the line that was found, and the items are known
abbrev pub invariant-steps : goal.invariant-steps
invariant-steps l = record {
  way : LeadOnBy l.walk.rows.now l.walk.document (map tree_step l.steps) (map tree_step l.left) l.from;
  known : AreKnown l.walk.rows.now.rows l.known.items;
}
