use Rattle.std.{proofs.Common.{◌≡◌, length, map, option_map}, specs.Prelude.IfSome}
use Rattle.yq_core.specs.Entries.{tree_step}
use Rattle.yq_outline.{specs.Ends.reached, specs.Positions.reach_from, specs.Lines.lines_of_rows}
use Rattle.yq_outline.specs.RowWalk.{HasDocument, IsLine, line_number}
use Rattle.yq_row_walk.proofs.position_reach.reach_by_steps.Given as goal

abbrev pub decreases-steps : goal.decreases-steps
decreases-steps l = length l.left

-- where the steps lead, those that are left lead from here
abbrev pub invariant-steps : goal.invariant-steps
invariant-steps l = record {
  within : IfSome l.found (IsLine l.walk.rows.now l.walk.document);
  leads : (h : HasDocument l.walk.rows.now l.walk.document) →
      reach_from (lines_of_rows h.are_there.rows) (option_map (line_number l.walk.document h.are_there.rows) l.found) (map tree_step l.left) ≡ reached
      (map tree_step l.steps) (lines_of_rows h.are_there.rows);
}
