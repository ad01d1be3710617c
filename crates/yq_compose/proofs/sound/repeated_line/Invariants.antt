use Rattle.std.proofs.Common.{◌-◌}
use Rattle.yq_outline.specs.RowWalk.{IsPosition}
use Rattle.yq_compose.proofs.sound.repeated_line.Given as goal

abbrev pub invariant-lines : goal.invariant-lines
invariant-lines l = IsPosition l.x.rows.now l.x.document l.at

abbrev pub decreases-lines : goal.decreases-lines
decreases-lines l = l.x.document.end - l.at.row
