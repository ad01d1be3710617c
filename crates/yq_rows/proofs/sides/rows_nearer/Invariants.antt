use Rattle.std.proofs.Common.{◌≡◌, ◌≤◌, length, reverse}
use Rattle.yq_rows.specs.Sides.{nearer}
use Rattle.yq_rows.proofs.sides.rows_nearer.Given as goal

abbrev pub invariant-rows : goal.invariant-rows
invariant-rows l = record {
  within : length l.rest ≤ length l.fn.after;
  same : nearer l.back (reverse l.rest) ≡ nearer l.back (reverse l.fn.after);
}

abbrev pub decreases-rows : goal.decreases-rows
decreases-rows l = length l.rest
