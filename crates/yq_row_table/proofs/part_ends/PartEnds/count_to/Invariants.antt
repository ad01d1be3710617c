use Rattle.std.{proofs.Common.{◌<◌, ◌≤◌, ◌-◌, length}, specs.List.AllWithin, specs.List.Sorted.IsNonDecreasingBy}
use Rattle.yq_row_table.specs.PartEnds.{measure_of}
use Rattle.yq_row_table.proofs.part_ends.PartEnds.count_to.Given as goal

abbrev pub invariant-ends : goal.invariant-ends
invariant-ends l = record {
  order : l.low ≤ l.high;
  within : l.high ≤ length l.self;
  below : IsNonDecreasingBy (measure_of l.by) l.self → AllWithin (λ e. measure_of l.by e ≤ l.most) l.self 0 l.low;
  above : IsNonDecreasingBy (measure_of l.by) l.self → AllWithin (λ e. l.most < measure_of l.by e) l.self l.high (length l.self);
}

abbrev pub decreases-ends : goal.decreases-ends
decreases-ends l = l.high - l.low
