use Rattle.std.{proofs.Common.{◌≡◌, ◌≤◌, length}, specs.List.All}
use Rattle.yq_rows.specs.Sides.{both_sides}
use Rattle.yq_rows.proofs.split.to_after.Given as goal

abbrev pub invariant-rows : goal.invariant-rows
invariant-rows l = record {
  same : both_sides l.len l.front.items l.after.items ≡ both_sides l.fn.len l.fn.front.items l.fn.after.items;
  within : All (λ o. o.start ≤ l.len) l.front.items;
  later : All (λ o. o.start ≤ l.len) l.after.items;
}

abbrev pub decreases-rows : goal.decreases-rows
decreases-rows l = length l.front.items
