use Rattle.std.proofs.Common.{◌≡◌, ◌++◌, string_bytes}
use Rattle.yq_planner.specs.Repeated.{text_times}
use Rattle.yq_planner.proofs.updating.repeated.push_times.Given as goal

abbrev pub invariant-texts : goal.invariant-texts
invariant-texts l = record {
  so_far : string_bytes l.text ++ text_times l.left l.added ≡ string_bytes l.fn.text ++ text_times l.times l.added;
}

abbrev pub decreases-texts : goal.decreases-texts
decreases-texts l = l.left
