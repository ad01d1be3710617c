use Rattle.std.proofs.Common.{◌≡◌, length}
use Rattle.yq_batch.specs.Together.{all_of}
use Rattle.yq_splice.specs.Others.{LeftAreServed}
use Rattle.yq_splice.proofs.others.with_others.Given as goal

abbrev pub invariant-runs : goal.invariant-runs
invariant-runs l = record {
  whole : all_of l.together ≡ all_of l.fn.together;
  serves : LeftAreServed l.together;
}

abbrev pub decreases-runs : goal.decreases-runs
decreases-runs l = length l.together.left.now
