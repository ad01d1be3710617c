use Rattle.std.proofs.Common.{◌≡◌, ◌≤◌, length}
use Rattle.yq_text.{specs.Script.to_last, specs.Segments.segments_of}
use Rattle.yq_text.proofs.changing.to_last.Given as goal

abbrev pub invariant-segments : goal.invariant-segments
invariant-segments l = record {
  last : to_last (segments_of l.rest) ≡ to_last (segments_of l.fn.segments);
  within : length l.rest ≤ length l.fn.segments;
}

abbrev pub decreases-segments : goal.decreases-segments
decreases-segments l = length l.rest
