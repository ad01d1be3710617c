use Rattle.std.{proofs.Common.{◌≡◌, ◌+◌, ◌≤◌, length}, specs.Str.IsUtf8}
use Rattle.yq_text.{specs.Script.kept_back, specs.Segments.segments_of}
use Rattle.yq_text.proofs.changing.kept_back.Given as goal

abbrev pub invariant-segments : goal.invariant-segments
invariant-segments l = record {
  back : l.len + length (kept_back (segments_of l.rest)) ≡ length (kept_back (segments_of l.fn.segments));
  text : IsUtf8 (kept_back (segments_of l.rest)) → IsUtf8 (kept_back (segments_of l.fn.segments));
  within : length l.rest ≤ length l.fn.segments;
}

abbrev pub decreases-segments : goal.decreases-segments
decreases-segments l = length l.rest
