use Rattle.std.{proofs.Common.{◌≡◌, ◌+◌, length}, specs.Str.IsUtf8}
use Rattle.yq_text.{specs.Script.{old_text, kept_front, from_first}, specs.Segments.segments_of}
use Rattle.yq_text.proofs.changing.from_first.Given as goal

abbrev pub invariant-segments : goal.invariant-segments
invariant-segments l = record {
  front : l.len + length (kept_front (segments_of l.rest)) ≡ length (kept_front (segments_of l.fn.segments));
  first : from_first (segments_of l.rest) ≡ from_first (segments_of l.fn.segments);
  text : IsUtf8 (kept_front (segments_of l.rest)) → IsUtf8 (kept_front (segments_of l.fn.segments));
  all : l.len + length (old_text (segments_of l.rest)) ≡ length (old_text (segments_of l.fn.segments));
}

abbrev pub decreases-segments : goal.decreases-segments
decreases-segments l = length l.rest
