use Rattle.std.proofs.Common.{◌≡◌, ◌+◌, ◌≤◌, length}
use Rattle.yq_text.{specs.Limit.text_limit, specs.Script.new_text, specs.Segments.segments_of}
use Rattle.yq_text.proofs.exchanging.new_len.Given as goal

abbrev pub invariant-segments : goal.invariant-segments
invariant-segments l = record {
  long : l.len + length (new_text (segments_of l.rest)) ≡ length (new_text (segments_of l.fn.segments));
  small : l.len ≤ text_limit;
}

abbrev pub decreases-segments : goal.decreases-segments
decreases-segments l = length l.rest
