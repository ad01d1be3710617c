use Rattle.std.{proofs.Common.{◌≡◌, ◌+◌, ◌++◌, length}, specs.String.string_bytes}
use Rattle.yq_text.{specs.Script.{new_text, put_before, merged, splices_at}, specs.Segments.segments_of}
use Rattle.yq_text.proofs.exchanging.build.Given as goal

abbrev pub invariant-segments : goal.invariant-segments
invariant-segments l = record {
  place : l.draft.at + length l.draft.come.items + length (new_text (segments_of l.rest)) ≡ l.fn.front + length (new_text (segments_of l.fn.segments));
  so_far : string_bytes l.draft.text ++ new_text (segments_of l.rest) ≡ new_text (segments_of l.fn.segments);
  found : l.draft.splices.items ++ splices_at l.draft.at (put_before l.draft.gone.items l.draft.come.items (merged (segments_of l.rest))) ≡ splices_at l.fn.front (merged (segments_of l.fn.segments));
}

abbrev pub decreases-segments : goal.decreases-segments
decreases-segments l = length l.rest
