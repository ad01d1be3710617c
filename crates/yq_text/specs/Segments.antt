-- The segments that the code holds.
use Rattle.std.specs.Prelude.{List, map, string_bytes}
use Rattle.yq_text.{specs.Halves.whole, specs.Script.{Segment, keep, put}, specs.declared.segment.Segment.Segment as Held}
use Rattle.yq_text.specs.declared.segment.Segment.TheVariants as held

-- a segment (own)
abbrev pub segment_of : Held → Segment
segment_of (held.Keep text) = keep (whole text)
segment_of (held.Put old new) = put (whole old) (string_bytes new)

-- segments (own)
abbrev pub segments_of : List Held → List Segment
segments_of ss = map segment_of ss
