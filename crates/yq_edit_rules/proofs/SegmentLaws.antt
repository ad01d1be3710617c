-- What segments make of a text is made of pieces.
use Rattle.std.{proofs.Common.{List, [], ◌∷◌}, proofs.lemmas.Str.is_utf8-from_IsUtf8}
use Rattle.yq_edit_rules.{specs.TextPieces.IsPiece, proofs.TextPieceLaws.{pieces_joined, nothing}, specs.Done.{ArePieces, SegmentsReadable}}
use Rattle.yq_text.specs.Script.{Segment, keep, put, new_text}

segments_piece : (ss : List Segment) → ArePieces ss → IsPiece (new_text ss)
segments_piece [] h = nothing
segments_piece (keep t ∷ ss) h = pieces_joined t (new_text ss) h.0 (segments_piece ss h.1)
segments_piece (put o w ∷ ss) h = pieces_joined w (new_text ss) h.0 (segments_piece ss h.1)

pub segments_readable : SegmentsReadable
segments_readable ss h size = let p = segments_piece ss h in record { utf8 = is_utf8-from_IsUtf8 (new_text ss) p.utf8; characters = p.characters; size = size }
