-- A text in the place of another one, between what is before and after that (own).
use Rattle.std.specs.Prelude.{List, [], ◌∷◌, ℕ}
use Rattle.yq_documents.specs.Pieces.{TextPiece}
use Rattle.yq_places.specs.Placements.{LinesIn}
use Rattle.yq_text.specs.Script.{Segment, keep, put}

-- a text in the place of a piece
abbrev pub piece_replaced : TextPiece → List ℕ → List Segment
piece_replaced w t = keep w.before ∷ (put w.text t ∷ (keep w.after ∷ []))

-- a text in the place of lines, up to their last break
abbrev pub lines_replaced : LinesIn → List ℕ → List Segment
lines_replaced w t = keep w.before ∷ (put w.lines t ∷ (keep w.last ∷ (keep w.after ∷ [])))

-- a text put after lines and their last break
abbrev pub after_lines : LinesIn → List ℕ → List Segment
after_lines w t = keep w.before ∷ (keep w.lines ∷ (keep w.last ∷ (put [] t ∷ (keep w.after ∷ []))))
