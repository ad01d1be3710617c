-- LineComment and HeadComment: what is exchanged, by what is at the place (YAML 1.2.2, 6.6; own).
use Rattle.std.specs.Prelude.{ℕ, ◌==◌, ◌&&◌, not, List, [], ◌∷◌, ◌++◌, length, replicate, Option, Some, None, if◌then◌else◌}
use Rattle.yq_core.{specs.Answers.◌>>=◌, specs.BlockWritten.break_text, specs.Paths.Step, specs.Text.is_empty}
use Rattle.yq_row_table.specs.Rows.{Cut, following_gap, cut_text, rows_text}
use Rattle.yq_documents.specs.Pieces.{TextPiece}
use Rattle.yq_edit_rules.specs.PiecePuts.{piece_replaced}
use Rattle.yq_places.{specs.CommentPlaces.gap_above, specs.FirstBreak.first_break}
use Rattle.yq_places.specs.Placements.{Held, RowsOfEntry, before_entry, after_entry, held, rows_of_entry}
use Rattle.yq_semantics.specs.Meaning.{head_comment_lines}
use Rattle.yq_text.specs.Script.{Segment, keep, put}

-- what is written for a line comment, in the place of one or after a space (6.6)
abbrev pub comment_written : List ℕ → List ℕ → List ℕ
comment_written text old = if is_empty text then [] else (if is_empty old then 32 ∷ (35 ∷ (32 ∷ text)) else 35 ∷ (32 ∷ text))

-- the white space that ends a line: it goes where it comes before a comment that is taken away, and else stays (6.6)
abbrev pub white_put : List ℕ → Held → Segment
white_put text h = if is_empty text && not (is_empty h.comment) then put h.white [] else keep h.white

-- a line comment in the place of another one, or of none (6.6)
abbrev pub comment_put : List ℕ → Held → List Segment
comment_put text h =
    keep h.before ∷ (keep h.space ∷ (keep h.head ∷ (white_put text h ∷ (put h.comment (comment_written text h.comment) ∷
    (keep h.break ∷ (keep h.lines ∷ (keep h.last ∷ (keep h.after ∷ []))))))))

-- LineComment: in the tail of a row, for the item or entry of its last mark (6.6)
abbrev pub line_comment_put : List ℕ → RowsOfEntry → Option (List Segment)
line_comment_put text e = if e.line == length e.row.dashes then Some (comment_put text (held e)) else None

-- the column of the first of rows, and the comment that ends its gap (6.6)
abbrev pub above_rows : RowsOfEntry → ℕ × TextPiece
above_rows e = (e.row.column, gap_above (before_entry e) e.row.gap (following_gap e.row (rows_text e.under (after_entry e))))

-- a line of a head comment: `#` in a column, and, where the text isn't empty, a space and the text; with a break (6.6)
abbrev pub comment_line : ℕ → List ℕ → List ℕ → List ℕ
comment_line column br text = replicate column 32 ++ (35 ∷ ((if is_empty text then [] else 32 ∷ text) ++ br))

-- a line for each of these texts (own)
abbrev pub head_lines : ℕ → List ℕ → List (List ℕ) → List ℕ
head_lines column br [] = []
head_lines column br (text ∷ texts) = comment_line column br text ++ head_lines column br texts

-- the segments of a text in which other lines mean the comment above a row in a column (own)
abbrev pub head_comment_segments : List ℕ → List ℕ → ℕ × TextPiece → List Segment
head_comment_segments br text w = piece_replaced w.1 (head_lines w.0 br (head_comment_lines text))

-- HeadComment: above the row that a key or dash begins (6.6)
abbrev pub head_comment_put : List ℕ → List ℕ → RowsOfEntry → Option (List Segment)
head_comment_put br text e = if e.line == 0 then Some (head_comment_segments br text (above_rows e)) else None

-- ---- where steps lead in document n

-- LineComment
abbrev pub line_comment_at : ℕ → List Step → Cut → List ℕ → Option (List Segment)
line_comment_at n steps c text = rows_of_entry n steps c >>= line_comment_put text

-- HeadComment, with the first break of the text
abbrev pub head_comment_at : ℕ → List Step → Cut → List ℕ → Option (List Segment)
head_comment_at n steps c text = rows_of_entry n steps c >>= head_comment_put (break_text (first_break (cut_text c))) text
