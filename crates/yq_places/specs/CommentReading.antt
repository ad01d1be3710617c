-- Reading (own; you may skip it): where comments are, by the pieces of rows.
use Rattle.std.specs.Prelude.{ℕ, ◌+◌, ◌-◌, ◌==◌, List, length, Option, Some, None, if◌then◌else◌, [], ◌++◌, nat_lt, take}
use Rattle.yq_core.specs.Text.{cut, front, ends_line, is_empty, joined, text_lines, no_white, past_white}
use Rattle.yq_row_table.{specs.View.{Slices, slices}, specs.Exchange.{before_content, after_row}}
use Rattle.yq_row_table.specs.Rows.{Row, Cut, rows_text, part_text, last, marked, following_gap}
use Rattle.yq_outline.{specs.Extents.{front_length, lines_before_mark}, specs.declared.line_position.Position.Position}
use Rattle.yq_documents.{specs.LinesInRows.RowLine, specs.Pieces.{TextPiece, tail_comment, last_run, gap_comment}}

-- the text of a cut before row i
abbrev pub before_row : ℕ → Cut → List ℕ
before_row i (last p) = rows_text (take i p.rows) []
before_row i (marked p marker c) = if nat_lt i (length p.rows) then rows_text (take i p.rows) [] else part_text p (marker ++ before_row (i - length p.rows) c)

-- the text of a cut before the tail of row i
abbrev pub before_tail : ℕ → Row → Cut → List ℕ
before_tail i r c = let s = slices r in before_content i c ++ (s.space ++ (s.anchor ++ (s.apart ++ s.head)))

-- the line comment of a line of row i: the comment in the row's tail, where the line is that of the row's mark
abbrev pub line_comment_in : ℕ → RowLine → Cut → Option TextPiece
line_comment_in i s c =
    if s.line == length s.row.dashes then tail_comment (before_tail i s.row c) (slices s.row).tail ((slices s.row).raw ++ after_row i c) else None

-- the head comment of a line of row i: the run that ends the row's gap, where the line is the first of the row
abbrev pub head_comment_in : ℕ → RowLine → Cut → Option TextPiece
head_comment_in i s c = if s.line == 0 then gap_comment (before_row i c) s.row.gap (following_gap s.row (after_row i c)) else None

-- where the comment in a tail is, by where the tail begins
abbrev pub tail_span : ℕ → List ℕ → Option (ℕ × ℕ)
tail_span start tail =
    let white = length (cut no_white tail).0 in
    if front (λ b. b == 35) (past_white tail) then Some (start + white, start + white + length (cut ends_line (past_white tail)).0) else None

-- where the line comment of a line is, by where its row begins and that row's pieces
abbrev pub line_comment_span : ℕ → Slices → Position → Option (ℕ × ℕ)
line_comment_span start x q = if q.line == lines_before_mark x then tail_span (start + front_length x + length x.head) x.tail else None

-- where the run of comment lines is that ends a gap, by where the gap begins
abbrev pub gap_span : ℕ → List ℕ → Option (ℕ × ℕ)
gap_span start gap = let run = joined (last_run (text_lines gap)) in if is_empty run then None else Some (start + length gap - length run, start + length gap)

-- where the head comment of a line is, by where its row begins and that row's pieces
abbrev pub head_comment_span : ℕ → Slices → Position → Option (ℕ × ℕ)
head_comment_span start x q = if q.line == 0 then gap_span start x.gap else None
