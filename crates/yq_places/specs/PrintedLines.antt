-- The lines of a text with their texts, and runs of them (YAML 1.2.2, 8; own).
use Rattle.std.specs.Prelude.{ℕ, suc, ◌+◌, ◌&&◌, List, [], ◌∷◌, ◌++◌, length, drop, replicate, Option, Some, None, Bool, false}
use Rattle.std.specs.Prelude.{if◌then◌else◌}
use Rattle.yq_core.specs.Text.{is_empty, is_feed, is_return}
use Rattle.yq_row_table.{specs.Rows.{Content, Nothing, mark_text, content_text, Row}, specs.View.content_cut}
use Rattle.yq_outline.{specs.Lines.{mark_line, dash_line}, specs.Outline.Line, specs.Positions.has_no_mark}
use Rattle.yq_documents.specs.Pieces.{TextPiece, head_piece}
use Rattle.yq_outline.specs.Comments as comments
use Rattle.yq_row_table.specs.Rows as rows

-- a break, and nothing after it (5.4)
abbrev pub is_last_break : List ℕ → Bool
is_last_break [] = false
is_last_break (b ∷ []) = is_feed b
is_last_break (b ∷ (d ∷ [])) = is_return b && is_feed d
is_last_break (b ∷ (d ∷ (e ∷ t))) = false

-- a text less the break that ends it (5.4)
unfoldable pub less_break : List ℕ → List ℕ
less_break [] = []
less_break (b ∷ bs) = if is_last_break (b ∷ bs) then [] else b ∷ less_break bs

-- the tail and the raw lines of a content, less the break of the last of these lines
abbrev pub less_last : List ℕ → List ℕ → List ℕ
less_last tail raw = if is_empty raw then less_break tail else tail ++ less_break raw

-- what comes after a mark up to the break of its last line
abbrev pub less_end : Content → List ℕ
less_end c = let x = content_cut c in x.0 ++ (x.1 ++ (x.2 ++ (x.3 ++ less_last x.4 x.5)))

-- the break that ends a text, if one does (5.4)
abbrev pub last_break : List ℕ → List ℕ
last_break t = drop (length (less_break t)) t

-- the break of the last line of a content, if it has one
abbrev pub end_break : Content → List ℕ
end_break c = let x = content_cut c in if is_empty x.5 then last_break x.4 else last_break x.5

-- A line with its text: the gap and the spaces before it, its key or dash, and what comes after that.
pub record PrintedLine : Type 0 where
  pub line : Line
  pub gap : List ℕ
  pub spaces : List ℕ
  pub mark : List ℕ
  pub content : Content

-- the text before the key or dash of a line
abbrev pub line_front : PrintedLine → List ℕ
line_front l = l.gap ++ l.spaces

-- the text of a line from its key or dash on, before a rest
abbrev pub line_rest : PrintedLine → List ℕ → List ℕ
line_rest l rest = l.mark ++ content_text l.content rest

-- the text of a line, before a rest
abbrev pub print_line : PrintedLine → List ℕ → List ℕ
print_line l rest = line_front l ++ line_rest l rest

-- the text of lines, before a rest
abbrev pub print_lines : List PrintedLine → List ℕ → List ℕ
print_lines [] rest = rest
print_lines (l ∷ ls) rest = print_line l (print_lines ls rest)

-- a line for each dash and one for the mark, from a column on, the first after a gap and spaces (8.2)
abbrev pub printed_from : List ℕ → List ℕ → ℕ → List ℕ → rows.RowMark → Content → List PrintedLine
printed_from gap spaces column [] m c =
    record { line = mark_line (comments.head_comment gap) column m c; gap = gap; spaces = spaces; mark = mark_text m []; content = c } ∷ []
printed_from gap spaces column (n ∷ ns) m c =
    record { line = dash_line (comments.head_comment gap) column; gap = gap; spaces = spaces; mark = 45 ∷ replicate n 32; content = Nothing [] }
    ∷ printed_from [] [] (suc (column + n)) ns m c

-- the lines of a row, with their texts (8.2)
abbrev pub printed_row : Row → List PrintedLine
printed_row r = printed_from r.gap (replicate r.column 32) r.column r.dashes r.mark r.content

-- the lines of rows, with their texts
abbrev pub printed_lines : List Row → List PrintedLine
printed_lines [] = []
printed_lines (r ∷ rs) = printed_row r ++ printed_lines rs

-- a line without its text
abbrev pub line_in : PrintedLine → Line
line_in l = l.line

-- the text of a run of lines: from the key or dash of the first one to the end of the last one, before its break
abbrev pub run_text : PrintedLine → List PrintedLine → List ℕ
run_text l [] = l.mark ++ less_end l.content
run_text l (k ∷ ks) = line_rest l (line_front k ++ run_text k ks)

-- the break of the last line of a run, if it has one
abbrev pub run_break : PrintedLine → List PrintedLine → List ℕ
run_break l [] = end_break l.content
run_break l (k ∷ ks) = run_break k ks

-- a run of lines between two texts, as a piece
abbrev pub run_piece : List ℕ → PrintedLine → List PrintedLine → List ℕ → TextPiece
run_piece before l ls after = record { before = before ++ line_front l; text = run_text l ls; after = run_break l ls ++ after }

-- the node that lines between two texts mean: one on a line of its own, or a block collection; without lines there is none (8.2)
abbrev pub lines_piece : List ℕ → List PrintedLine → List ℕ → Option TextPiece
lines_piece before [] after = None
lines_piece before (l ∷ ls) after =
    if has_no_mark l.line.mark then head_piece (before ++ (line_front l ++ l.mark)) l.content (print_lines ls after) else Some (run_piece before l ls after)
