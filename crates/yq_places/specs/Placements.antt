-- What is where steps lead in a text, by the rows in which it is (YAML 1.2.2, 7.4, 8 and 9.1; own).
use Rattle.std.specs.Prelude.{ℕ, ◌==◌, ◌||◌, ◌&&◌, not, suc, List, [], ◌∷◌, ◌++◌, drop, length, map, replicate, take, Option, Some, None}
use Rattle.std.specs.Prelude.{option_map, Bool, false, if◌then◌else◌}
use Rattle.yq_core.{specs.Answers.◌>>=◌, specs.Paths.Step, specs.Text.is_empty, specs.Collections.CollPieces}
use Rattle.yq_core.specs.Entries.{EntryPieces, item_at}
use Rattle.yq_outline.{specs.Positions.has_no_mark, specs.Lines.line_mark, specs.RowWalk.{deeper_rows, line_level}}
use Rattle.yq_row_table.specs.Exchange.{row_front}
use Rattle.yq_row_table.specs.Rows.{Content, Nothing, Inline, Block, Cut, Row, after_columns, after_dashes, after_indent, mark_column}
use Rattle.yq_row_table.{specs.Rows.{print_row, rows_text}, specs.View.{Slices, slices}}
use Rattle.yq_documents.{specs.LinesInRows.{RowLine, row_line_of}, specs.Pieces.TextPiece}
use Rattle.yq_places.{specs.CommentPlaces.{LineEnd, end_in_line}, specs.FlowNodes.flow_collection}
use Rattle.yq_places.{specs.PlacedRows.{PlacedPart, placed_document}, specs.PrintedLines.{last_break, less_break}}
use Rattle.yq_places.specs.RowPieces.{anchor_before, past_dash, space_before, upto_dash}

-- ---- the rows of an item or entry

-- The rows of an item or entry in a text: the text before its document, and the document's rows in front of them; the first one of them,
-- and how many of its lines come before that of the key or dash; those under it; the further rows of the document; its end gap;
-- and the text after the document (8.2). A line is a key, a dash or a node alone; a row line is the row in which it is; slices are a row's pieces.
pub record RowsOfEntry : Type 0 where
  pub start : List ℕ
  pub front : List Row
  pub row : Row
  pub line : ℕ
  pub under : List Row
  pub back : List Row
  pub end : List ℕ
  pub after : List ℕ

-- how many of the rows after a line's own are under it: they begin deeper (8.2)
abbrev pub under_count : RowLine → List Row → ℕ
under_count s rs = deeper_rows (line_level s.line (slices s.row)) (map slices rs)

-- the rows of the item or entry of a line, with the first n of the rows after it under it
abbrev pub entry_rows_with : PlacedPart → RowLine → ℕ → RowsOfEntry
entry_rows_with d s n = record {
  start = d.before;
  front = take s.before d.part.rows;
  row = s.row;
  line = s.line;
  under = take n (drop (suc s.before) d.part.rows);
  back = drop n (drop (suc s.before) d.part.rows);
  end = d.part.end;
  after = d.after;
}

-- the rows of the item or entry of a line: under it are those that begin deeper (8.2)
abbrev pub entry_rows_at : PlacedPart → RowLine → RowsOfEntry
entry_rows_at d s = entry_rows_with d s (under_count s (drop (suc s.before) d.part.rows))

-- the rows of the item or entry to which steps lead in document n
abbrev pub rows_of_entry : ℕ → List Step → Cut → Option RowsOfEntry
rows_of_entry n steps c = placed_document n c >>= λ d. option_map (entry_rows_at d) (row_line_of steps d.part.rows)

-- the text in front of the rows of an item or entry
abbrev pub before_entry : RowsOfEntry → List ℕ
before_entry e = e.start ++ rows_text e.front []

-- the text after the rows of an item or entry
abbrev pub after_entry : RowsOfEntry → List ℕ
after_entry e = rows_text e.back (e.end ++ e.after)

-- ---- what is there, in pieces

-- A key or dash: its column, whether it is a key, and whether its row has an anchor before what is written after its last mark, or a
-- comment after that (8.2).
pub record MarkPieces : Type 0 where
  pub column : ℕ
  pub keyed : Bool
  pub noted : Bool

-- A key or dash in a text, with what it holds. In order: the text up to its end, or to that of its anchor; the white space after that, and
-- what is written there, an inline node, the header of a block scalar or nothing; the white space and the comment that end its line. Where
-- lines are below, `break` ends its line, `lines` are they, and `last` is the break of the last one. Where none are, `break` and `lines` are
-- nothing, and `last` ends its line (8.1, 8.2). Of `a: &x | # c`, with the line `  t` below: before `a: &x`, space and white one space each,
-- head `|`, comment `# c`, lines `  t`.
pub record Held : Type 0 where
  pub mark : MarkPieces
  pub before : List ℕ
  pub space : List ℕ
  pub head : List ℕ
  pub white : List ℕ
  pub comment : List ℕ
  pub break : List ℕ
  pub lines : List ℕ
  pub last : List ℕ
  pub after : List ℕ

-- Lines of a text less their last break: the text before them, they, that break, and the text after (5.4, 8.2).
pub record LinesIn : Type 0 where
  pub before : List ℕ
  pub lines : List ℕ
  pub last : List ℕ
  pub after : List ℕ

-- lines between two texts
abbrev pub lines_between : (before own after : List ℕ) → LinesIn
lines_between before own after = record { before = before; lines = less_break own; last = last_break own; after = after }

-- What is outside flow collections: a node alone on its line, without its anchor, which is never nothing; a node after a key or dash on its
-- line, or nothing; a block collection on the lines under a key or dash, by its column; one that begins on the line of its dash, by that,
-- its column, and the lines from after the dash on; a block scalar, by its text's indentation in columns; a root that is a block collection,
-- by its column; or a document without rows, with nothing after its gap (7, 8.2, 9.1).
pub data Placement : Type 0 where
  alone : TextPiece → Placement
  beside : Held → Placement
  under : Held → (column : ℕ) → Placement
  compact : MarkPieces → (column : ℕ) → LinesIn → Placement
  block : Held → (indent : ℕ) → Placement
  root : (column : ℕ) → LinesIn → Placement
  no_rows : TextPiece → Placement

-- ---- by rows

-- the key or dash of a row, by its pieces
abbrev pub mark_in : Row → Slices → LineEnd → MarkPieces
mark_in r s t = record { column = mark_column r; keyed = not (is_empty s.colon); noted = not (is_empty s.anchor) || not (is_empty t.comment) }

-- what a key or dash holds, by the pieces of its row, the end of its line, and the lines below that
abbrev pub held_by : RowsOfEntry → Slices → LineEnd → List ℕ → Held
held_by e s t below = record {
  mark = mark_in e.row s t;
  before = (before_entry e ++ row_front e.row) ++ anchor_before s;
  space = space_before s;
  head = s.head;
  white = t.white;
  comment = t.comment;
  break = if is_empty below then [] else t.after;
  lines = less_break below;
  last = if is_empty below then t.after else last_break below;
  after = after_entry e;
}

-- what the key or dash of rows holds: the lines below its line are those of a block scalar, or the rows under it
abbrev pub held : RowsOfEntry → Held
held e = let s = slices e.row in held_by e s (end_in_line [] s.tail) (s.raw ++ rows_text e.under [])

-- the node in a row that is alone on its line, between two texts
abbrev pub lone : List ℕ → Row → List ℕ → TextPiece
lone before r after =
    let s = slices r in record { before = before ++ (row_front r ++ (s.space ++ (s.anchor ++ s.apart))); text = s.head; after = s.tail ++ after }

-- whether a row is a node that is alone on its line (8.2)
abbrev pub is_alone : Row → Bool
is_alone r = is_empty r.dashes && has_no_mark (line_mark r.mark)

-- what comes after a key or dash after which no node is written: nothing, a node on the line under it, or a block collection (8.2)
abbrev pub below : RowsOfEntry → List Row → Placement
below e [] = beside (held e)
below e (r ∷ rs) =
    if is_alone r then alone (lone (before_entry e ++ print_row e.row []) r (rows_text rs (after_entry e))) else under (held e) r.column

-- what comes after the mark of a row, by its content
abbrev pub past_mark : RowsOfEntry → Content → Placement
past_mark e (Nothing tail) = below e e.under
past_mark e (Inline space node tail) = if is_empty (slices e.row).head then below e e.under else beside (held e)
past_mark e (Block space anchor b) = block (held e) b.indent.columns

-- the text from after a dash to the end of the rows of its item
abbrev pub dash_text : RowsOfEntry → List ℕ
dash_text e = past_dash (drop e.line e.row.dashes) (after_dashes e.row (rows_text e.under []))

-- the dash of a line that is not the last one of its row (8.2.1)
abbrev pub compact_mark : RowsOfEntry → MarkPieces
compact_mark e = record {
  column = after_columns e.row.column (take e.line e.row.dashes);
  keyed = false;
  noted = (mark_in e.row (slices e.row) (end_in_line [] (slices e.row).tail)).noted;
}

-- the lines from after that dash on
abbrev pub compact_lines : RowsOfEntry → LinesIn
compact_lines e = lines_between (before_entry e ++ row_front (upto_dash e.line e.row)) (dash_text e) (after_entry e)

-- the collection that begins on the line of that dash (8.2.1)
abbrev pub compact_in : RowsOfEntry → Placement
compact_in e = compact (compact_mark e) (after_columns e.row.column (take (suc e.line) e.row.dashes)) (compact_lines e)

-- what is at an item or entry, by its rows: a line that is not the last one of its row is that of a dash with a compact collection (8.2.1)
abbrev pub entry_placement : RowsOfEntry → Placement
entry_placement e = if e.line == length e.row.dashes then past_mark e e.row.content else compact_in e

-- the lines of a root that is a block collection, by the rows of its document
abbrev pub root_lines : PlacedPart → Row → List Row → LinesIn
root_lines d r rs = lines_between (d.before ++ (r.gap ++ replicate r.column 32)) (after_indent r (rows_text rs [])) (d.part.end ++ d.after)

-- what is at the root of a document, by its rows (9.1)
abbrev pub root_placement : PlacedPart → List Row → Placement
root_placement d [] = no_rows (record { before = d.before ++ d.part.end; text = []; after = d.after })
root_placement d (r ∷ rs) = if is_alone r then alone (lone d.before r (rows_text rs (d.part.end ++ d.after))) else root r.column (root_lines d r rs)

-- what is in document n where steps lead, outside flow collections
abbrev pub placement_at : ℕ → List Step → Cut → Option Placement
placement_at n [] c = option_map (λ (d : PlacedPart). root_placement d d.part.rows) (placed_document n c)
placement_at n (s ∷ ss) c = option_map entry_placement (rows_of_entry n (s ∷ ss) c)

-- ---- in flow collections

-- An item or entry of a flow collection: the step to it, the collection, and its own pieces (7.4).
pub record FlowPart : Type 0 where
  pub step : Step
  pub collection : CollPieces
  pub part : EntryPieces

-- the steps to a collection, and the last one, to an item or entry in it (own)
abbrev pub last_step : List Step → Option (List Step × Step)
last_step [] = None
last_step (s ∷ []) = Some ([], s)
last_step (s ∷ (t ∷ ss)) = option_map (λ (x : List Step × Step). (s ∷ x.0, x.1)) (last_step (t ∷ ss))

-- the part of a flow collection to which a step leads (7.4)
abbrev pub flow_part : Step → CollPieces → Option FlowPart
flow_part s w = option_map (λ (y : EntryPieces). record { step = s; collection = w; part = y }) (item_at w.close s w.items w.rest)

-- the same where steps lead in document n (7.4)
abbrev pub flow_placement : ℕ → Cut → Option (List Step × Step) → Option FlowPart
flow_placement n c None = None
flow_placement n c (Some x) = flow_collection n x.0 c >>= flow_part x.1
