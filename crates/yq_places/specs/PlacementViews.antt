-- What the code reports of what is at a place (own).
use Rattle.std.specs.Prelude.{◌≡◌, ℕ, ◌+◌, ◌==◌, ◌&&◌, not, true, false, List, length, Option, Some, None, if◌then◌else◌}
use Rattle.yq_text.{specs.Halves.whole, specs.declared.halves.Halves.Halves}
use Rattle.yq_places.specs.FirstPlaces.{piece_between}
use Rattle.yq_places.specs.Placements.{MarkPieces, Held, LinesIn, Placement, RowsOfEntry, alone, beside, under, compact, block, root}
use Rattle.yq_places.specs.Placements.{no_rows, held, rows_of_entry}
use Rattle.yq_core.{specs.Answers.◌>>=◌, specs.Paths.Step, specs.Text.is_empty}
use Rattle.yq_row_table.{specs.Rows.{Cut, Row}, specs.Seams.is_block, specs.View.slices}
use Rattle.yq_documents.{specs.LinesInRows.document_row, specs.Pieces.TextPiece, specs.RowReading.is_block_head}
use Rattle.yq_outline.{specs.Extents.{head_place, lines_before_mark}, specs.declared.line_position.Position.Position}
use Rattle.yq_places.specs.declared.places.held.Held as declared_held
use Rattle.yq_places.specs.declared.places.held_row.HeldRow as declared_row
use Rattle.yq_places.specs.declared.places.held.EntryMark as declared_mark
use Rattle.yq_places.specs.declared.places.piece.TextPiece as declared_piece
use Rattle.yq_places.specs.declared.places.lines_cut.LinesIn as declared_lines
use Rattle.yq_places.specs.declared.places.placement.Placement as declared

-- a key or dash that the code lends
abbrev pub held_mark_view : declared_mark.EntryMark → MarkPieces
held_mark_view m = record { column = m.column; keyed = m.keyed; noted = m.noted }

-- a key or dash that the code lends, with what it holds
abbrev pub held_view : declared_held.Held → Held
held_view h = record {
  mark = held_mark_view h.mark;
  before = whole h.before;
  space = h.space.now;
  head = h.head.now;
  white = h.white.now;
  comment = h.comment.now;
  break = h.line_break.now;
  lines = whole h.lines;
  last = h.last.now;
  after = whole h.after;
}

-- a piece that the code lends
abbrev pub piece_view : declared_piece.TextPiece → TextPiece
piece_view w = record { before = whole w.before; text = w.text.now; after = whole w.after }

-- a piece between two texts that the code lends, each in two halves
abbrev pub pieces_view : (before text after : Halves) → TextPiece
pieces_view before text after = piece_between (whole before) (whole text) (whole after)

-- lines that the code lends
abbrev pub lines_view : declared_lines.LinesIn → LinesIn
lines_view x = record { before = whole x.before; lines = whole x.lines; last = x.last.now; after = whole x.after }

-- what is at a place, as the code lends it
abbrev pub placement_view : declared.Placement → Placement
placement_view (declared.TheVariants.Alone w) = alone (piece_view w)
placement_view (declared.TheVariants.Beside h) = beside (held_view h)
placement_view (declared.TheVariants.Under h column) = under (held_view h) column
placement_view (declared.TheVariants.Compact m column w) = compact (held_mark_view m) column (lines_view w)
placement_view (declared.TheVariants.Block h indent) = block (held_view h) indent
placement_view (declared.TheVariants.Root column w) = root column (lines_view w)
placement_view (declared.TheVariants.NoRows w) = no_rows (piece_view w)

-- what the key or dash of rows holds, if its line is the last one of its row
abbrev pub held_if_last : RowsOfEntry → Option Held
held_if_last e = if e.line == length e.row.dashes then Some (held e) else None

-- what the key or dash holds of the item or entry to which steps lead in document n, if its line is the last one of its row
abbrev pub held_at : ℕ → List Step → Cut → Option Held
held_at n steps c = rows_of_entry n steps c >>= held_if_last

-- The row that the code reports is that of a line in a cut, which is its last one: where its head begins, that, and the end of its first line (own).
pub record IsLastOf (c : Cut) (q : Position) (r : Row) (x : declared_row.HeldRow) : Type 0 where
  pub row : x.row ≡ q.row
  pub last : q.line ≡ lines_before_mark (slices r)
  pub start : x.start ≡ (head_place q.row c r).0
  pub head : x.head.now ≡ (slices r).head
  pub tail : x.tail.now ≡ (slices r).tail
  pub inline : x.inline ≡ (not (is_empty (slices r).head) && not (is_block_head (slices r).head))

-- A row that the code reports is that of the item or entry to which steps lead in document n, whose line is its last one; with where what its key or dash
-- holds begins, that and the end of its line, and that it is an inline node, if the code reports that (own).
pub record IsHeldRow (n : ℕ) (steps : List Step) (c : Cut) (x : declared_row.HeldRow) : Type 0 where
  pub entry : RowsOfEntry
  pub found : rows_of_entry n steps c ≡ Some entry
  pub last : entry.line ≡ length entry.row.dashes
  pub row : x.row ≡ document_row n c + length entry.front
  pub start : x.start ≡ length (held entry).before + length (held entry).space
  pub head : x.head.now ≡ (held entry).head
  pub tail : x.tail.now ≡ (slices entry.row).tail
  pub inline : x.inline ≡ true → (is_block entry.row.content ≡ false) × (is_empty (slices entry.row).head ≡ false)
