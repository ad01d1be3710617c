-- Operations that give one row of a text another content of the same shape (own).
use Rattle.std.specs.Prelude.{◌≡◌, ℕ, ◌≤◌, ◌&&◌, not, Bool, List, [], ◌∷◌, ◌++◌, length, slice_get, Some, false, if◌then◌else◌}
use Rattle.yq_text.{specs.Limit.text_limit, specs.Script.{Segment, changes, keep, new_text, old_text, splice_at}}
use Rattle.yq_core.{specs.Paths.Step, specs.Text.is_empty, specs.Tree.Node, specs.declared.style.Place.TheVariants.Block as InBlock}
use Rattle.yq_core.{specs.BlockWritten.break_text, specs.declared.block_types.Break.Break}
use Rattle.yq_row_table.{specs.Rows.{Cut, Part, Row, cut_text}, specs.Seams.is_block, specs.View.slices}
use Rattle.yq_documents.{specs.Documents.document_parts, specs.Reading.{documents, read_at}, specs.Pieces.TextPiece}
use Rattle.yq_places.{specs.Placements.{Held, RowsOfEntry, held, rows_of_entry}, specs.NodesAt.node_in, specs.FirstBreak.first_break}
use Rattle.yq_places.specs.PlacedRows.{PlacedPart}
use Rattle.yq_edit_rules.{specs.Appends.inserted, specs.Changed.put_document, specs.Rooms.row_shape, specs.BlockReading.is_filled}
use Rattle.yq_edit_rules.specs.CommentEdits.{above_rows, comment_put, comment_written, head_comment_segments}
use Rattle.yq_edit_rules.{specs.PiecePuts.piece_replaced, specs.Edits.op_edits, specs.Operands.HasOperand, specs.ReplaceEdits.held_put}
use Rattle.yq_edit_rules.{specs.Replacing.keeps_scalar, specs.WrittenValues.{inline, value_text}}
use Rattle.yq_semantics.{specs.Fits.Fits, specs.Operations.{head_comment, line_comment, replace}, specs.Rooms.room_of}

-- In the cut of the text that segments make, the row of an item or entry of document n is replaced by another one of its shape (own).
pub record ChangesRow (n : ℕ) (c : Cut) (e : RowsOfEntry) (ss : List Segment) : Type 0 where
  pub part : Part
  pub there : slice_get (document_parts c) n ≡ Some part
  pub front : List Row
  pub row : Row
  pub new : Row
  pub back : List Row
  pub rows_are : part.rows ≡ front ++ (row ∷ back)
  pub front_size : length front ≡ length e.front
  pub shape : row_shape new ≡ row_shape row
  pub read : read_at (new_text ss) ≡ Some (put_document n (inserted front (new ∷ []) back part) c)

-- Segments put one text in the place of another, between a text in front and one after (own).
pub record PutsOne (ss : List Segment) (front old new after : List ℕ) : Type 0 where
  pub old_is : old_text ss ≡ front ++ (old ++ after)
  pub new_is : new_text ss ≡ front ++ (new ++ after)
  pub changes_are : changes ss ≡ splice_at (length front) old new

-- the rows of a root that is alone on its line, as those of an item or entry (9.1; own)
abbrev pub root_rows : PlacedPart → Row → List Row → RowsOfEntry
root_rows d r rs = record { start = d.before; front = []; row = r; line = 0; under = []; back = rs; end = d.part.end; after = d.after }

-- the same of a node that is alone on the line under an item or entry (8.2; own)
abbrev pub lone_rows : RowsOfEntry → Row → List Row → RowsOfEntry
lone_rows e r rs = record { start = e.start; front = e.front ++ (e.row ∷ []); row = r; line = 0; under = []; back = rs ++ e.back; end = e.end; after = e.after }

-- An item or entry holds an inline node on the line of its key or dash, which is the last one of its row (7, 8.2).
pub record HoldsInline (e : RowsOfEntry) : Type 0 where
  pub last : e.line ≡ length e.row.dashes
  pub block : is_block e.row.content ≡ false
  pub some : is_empty (slices e.row).head ≡ false

-- a value on one line in the place of what a key or dash holds (7)
abbrev pub inline_put : Node → Held → List Segment
inline_put v h = held_put [] h (inline (value_text InBlock h.head v))

-- Replace: a value without items and entries in the place of an inline node changes its row.
abbrev pub InlineValuesChangeRows : Type 0
InlineValuesChangeRows =
    (n : ℕ) (s : Step) (ss : List Step) (v : Node) (c : Cut) (e : RowsOfEntry) → read_at (cut_text c) ≡ Some c →
    rows_of_entry n (s ∷ ss) c ≡ Some e → HoldsInline e → is_filled v ≡ false →
    HasOperand (replace n (s ∷ ss) v) → Fits (room_of (cut_text c)) (replace n (s ∷ ss) v) (documents c) →
    length (new_text (inline_put v (held e))) ≤ text_limit → ChangesRow n c e (inline_put v (held e))

-- LineComment changes the row of the item or entry.
abbrev pub LineCommentsChangeRows : Type 0
LineCommentsChangeRows =
    (n : ℕ) (steps : List Step) (text : List ℕ) (c : Cut) (e : RowsOfEntry) → read_at (cut_text c) ≡ Some c →
    rows_of_entry n steps c ≡ Some e → e.line ≡ length e.row.dashes →
    HasOperand (line_comment n steps text) → Fits (room_of (cut_text c)) (line_comment n steps text) (documents c) →
    length (new_text (comment_put text (held e))) ≤ text_limit → ChangesRow n c e (comment_put text (held e))

-- HeadComment changes the row that the key or dash of an item or entry begins, whichever break ends its lines.
abbrev pub HeadCommentsChangeRows : Type 0
HeadCommentsChangeRows =
    (n : ℕ) (steps : List Step) (text : List ℕ) (br : Break) (c : Cut) (e : RowsOfEntry) → read_at (cut_text c) ≡ Some c →
    rows_of_entry n steps c ≡ Some e → e.line ≡ 0 →
    HasOperand (head_comment n steps text) → Fits (room_of (cut_text c)) (head_comment n steps text) (documents c) →
    length (new_text (head_comment_segments (break_text br) text (above_rows e))) ≤ text_limit →
    ChangesRow n c e (head_comment_segments (break_text br) text (above_rows e))

-- what a Replace exchanges there, by whether its value is the scalar that is there
abbrev pub InlineEdits : Type 0
InlineEdits =
    (n : ℕ) (s : Step) (ss : List Step) (v : Node) (c : Cut) (e : RowsOfEntry) → rows_of_entry n (s ∷ ss) c ≡ Some e → HoldsInline e →
    is_filled v ≡ false →
    op_edits (replace n (s ∷ ss) v) c ≡
    (if keeps_scalar (node_in n (s ∷ ss) c) v then Some (keep (cut_text c) ∷ []) else Some (inline_put v (held e)))

-- what a LineComment exchanges
abbrev pub CommentEdits : Type 0
CommentEdits =
    (n : ℕ) (steps : List Step) (text : List ℕ) (c : Cut) (e : RowsOfEntry) → rows_of_entry n steps c ≡ Some e → e.line ≡ length e.row.dashes →
    op_edits (line_comment n steps text) c ≡ Some (comment_put text (held e))

-- what a HeadComment exchanges, with lines that end with the first break of the text
abbrev pub HeadCommentEdits : Type 0
HeadCommentEdits =
    (n : ℕ) (steps : List Step) (text : List ℕ) (c : Cut) (e : RowsOfEntry) → rows_of_entry n steps c ≡ Some e → e.line ≡ 0 →
    op_edits (head_comment n steps text) c ≡ Some (head_comment_segments (break_text (first_break (cut_text c))) text (above_rows e))

-- A value so put is one text in the place of the head, where no lines are below.
abbrev pub InlinePutsOne : Type 0
InlinePutsOne =
    (v : Node) (h : Held) → is_empty h.head ≡ false → h.break ≡ [] → h.lines ≡ [] →
    PutsOne (inline_put v h) (h.before ++ h.space) h.head (value_text InBlock h.head v) (h.white ++ (h.comment ++ (h.last ++ h.after)))

-- whether a line comment takes the white space before it away with it
abbrev pub takes_white : List ℕ → Held → Bool
takes_white text h = is_empty text && not (is_empty h.comment)

-- the text in front of what a line comment exchanges
abbrev pub comment_front : List ℕ → Held → List ℕ
comment_front text h = h.before ++ (h.space ++ (h.head ++ (if takes_white text h then [] else h.white)))

-- what is replaced by a line comment
abbrev pub comment_old : List ℕ → Held → List ℕ
comment_old text h = (if takes_white text h then h.white else []) ++ h.comment

-- A line comment is one text in the place of another one, or of none.
abbrev pub CommentPutsOne : Type 0
CommentPutsOne =
    (text : List ℕ) (h : Held) →
    PutsOne (comment_put text h) (comment_front text h) (comment_old text h) (comment_written text h.comment) (h.break ++ (h.lines ++ (h.last ++ h.after)))

-- A text in the place of a piece is one text in the place of another one, or of none.
abbrev pub PiecePutsOne : Type 0
PiecePutsOne = (w : TextPiece) (t : List ℕ) → PutsOne (piece_replaced w t) w.before w.text t w.after

-- These laws together (own).
pub record RowEdits : Type 0 where
  pub inline : InlineEdits
  pub comment : CommentEdits
  pub head_comment : HeadCommentEdits
  pub inline_puts : InlinePutsOne
  pub comment_puts : CommentPutsOne
  pub piece_puts : PiecePutsOne
