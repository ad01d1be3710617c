-- The segments of a value of the code that is put at a place (own).
use Rattle.std.{specs.Borrow.Bor, specs.Prelude.{◌≡◌, ℕ, [], Bool, IfOk, List, Option, Result, String, string_bytes}}
use Rattle.std.specs.declared.alloc.Global.{Global}
use Rattle.yq_core.{specs.BlockWritten.break_text, specs.Scalar.ScalarText, specs.Tree.Node, specs.Values.value_node}
use Rattle.yq_core.specs.declared.value.Value.{Value}
use Rattle.yq_documents.{specs.Located.steps_of, specs.Reading.cut_of, specs.declared.path.Path.Path}
use Rattle.yq_outline.specs.Bodies.{borrowed}
use Rattle.yq_places.{specs.NodesAt.scalar_in, specs.PlacementViews.{held_mark_view, held_view, lines_view, piece_view, placement_view}}
use Rattle.yq_text.specs.Script.{Segment}
use Rattle.yq_edit_rules.{specs.declared.layout.Layout.Layout, specs.ValuesWritten.lines_at_mark}
use Rattle.yq_edit_rules.specs.WrittenValues.{collection_by, inline, lines, written_at, written_under}
use Rattle.yq_edit_rules.specs.ReplaceEdits.{block_put, block_scalar_put, compact_put, held_put, literal_put, no_rows_put, root_put}
use Rattle.yq_edit_rules.{specs.ReplaceEdits.{string_put, value_put, value_put_at}, specs.EntryEdits.more_at}
use Rattle.yq_places.specs.declared.places.held.Held as held
use Rattle.yq_places.specs.declared.places.held.EntryMark as mark
use Rattle.yq_places.specs.declared.places.lines_cut.LinesIn as declared_lines
use Rattle.yq_places.specs.declared.places.piece.TextPiece as piece
use Rattle.yq_places.specs.declared.places.placement.Placement as placement

-- the answer is these segments, unless memory ran out
abbrev pub IsExchange : {E : Type 0} → Result (List Segment) E → List Segment → Type 0
IsExchange r exchanged = IfOk r (λ ss. ss ≡ exchanged)

-- a text on one line in the place of what a key or dash holds
abbrev pub text_held : List ℕ → held.Held → String Global → List Segment
text_held br h t = held_put br (held_view h) (inline (string_bytes t))

-- a value in the place of the head that a key or dash holds
abbrev pub value_over : Layout → held.Held → Value → List Segment
value_over l h v = held_put (break_text l.br) (held_view h) (written_at l (held_mark_view h.mark) h.head.now (value_node v))

-- a value in the place of lines below a key or dash
abbrev pub value_below : Layout → held.Held → Value → List Segment
value_below l h v = held_put (break_text l.br) (held_view h) (written_under l (held_mark_view h.mark) (value_node v))

-- a collection with items or entries in the place of what a key or dash holds, compact or below
abbrev pub filled_held : Bool → Layout → held.Held → Value → List Segment
filled_held is_compact l h v = held_put (break_text l.br) (held_view h) (collection_by is_compact l (held_mark_view h.mark) (value_node v))

-- a collection on lines in the place of those of a block scalar
abbrev pub lines_held : Layout → held.Held → Value → List Segment
lines_held l h v = block_put (break_text l.br) (held_view h) (lines (lines_at_mark l h.mark v))

-- a value in the place of a block scalar
abbrev pub block_held : Layout → held.Held → Value → List Segment
block_held l h v = block_put (break_text l.br) (held_view h) (written_at l (held_mark_view h.mark) [] (value_node v))

-- a text as a literal block scalar in the place of another block scalar, indented so far
abbrev pub literal_held : Layout → held.Held → ℕ → List ℕ → List Segment
literal_held l h indent t = literal_put (break_text l.br) (held_view h) indent t

-- a string in the place of a block scalar with a text line, indented so far
abbrev pub string_held : Layout → held.Held → ℕ → ScalarText → List Segment
string_held l h indent s = string_put (break_text l.br) (held_view h) indent s

-- a value in the place of a block scalar, with a text line or without, indented so far
abbrev pub value_held : Bool → Layout → held.Held → ℕ → Value → List Segment
value_held has_text l h indent v =
    block_scalar_put has_text (break_text l.br) (held_view h) indent (written_at l (held_mark_view h.mark) [] (value_node v)) (scalar_in (value_node v))

-- a value after a dash, in the place of the lines of a compact collection
abbrev pub value_compact : Layout → mark.EntryMark → declared_lines.LinesIn → Value → List Segment
value_compact l m w v = compact_put (break_text l.br) (lines_view w) (written_at l (held_mark_view m) [] (value_node v))

-- a value in block style in the place of a root that is a block collection in a column
abbrev pub value_root : Layout → Value → ℕ → declared_lines.LinesIn → List Segment
value_root l v column w = root_put l (value_node v) column (lines_view w)

-- a value in block style in a document without rows
abbrev pub value_no_rows : Layout → Value → piece.TextPiece → List Segment
value_no_rows l v p = no_rows_put l (value_node v) (piece_view p)

-- a value in the place of what is there
abbrev pub value_there : Bool → Layout → Value → placement.Placement → List Segment
value_there has_text l v s = value_put has_text l (value_node v) (placement_view s)

-- the same is put there, whether a block scalar there has a text line or whether another one has
abbrev pub ArePutAlike : Bool → Bool → placement.Placement → Type 0
ArePutAlike one other s = (l : Layout) (v : Node) → value_put one l v (placement_view s) ≡ value_put other l v (placement_view s)

-- a value in the place of what is at a path of a text
abbrev pub value_at_path : Path → Value → List ℕ → Option (List Segment)
value_at_path path v t = value_put_at path.doc (steps_of path) (value_node v) (cut_of t)

-- one more item or entry at the end of what is at a path of a text
abbrev pub more_at_path : Path → List ℕ → Option (Bor (List ℕ)) → Value → Option (List Segment)
more_at_path path t key v = more_at path.doc (steps_of path) (cut_of t) (borrowed key) (value_node v)
