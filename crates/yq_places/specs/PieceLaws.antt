-- What is in pieces of a text (own).
use Rattle.std.specs.Prelude.{◌≡◌, ◌<◌, ◌⊎◌, ℕ, List, [], ◌∷◌, ◌++◌, map, Option, Some, None, slice_get, Bool, true, false}
use Rattle.yq_core.{specs.declared.kind.Kind.TheVariants.Text, specs.Block.{BlockText, block_text, IsBlock}}
use Rattle.yq_core.{specs.BlockContent.block_content, specs.Tree.key_label, specs.Nodes.{Key, key_text, FlowNode, node_text, IsFlowNode}}
use Rattle.yq_core.specs.Trees.{tree_of, key_content, node_anchor}
use Rattle.yq_row_table.specs.Rows.{Part as Rows, Cut}
use Rattle.yq_documents.{specs.declared.path.Part.Part, specs.declared.path.Part.TheVariants.{Content, Entry}}
use Rattle.yq_documents.{specs.declared.path.Path.Path, specs.Documents.document_parts, specs.Located.{labelled_located, located}}
use Rattle.yq_documents.{specs.Reading.read_at, specs.Pieces.{TextPiece, HoldsPiece}}
use Rattle.yq_outline.{specs.Lines.lines_of_rows, specs.Labelled.Labelled}
use Rattle.yq_outline.{specs.Outline.{level, Outline, flatten, IsEven, anchored, value, label}, specs.Places.content_under}
use Rattle.yq_outline.specs.Positions.{has_no_mark}
use Rattle.yq_places.specs.PrintedLines.{PrintedLine, print_lines, printed_lines, line_in, run_piece}
use Rattle.yq_places.specs.PathPieces.{PrintedDocument, printed_document, path_piece}
use Rattle.yq_core.specs.Tree as tree

-- A piece is an inline node without an anchor, which means a tree (7).
pub record IsInlinePiece (p : TextPiece) (n : tree.Node) : Type 0 where
  pub node : FlowNode
  pub unnamed : node_anchor node ≡ None
  pub text : p.text ≡ node_text node []
  pub valid : (flow : Bool) × (spaces : Option ℕ) × (depth : ℕ) × IsFlowNode flow spaces depth node p.after
  pub tree : n ≡ tree_of node

-- A piece is a block scalar, from its header to its last raw line (8.1).
pub record IsScalarPiece (p : TextPiece) (n : tree.Node) : Type 0 where
  pub block : BlockText
  pub text : p.text ≡ block_text block []
  pub valid : (least : ℕ) × IsBlock least block p.after
  pub tree : n ≡ tree.scalar None Text (block_content block)

-- A piece is that of a run of lines of a document, which comes after others and before others.
pub record IsLineRun (s : PrintedDocument) (first : PrintedLine) (others : List PrintedLine) (p : TextPiece) : Type 0 where
  pub above : List PrintedLine
  pub below : List PrintedLine
  pub lines : s.lines ≡ above ++ (first ∷ (others ++ below))
  pub piece : p ≡ run_piece (s.before ++ print_lines above []) first others (print_lines below s.after)

-- A piece is a run of lines of a document that begins with a key or dash, and these lines mean a tree (8.2).
pub record IsRunPiece (s : PrintedDocument) (p : TextPiece) (n : tree.Node) : Type 0 where
  pub first : PrintedLine
  pub others : List PrintedLine
  pub run : IsLineRun s first others p
  pub entry : has_no_mark first.line.mark ≡ false
  pub outline : Outline
  pub even : (m : ℕ) × IsEven m outline
  pub lines : map line_in (first ∷ others) ≡ flatten outline
  pub tree : n ≡ value outline

-- A piece spells a tree: as an inline node, a block scalar or a block collection.
abbrev pub SpellsTree : PrintedDocument → TextPiece → tree.Node → Type 0
SpellsTree s p n = IsInlinePiece p n ⊎ (IsScalarPiece p n ⊎ IsRunPiece s p n)

-- A piece spells a node but for its anchor.
pub record SpellsNode (s : PrintedDocument) (p : TextPiece) (n : tree.Node) : Type 0 where
  pub anchor : Option (List ℕ)
  pub tree : tree.Node
  pub node : n ≡ anchored anchor tree
  pub spelled : SpellsTree s p tree

-- A piece is an entry or item, which is a node with its label: its line, which begins with its key or dash, and the lines under it (8.2).
pub record IsEntryRun (s : PrintedDocument) (p : TextPiece) (n : Labelled) : Type 0 where
  pub first : PrintedLine
  pub others : List PrintedLine
  pub run : IsLineRun s first others p
  pub under : Outline
  pub even : (m : ℕ) × (level first.line < m) × IsEven m under
  pub lines : map line_in others ≡ flatten under
  pub label : n.0 ≡ label first.line
  pub tree : n.1 ≡ content_under first.line under

-- A piece is an item of a flow collection with its node, or an entry with its key (7.4).
pub record IsFlowPiece (p : TextPiece) (n : Labelled) : Type 0 where
  pub key : Key
  pub node : FlowNode
  pub text : p.text ≡ key_text key (node_text node [])
  pub valid : (depth : ℕ) × IsFlowNode true (Some 0) depth node p.after
  pub label : n.0 ≡ key_label (key_content key)
  pub tree : n.1 ≡ tree_of node

-- The piece of an entry or item at a path spells the node there, with its key.
abbrev pub EntriesSpell : Type 0
EntriesSpell =
    (t : List ℕ) (c : Cut) (p : Path) (s : PrintedDocument) (x : TextPiece) → read_at t ≡ Some c → printed_document p.doc c ≡ Some s →
    path_piece p Entry c ≡ Some x →
    (n : Labelled) × (labelled_located p t ≡ Some n) × (IsEntryRun s x n ⊎ IsFlowPiece x n)

-- The lines of document n are those of its rows, and with the text before and after them they are the whole text.
abbrev pub LinesAreIn : Type 0
LinesAreIn =
    (t : List ℕ) (c : Cut) (n : ℕ) (s : PrintedDocument) → read_at t ≡ Some c → printed_document n c ≡ Some s →
    (t ≡ s.before ++ print_lines s.lines s.after)
    × ((d : Rows) × (slice_get (document_parts c) n ≡ Some d) × (s.lines ≡ printed_lines d.rows) × (map line_in s.lines ≡ lines_of_rows d.rows))

-- The piece of a content at a path spells the node there.
abbrev pub ContentsSpell : Type 0
ContentsSpell =
    (t : List ℕ) (c : Cut) (p : Path) (s : PrintedDocument) (x : TextPiece) → read_at t ≡ Some c → printed_document p.doc c ≡ Some s →
    path_piece p Content c ≡ Some x →
    (n : tree.Node) × (located p t ≡ Some n) × SpellsNode s x n

-- The text holds each piece, from one whole character to another.
abbrev pub PiecesHold : Type 0
PiecesHold = (t : List ℕ) (c : Cut) (p : Path) (part : Part) (x : TextPiece) → read_at t ≡ Some c → path_piece p part c ≡ Some x → HoldsPiece t x

-- The content of an entry or item begins in that entry or item.
abbrev pub ContentsBegin : Type 0
ContentsBegin =
    (c : Cut) (p : Path) (e x : TextPiece) → path_piece p Entry c ≡ Some e → path_piece p Content c ≡ Some x →
    (front : List ℕ) × (x.before ≡ e.before ++ front)
