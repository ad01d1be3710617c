-- A row of a cut and the node that it holds, and what may be in their place (own).
use Rattle.std.{specs.Prelude.{◌≡◌, ◌⊎◌, ◌≤◌, ℕ, true, List, [], ◌++◌, Some, slice_get}, specs.Str.IsUtf8}
use Rattle.yq_core.{specs.Characters.is_text, specs.Inline.IsInline, specs.Nodes.{FlowNode, node_text}}
use Rattle.yq_core.specs.declared.style.Place.TheVariants.{Block}
use Rattle.yq_row_table.specs.Alone.{FitsAlone}
use Rattle.yq_row_table.specs.Exchange.{FitsRow, HasPieces, allows_first, before_content, after_row, exchange, following_rows, with_content}
use Rattle.yq_row_table.specs.Grammar.{IsCut, IsTail, is_entry, limit_after}
use Rattle.yq_row_table.{specs.Rows.{Content, Cut, Inline, Row, cut_text, parent_indent}, specs.View.rows_of}

-- a row and its index, counted through all parts of a cut (own)
pub record RowInCut : Type 0 where
  pub cut : Cut
  pub index : ℕ
  pub row : Row

-- the cut has that row at that index (own)
abbrev pub IsRowInCut : RowInCut → Type 0
IsRowInCut x = slice_get (rows_of x.cut) x.index ≡ Some x.row

-- It is a row of a text: the text has that cut, and the cut that row (own).
pub record IsRowOfText (x : RowInCut) : Type 0 where
  pub text : List ℕ
  pub is_cut : IsCut text x.cut
  pub here : IsRowInCut x

-- the text before the row's content (own)
abbrev pub before_row_content : RowInCut → List ℕ
before_row_content x = before_content x.index x.cut

-- the text after the row (own)
abbrev pub text_after : RowInCut → List ℕ
text_after x = after_row x.index x.cut

-- the rows of the same part after the row (own)
abbrev pub rows_after : RowInCut → List Row
rows_after x = following_rows x.index x.cut

-- the cut with another content in that row (own)
abbrev pub cut_with_content : Content → RowInCut → Cut
cut_with_content new x = exchange x.index new x.cut

-- a content may be in the place of the row's, after a dash or a key (own)
abbrev pub FitsAfterMark : Content → RowInCut → Type 0
FitsAfterMark new x = FitsRow new x.row (text_after x) (rows_after x)

-- a content may be in the place of the row's, which has neither a dash nor a key (own)
abbrev pub FitsWithoutMark : Content → RowInCut → Type 0
FitsWithoutMark new x = FitsAlone new x.row (text_after x) (rows_after x)

-- A tail may end the row, and the next row of the part is at a column below this one (own).
pub record EndsBelow (column : ℕ) (tail : List ℕ) (x : RowInCut) : Type 0 where
  pub tail_is : IsTail tail (text_after x)
  pub next : allows_first (record { column = Some column }) (rows_after x) ≡ true

-- an inline node at a row, with the white space in front of it and the tail after it (own)
pub record NodeInRow : Type 0 where
  pub at : RowInCut
  pub space : List ℕ
  pub node : FlowNode
  pub tail : List ℕ

-- a content that is another node between the same white space and tail (own)
abbrev pub content_with : FlowNode → NodeInRow → Content
content_with new x = Inline x.space new x.tail

-- It is the node of a row of a cut (own).
pub record IsNodeInRow (x : NodeInRow) : Type 0 where
  pub here : IsRowInCut x.at
  pub content : x.at.row.content ≡ content_with x.node x

-- It is the node of a row of a text (own).
pub record IsNodeOfText (x : NodeInRow) : Type 0 where
  pub text : List ℕ
  pub is_cut : IsCut text x.at.cut
  pub node : IsNodeInRow x

-- It is the node of a row of a text, after a dash or a key (own).
pub record IsNodeAfterMark (x : NodeInRow) : Type 0 where
  pub of_text : IsNodeOfText x
  pub entry : is_entry x.at.row.mark ≡ true

-- the node comes after a dash or a key, or its row is indented (own)
abbrev pub IsMarkedOrIndented : NodeInRow → Type 0
IsMarkedOrIndented x = (is_entry x.at.row.mark ≡ true) ⊎ (1 ≤ x.at.row.column)

-- the text before the node (own)
abbrev pub before_node : NodeInRow → List ℕ
before_node x = before_row_content x.at ++ x.space

-- the text after the node (own)
abbrev pub after_node : NodeInRow → List ℕ
after_node x = x.tail ++ text_after x.at

-- the text with another node in the place of that one (own)
abbrev pub text_with : FlowNode → NodeInRow → List ℕ
text_with new x = cut_text (cut_with_content (content_with new x) x.at)

-- Another node may be in its place: it is an inline node there, and after it the next row may be (own).
pub record MayReplaceNode (new : FlowNode) (x : NodeInRow) : Type 0 where
  pub inline : IsInline Block (parent_indent x.at.row) 0 new (after_node x)
  pub next : allows_first (limit_after (with_content (content_with new x) x.at.row)) (rows_after x.at) ≡ true

-- The text before the node, the node and another one are whole characters, and that one has the characters of a text (own).
pub record AreWhole (new : FlowNode) (x : NodeInRow) : Type 0 where
  pub before : IsUtf8 (before_node x)
  pub old : IsUtf8 (node_text x.node [])
  pub new_utf8 : IsUtf8 (node_text new [])
  pub characters : is_text (node_text new []) ≡ true

-- a text is that before the node, the node, and that after it, cut between characters (own)
abbrev pub IsCutAtNode : List ℕ → NodeInRow → Type 0
IsCutAtNode t x = HasPieces t (before_node x) (node_text x.node []) (after_node x)
