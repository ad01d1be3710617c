-- The operations inside flow collections, by the row in whose content the collection is (7.4; own).
use Rattle.std.specs.Prelude.{◌≡◌, ℕ, ◌+◌, List, [], ◌∷◌, ◌++◌, length, slice_get, Some}
use Rattle.yq_core.{specs.Paths.{Step, changed_at, within}, specs.Tree.Children}
use Rattle.yq_core.{specs.Collections.{CollAt, CollPieces, IsCollAt, coll_along}, specs.Nodes.{FlowNode, node_text}}
use Rattle.yq_flow_edits.specs.FlowEdits.{FlowEdit, IsFlowEdited, edited_node}
use Rattle.yq_outline.{specs.Places.{lines_before, FoundLine}, specs.Lines.lines_of_rows}
use Rattle.yq_row_table.{specs.Exchange.with_content, specs.Rows.{Inline, Row, parent_indent, rows_text, Part, Cut, cut_text}}
use Rattle.yq_documents.{specs.Documents.{HasFitKeys, document_parts, lead_of}, specs.Reading.{part_outline, read_at, root_of}}
use Rattle.yq_places.specs.FlowNodes.{find_head, flow_collection}
use Rattle.yq_edit_rules.{specs.Appends.inserted, specs.Changed.{put_document, ChangesIfReadable}}
use Rattle.yq_edit_rules.{specs.DocumentRows.{IsDocumentPart, after_document}, specs.SoundRoots.IsSoundRoot}
use Rattle.yq_core.specs.declared.style.Place.TheVariants as places

-- An inline node in a row of a document: the rows before and after that one, and the pieces of its content.
pub record InlineRow : Type 0 where
  pub front : List Row
  pub row : Row
  pub back : List Row
  pub space : List ℕ
  pub node : FlowNode
  pub tail : List ℕ

-- the text after the inline node of a row in document k
abbrev pub text_after_node : Cut → ℕ → Part → InlineRow → List ℕ
text_after_node c k p i = i.tail ++ rows_text i.back (p.end ++ after_document k c)

-- a collection in the inline node of a row in document k
abbrev pub row_collection : Cut → ℕ → Part → InlineRow → List Step → CollPieces → CollAt
row_collection c k p i steps w = record {
  place = places.Block;
  indent = parent_indent i.row;
  around = 0;
  node = i.node;
  rest = text_after_node c k p i;
  steps = steps;
  coll = w;
}

-- a part with another inline node in that row
abbrev pub with_node : Part → InlineRow → FlowNode → Part
with_node p i m = inserted i.front (with_content (Inline i.space m i.tail) i.row ∷ []) i.back p

-- the same with that collection edited
abbrev pub with_edit : Cut → ℕ → Part → InlineRow → List Step → CollPieces → FlowEdit → Part
with_edit c k p i steps w e = with_node p i (edited_node (row_collection c k p i steps w) e)

-- A path of a document leads to a collection in the inline node of a row, by these steps in the node.
pub record IsFlowAt (c : Cut) (k : ℕ) (p : Part) (steps : List Step) (f : FoundLine) (rest : List Step) (i : InlineRow) (w : CollPieces) : Type 0 where
  pub found : find_head steps (part_outline p) ≡ Some (f, rest)
  pub rows_are : p.rows ≡ i.front ++ (i.row ∷ i.back)
  pub content_is : i.row.content ≡ Inline i.space i.node i.tail
  pub number : length (lines_of_rows i.front) + length i.row.dashes ≡ length (lines_before f.place)
  pub along : coll_along rest i.node (text_after_node c k p i) ≡ Some w

-- A collection to which a path leads is in the inline node of its row.
abbrev pub FlowIsThere : Type 0
FlowIsThere =
    (t : List ℕ) (c : Cut) (k : ℕ) (p : Part) (steps : List Step) (f : FoundLine) (rest : List Step) (i : InlineRow) (w : CollPieces) →
    IsDocumentPart t c k p → IsFlowAt c k p steps f rest i w →
    IsCollAt (row_collection c k p i rest w)

-- An edit of the text of a flow collection changes its items or entries in the document.
abbrev pub FlowEdited : Type 0
FlowEdited =
    (t : List ℕ) (c : Cut) (k : ℕ) (p : Part) (steps : List Step) (f : FoundLine) (rest : List Step) (i : InlineRow) (w : CollPieces) (e : FlowEdit)
    (h : Children → Children) →
    IsDocumentPart t c k p → IsFlowAt c k p steps f rest i w → IsFlowEdited (row_collection c k p i rest w) e (changed_at rest (within h)) →
    HasFitKeys (edited_node (row_collection c k p i rest w) e) →
    IsSoundRoot (changed_at steps (within h) (root_of p)) → ChangesIfReadable c k (with_edit c k p i rest w e) (lead_of p) (changed_at steps (within h))

-- A path of document k leads to a flow collection, in a row of its part.
pub record FlowAt (c : Cut) (k : ℕ) (steps : List Step) (w : CollPieces) : Type 0 where
  pub part : Part
  pub there : slice_get (document_parts c) k ≡ Some part
  pub line : FoundLine
  pub rest : List Step
  pub row : InlineRow
  pub at : IsFlowAt c k part steps line rest row w

-- The flow collection at a path of a text is one in a row.
abbrev pub FlowFound : Type 0
FlowFound = (t : List ℕ) (c : Cut) (k : ℕ) (steps : List Step) (w : CollPieces) → read_at t ≡ Some c → flow_collection k steps c ≡ Some w → FlowAt c k steps w

-- The text of a cut with an inline node, and with another one in its place.
pub record NodeIsThere (c : Cut) (k : ℕ) (p : Part) (i : InlineRow) : Type 0 where
  pub before : List ℕ
  pub old : cut_text c ≡ before ++ node_text i.node (text_after_node c k p i)
  pub new : (m : FlowNode) → cut_text (put_document k (with_node p i m) c) ≡ before ++ node_text m (text_after_node c k p i)

-- With another inline node in a row the text of a cut is the same outside that node.
abbrev pub RowTexts : Type 0
RowTexts =
    (c : Cut) (k : ℕ) (p : Part) (i : InlineRow) → slice_get (document_parts c) k ≡ Some p → p.rows ≡ i.front ++ (i.row ∷ i.back) →
    i.row.content ≡ Inline i.space i.node i.tail → NodeIsThere c k p i
