-- What stays of a document in which a flow collection has other items or entries (7.4; own).
use Rattle.std.specs.Prelude.{◌≡◌, ℕ, List, Some}
use Rattle.yq_core.{specs.Paths.Step, specs.Collections.{CollPieces, collection_put}, specs.Nodes.Items}
use Rattle.yq_flow_edits.{specs.FlowEdits.FlowEdit, specs.Removals.removing}
use Rattle.yq_outline.specs.Places.{FoundLine}
use Rattle.yq_row_table.specs.Rows.{Part, Cut}
use Rattle.yq_documents.specs.Documents.{EachHasFitKeys, HasFitKeys, lead_of}
use Rattle.yq_edit_rules.{specs.DocumentRows.IsDocumentPart, specs.FlowRows.{InlineRow, IsFlowAt, with_node}}
use Rattle.yq_edit_rules.specs.Rooms.{is_block_root, EqualRoom}

-- the document with another gap and other items or entries in a collection in a row
abbrev pub with_items : Part → InlineRow → List Step → List ℕ → Items → Part
with_items p i rest gap is = with_node p i (collection_put rest gap is i.node)

-- Such a document has room for the same comments, its root is block where it was, and it has the same lead.
abbrev pub FlowRooms : Type 0
FlowRooms =
    (c : Cut) (k : ℕ) (p : Part) (steps : List Step) (f : FoundLine) (rest : List Step) (i : InlineRow) (w : CollPieces) (gap : List ℕ) (is : Items) →
    IsFlowAt c k p steps f rest i w →
    EqualRoom p (with_items p i rest gap is) × (is_block_root (with_items p i rest gap is) ≡ is_block_root p) ×
    (lead_of (with_items p i rest gap is) ≡ lead_of p)

-- The keys in the changed node are fit, if those of the new items or entries are where those of the old ones are.
abbrev pub FlowKeys : Type 0
FlowKeys =
    (t : List ℕ) (c : Cut) (k : ℕ) (p : Part) (steps : List Step) (f : FoundLine) (rest : List Step) (i : InlineRow) (w : CollPieces) (gap : List ℕ)
    (is : Items) → IsDocumentPart t c k p → IsFlowAt c k p steps f rest i w →
    (EachHasFitKeys w.items → EachHasFitKeys is) → HasFitKeys (collection_put rest gap is i.node)

-- Without one of the items or entries, the keys of the others are fit, if all were.
abbrev pub LeftKeys : Type 0
LeftKeys = (s : Step) (w : CollPieces) (e : FlowEdit) → removing s w ≡ Some e → EachHasFitKeys w.items → EachHasFitKeys e.items
