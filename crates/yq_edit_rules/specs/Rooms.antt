-- A part's lead, whether its root is block, and its room for comments, by its rows, where these replace those of another part (own).
use Rattle.std.specs.Prelude.{◌≡◌, ℕ, List, map, is_some, Bool, true}
use Rattle.yq_core.{specs.Paths.Step, specs.Tree.{none, children_of}}
use Rattle.yq_row_table.specs.Rows.{RowMark, Row, Part}
use Rattle.yq_documents.{specs.Documents.lead_of, specs.Reading.{part_outline, root_of}, specs.Ready.begins_no_node}
use Rattle.yq_documents.{specs.LinesInRows.{row_line_of, row_line_has_room}, specs.TreeEdits.lead_by}
use Rattle.yq_outline.specs.Lines.{head_of, lines_of_rows}
use Rattle.yq_edit_rules.specs.Siblings.{HasEntries}
use Rattle.yq_documents.specs.declared.path.Part as places

-- whether a collection at the root of a part is block
abbrev pub is_block_root : Part → Bool
is_block_root p = begins_no_node (lines_of_rows p.rows)

-- the lead of part q goes with its root, where that takes the place of part p's: it is that one's, or where that root was block, the head comment of the first
-- item or entry
abbrev pub LeadGoes : Part → Part → Type 0
LeadGoes p q = lead_of q ≡ lead_by (is_block_root p) (children_of (root_of q)) (lead_of p)

-- A lead goes with the root, where it is the old one, and the roots are both block or both none.
abbrev pub SameLeadGoes : Type 0
SameLeadGoes = (p q : Part) → lead_of q ≡ lead_of p → is_block_root q ≡ is_block_root p → LeadGoes p q

-- A lead goes with the root, where both roots are block, and the new one has items or entries.
abbrev pub BlockLeadGoes : Type 0
BlockLeadGoes = (p q : Part) → is_block_root p ≡ true → HasEntries (part_outline q) → LeadGoes p q

-- A lead goes with the root, where it is the old one, and the new root has neither items nor entries if the old one was block.
abbrev pub KeptLeadGoes : Type 0
KeptLeadGoes = (p q : Part) → lead_of q ≡ lead_of p → (is_block_root p ≡ true → children_of (root_of q) ≡ none) → LeadGoes p q

-- two parts have room for comments at the same paths
abbrev pub EqualRoom : Part → Part → Type 0
EqualRoom p q = (part : places.Part) (steps : List Step) → row_line_has_room part (row_line_of steps q.rows) ≡ row_line_has_room part (row_line_of steps p.rows)

-- What is known of a row other than its gap and its content: its column, its dashes, its mark, and whether it has a head.
pub record RowShape : Type 0 where
  pub column : ℕ
  pub dashes : List ℕ
  pub mark : RowMark
  pub headed : Bool

-- what is known so of a row
abbrev pub row_shape : Row → RowShape
row_shape r = record { column = r.column; dashes = r.dashes; mark = r.mark; headed = is_some (head_of r.content) }

-- Rows of the same shapes have room for the same comments, and their roots are both block or both none.
abbrev pub ShapesAgree : Type 0
ShapesAgree = (p q : Part) → map row_shape q.rows ≡ map row_shape p.rows → EqualRoom p q × (is_block_root q ≡ is_block_root p)
