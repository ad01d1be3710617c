-- What a reading promises of its documents, so that updates have a meaning on them (own).
use Rattle.std.specs.Prelude.{◌≡◌, ℕ, ◌≤◌, List, [], ◌∷◌, Option, Some, None, slice_get, Bool, true}
use Rattle.yq_core.{specs.Keys.depth, specs.Shapes.IsTree, specs.Tree.children_of, specs.Inline.depth_limit}
use Rattle.yq_outline.{specs.Outline.Line, specs.Sound.is_entry_line, specs.Lines.lines_of_rows}
use Rattle.yq_row_table.specs.Rows.{Part}
use Rattle.yq_documents.{specs.Documents.{Document, document_parts}, specs.Located.document_at, specs.Reading.cut_of}
use Rattle.yq_documents.specs.TreeEdits.{lead_by}

-- whether lines begin with a key or dash, or there are none, so that the root is no inline node (own)
abbrev pub begins_no_node : List Line → Bool
begins_no_node [] = true
begins_no_node (l ∷ ls) = is_entry_line l.mark

-- the same of the rows of a part, if there is one (own)
abbrev pub part_is_block : Option Part → Bool
part_is_block None = true
part_is_block (Some p) = begins_no_node (lines_of_rows p.rows)

-- whether a collection at the root of document i of a text is block: the root is no inline node (own)
abbrev pub root_is_block : List ℕ → ℕ → Bool
root_is_block t i = part_is_block (slice_get (document_parts (cut_of t)) i)

-- A document is a tree with no more collections nested than may be, and where its root is block, the lead is the head comment of the first
-- item or entry, if there is one (YAML 1.2.2, section 3.2.1; own).
pub record IsReady (block : Bool) (d : Document) : Type 0 where
  pub tree : IsTree d.root
  pub nested : depth d.root ≤ depth_limit
  pub led : lead_by block (children_of d.root) d.lead ≡ d.lead

-- each document of a text is ready (own)
abbrev pub TextIsReady : List ℕ → Type 0
TextIsReady t = (i : ℕ) (d : Document) → document_at t i ≡ Some d → IsReady (root_is_block t i) d
