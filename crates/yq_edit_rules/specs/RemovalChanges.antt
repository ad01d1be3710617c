-- What is taken out of a text with an item or entry, as rows taken out of a document (own).
use Rattle.std.specs.Prelude.{◌≡◌, ℕ, List, [], ◌∷◌, ◌++◌, slice_get, Option, Some, None, true}
use Rattle.yq_core.{specs.BlockRepair.repair, specs.Paths.{Step, node_at, remove_child}, specs.Text.{joined, text_lines}, specs.Tree.Node}
use Rattle.yq_core.specs.Anchors.{names_of}
use Rattle.yq_outline.specs.Places.{FoundLine}
use Rattle.yq_row_table.specs.Rows.{Part, Cut, cut_text}
use Rattle.yq_documents.{specs.Documents.{document_parts, lead_of}, specs.Reading.{part_outline, read_at, root_of}, specs.TreeEdits.at_end}
use Rattle.yq_documents.specs.Pieces.{TextPiece}
use Rattle.yq_places.{specs.FirstPlaces.first_removal, specs.RemovalPlaces.{OwnRows, own_rows, Seam, Removal, removal_place, has_others}}
use Rattle.yq_edit_rules.{specs.Changed.{KeepsRows, put_document, IsChangedBy}, specs.Conditions.AreSpared}
use Rattle.yq_edit_rules.{specs.DocumentRows.IsDocumentPart, specs.EntryRows.HasWholeRows, specs.Rooms.is_block_root}
use Rattle.yq_edit_rules.specs.Siblings.{HasEntries, IsEntryAt, NodeLines}

-- An item or entry to which a path leads has these rows as its own.
pub record HasOwnRows (p : Part) (steps : List Step) (s : Step) (x : OwnRows) : Type 0 where
  pub h : NodeLines
  pub f : FoundLine
  pub entry : IsEntryAt steps s (part_outline p) h f
  pub rows : HasWholeRows p h f x.front x.own x.back

-- The rows that are found for an item or entry are its own.
abbrev pub OwnRowsAreThere : Type 0
OwnRowsAreThere =
    (t : List ℕ) (c : Cut) (k : ℕ) (p : Part) (steps : List Step) (s : Step) (x : OwnRows) → IsDocumentPart t c k p →
    own_rows (steps ++ (s ∷ [])) p.rows ≡ Some x → HasOwnRows p steps s x

-- a gap at a seam, if there is one: repaired after a block scalar
abbrev pub mended : Option Seam → List ℕ → List ℕ
mended None gap = gap
mended (Some s) gap = joined (repair s.keeps s.indent s.column (text_lines gap))

-- What is taken out with an item or entry is in the text between its gap and the text before it.
abbrev pub RemovalIsThere : Type 0
RemovalIsThere =
    (c : Cut) (k : ℕ) (steps : List Step) (x : Removal) → read_at (cut_text c) ≡ Some c → removal_place k steps c ≡ Some x →
    cut_text c ≡ x.before ++ (x.gone ++ (x.gap ++ x.after))

-- With another part for document k, which keeps rows, a cut is this text, and reads without the item or entry.
pub record IsTakenOut (c : Cut) (k : ℕ) (steps : List Step) (t : List ℕ) : Type 0 where
  pub old : Part
  pub new : Part
  pub there : slice_get (document_parts c) k ≡ Some old
  pub rows : KeepsRows old new
  pub text : cut_text (put_document k new c) ≡ t
  pub changed : IsChangedBy c k new (lead_of new) (at_end remove_child steps)
  pub old_block : is_block_root old ≡ true
  pub new_block : is_block_root new ≡ true
  pub new_entries : HasEntries (part_outline new)

-- One of several items or entries may be taken out of a document: it isn't alone in its collection, and none of its anchors has an alias.
pub record MayTakeOut (c : Cut) (k : ℕ) (steps : List Step) : Type 0 where
  pub part : Part
  pub there : slice_get (document_parts c) k ≡ Some part
  pub others : has_others steps (root_of part) ≡ true
  pub node : Node
  pub node_is : node_at steps (root_of part) ≡ Some node
  pub spared : AreSpared (names_of node) [] (names_of (root_of part))

-- What is taken out with the first item or entry of a compact collection is in the text.
abbrev pub FirstIsThere : Type 0
FirstIsThere = (c : Cut) (k : ℕ) (steps : List Step) (x : TextPiece) → first_removal k steps c ≡ Some x → cut_text c ≡ x.before ++ (x.text ++ x.after)
