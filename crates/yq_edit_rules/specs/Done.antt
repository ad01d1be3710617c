-- One document of a text in the place of another, as an operation makes it (own).
use Rattle.std.specs.Prelude.{◌≡◌, ℕ, ◌≤◌, List, [], ◌∷◌, length, slice_get, Some, ⊤}
use Rattle.yq_text.{specs.Limit.text_limit, specs.Script.{Segment, keep, put, new_text}}
use Rattle.yq_core.specs.Tree.{Node}
use Rattle.yq_row_table.specs.Rows.{Part, Cut, cut_text}
use Rattle.yq_documents.{specs.Documents.{document_parts, lead_of}, specs.Reading.{read_at, root_of}}
use Rattle.yq_places.specs.RowPaths.{IsReadable}
use Rattle.yq_edit_rules.{specs.Changed.{IsChanged, KeepsRows, put_document}, specs.Rooms.{is_block_root, LeadGoes, EqualRoom}}
use Rattle.yq_edit_rules.{specs.TextPieces.IsPiece, specs.ReadsAfter.ReadsAfter}
use Rattle.yq_semantics.{specs.After.{op_document, root_after}, specs.Operations.Operation, specs.RoomsKept.{KeepsBlock, SetsComment}}

-- The document of an operation has part p, and with part q for it the text reads so that this document is as the operation makes it (own).
pub record IsDone (op : Operation) (c : Cut) (p q : Part) (lead : List (List ℕ)) (f : Node → Node) : Type 0 where
  pub read : read_at (cut_text c) ≡ Some c
  pub there : slice_get (document_parts c) (op_document op) ≡ Some p
  pub rows : KeepsRows p q
  pub changed : IsChanged c (put_document (op_document op) q c) (op_document op) lead f
  pub root : f (root_of p) ≡ root_after (is_block_root p) (lead_of p) op (root_of p)
  pub lead_goes : LeadGoes p q
  pub block : KeepsBlock op (root_of q) → is_block_root q ≡ is_block_root p
  pub equal_room : SetsComment op → EqualRoom p q

-- A text whose document is so done reads as the documents after the operation (own).
abbrev pub DocumentDone : Type 0
DocumentDone = (op : Operation) (c : Cut) (p q : Part) (lead : List (List ℕ)) (f : Node → Node) →
    IsDone op c p q lead f → ReadsAfter op c (cut_text (put_document (op_document op) q c))

-- what segments keep and put in are pieces of texts (own)
abbrev pub ArePieces : List Segment → Type 0
ArePieces [] = ⊤
ArePieces (keep t ∷ ss) = IsPiece t × ArePieces ss
ArePieces (put o w ∷ ss) = IsPiece w × ArePieces ss

-- What such segments make of a text may be read, if it isn't too long (own).
abbrev pub SegmentsReadable : Type 0
SegmentsReadable = (ss : List Segment) → ArePieces ss → length (new_text ss) ≤ text_limit → IsReadable (new_text ss)
