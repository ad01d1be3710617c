-- Where a document that has other rows is in its text (9.1; own).
use Rattle.std.specs.Prelude.{◌≡◌, ℕ, ◌++◌, slice_get, Some}
use Rattle.yq_row_table.specs.Rows.{Part, part_text, Cut, cut_text}
use Rattle.yq_documents.specs.Documents.{document_parts}
use Rattle.yq_places.specs.PlacedRows.{PlacedPart, placed_document}
use Rattle.yq_edit_rules.{specs.Changed.put_document, specs.DocumentRows.after_document}

-- A document is in a cut between two texts, and so is another part that replaces it.
pub record IsDocumentAt (c : Cut) (k : ℕ) (s : PlacedPart) : Type 0 where
  pub there : slice_get (document_parts c) k ≡ Some s.part
  pub after : after_document k c ≡ s.after
  pub text : cut_text c ≡ s.before ++ part_text s.part s.after
  pub put : (q : Part) → cut_text (put_document k q c) ≡ s.before ++ part_text q s.after

-- Each document of a cut is in its text so.
abbrev pub DocumentIsThereAt : Type 0
DocumentIsThereAt = (c : Cut) (k : ℕ) (s : PlacedPart) → placed_document k c ≡ Some s → IsDocumentAt c k s
