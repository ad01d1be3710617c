-- Texts in which one document has other rows, and what they read as (own).
use Rattle.std.{specs.Prelude.{◌≡◌, ℕ, zero, suc, ◌≤◌, List, [], ◌∷◌, slice_get, Some, true}, specs.Str.is_utf8}
use Rattle.yq_core.{specs.Keys.{HasUniqueKeys, depth}, specs.Tree.Node, specs.Inline.depth_limit, specs.Anchors.{names_of, AreBound}}
use Rattle.yq_outline.{specs.Comments.head_comment, specs.LineAnchors.HaveOneAnchorEach, specs.Lines.lines_of_rows, specs.Outline.Line}
use Rattle.yq_row_table.{specs.Grammar.{IsCut, no_rows}, specs.Rows.{Part, Cut, last, marked, cut_text}}
use Rattle.yq_documents.specs.Documents.{Document, HaveFitKeys, HasShortRoot, IsDocument, document_parts, lead_of}
use Rattle.yq_documents.{specs.PartNumbers.part_number, specs.Reading.{documents, read_at, root_of}, specs.TreeEdits.change_nth}
use Rattle.yq_edit_rules.specs.Siblings.{AreSomewhere}
use Rattle.yq_places.specs.RowPaths.{IsReadable}

-- a cut with another part i, or another last one
abbrev pub put_part : ℕ → Part → Cut → Cut
put_part i q (last p) = last q
put_part zero q (marked p marker c) = marked q marker c
put_part (suc i) q (marked p marker c) = marked p marker (put_part i q c)

-- a cut in which document k has another part
abbrev pub put_document : ℕ → Part → Cut → Cut
put_document k q c = put_part (part_number k c) q c

-- a part has rows where another one has
abbrev pub KeepsRows : Part → Part → Type 0
KeepsRows p q = no_rows q.rows ≡ true → no_rows p.rows ≡ true

-- A part that keeps rows where document k has some is document k instead, and the other documents stay.
abbrev pub DocumentPut : Type 0
DocumentPut =
    (c : Cut) (k : ℕ) (p q : Part) → slice_get (document_parts c) k ≡ Some p → KeepsRows p q →
    document_parts (put_document k q c) ≡ change_nth k (λ x. q) (document_parts c)

-- a document with another lead, and its root changed
abbrev pub changed : List (List ℕ) → (Node → Node) → Document → Document
changed lead f d = record { lead = lead; root = f d.root }

-- A cut reads as another one does, but that document k has this lead, and its root is changed.
pub record IsChanged (c new : Cut) (k : ℕ) (lead : List (List ℕ)) (f : Node → Node) : Type 0 where
  pub read : read_at (cut_text new) ≡ Some new
  pub documents_are : documents new ≡ change_nth k (changed lead f) (documents c)

-- so reads a cut with another part for document k
abbrev pub IsChangedBy : Cut → ℕ → Part → List (List ℕ) → (Node → Node) → Type 0
IsChangedBy c k q lead f = IsChanged c (put_document k q c) k lead f

-- it reads so where its text is one that can be read
abbrev pub ChangesIfReadable : Cut → ℕ → Part → List (List ℕ) → (Node → Node) → Type 0
ChangesIfReadable c k q lead f = IsReadable (cut_text (put_document k q c)) → IsChangedBy c k q lead f

-- The rows of a part mean a root as is asked of a document's.
pub record HasRoot (q : Part) (root : Node) : Type 0 where
  pub is_located : AreSomewhere (lines_of_rows q.rows) root
  pub keys : HaveFitKeys q.rows
  pub unique : HasUniqueKeys root
  pub nested : depth root ≤ depth_limit
  pub anchors : HaveOneAnchorEach (lines_of_rows q.rows)
  pub bound : AreBound [] (names_of root)
  pub short : HasShortRoot q.rows

-- A part whose rows mean a root, as is asked, is a document of that root.
abbrev pub PartIsThere : Type 0
PartIsThere = (q : Part) (root : Node) → HasRoot q root → IsDocument q (record { lead = lead_of q; root = root })

-- With another part for document k, where the new text has that cut, and the part means the old root changed, it reads as the same documents but for this
-- one.
abbrev pub DocumentChanged : Type 0
DocumentChanged =
    (t : List ℕ) (c : Cut) (k : ℕ) (p q : Part) (f : Node → Node) → read_at t ≡ Some c → slice_get (document_parts c) k ≡ Some p → KeepsRows p q →
    is_utf8 (cut_text (put_document k q c)) ≡ true → IsCut (cut_text (put_document k q c)) (put_document k q c) →
    HasRoot q (f (root_of p)) → IsChangedBy c k q (lead_of q) f

-- the head comment of the first line, or another one where there are no lines
abbrev pub first_comment : List (List ℕ) → List Line → List (List ℕ)
first_comment above [] = above
first_comment above (l ∷ ls) = l.head_comment

-- The lead of a document is the head comment of its first line; where it has no rows, that of the gap at its end.
abbrev pub LeadIsFirst : Type 0
LeadIsFirst = (p : Part) → lead_of p ≡ first_comment (head_comment p.end) (lines_of_rows p.rows)
