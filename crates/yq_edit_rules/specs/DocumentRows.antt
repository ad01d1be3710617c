-- Rows of one document exchanged in a cut (own).
use Rattle.std.specs.Prelude.{◌≡◌, ℕ, ◌+◌, true, false, List, ◌++◌, length, slice_get, Some}
use Rattle.yq_row_table.{specs.Exchange.{allows_first, asked_after}, specs.Grammar.{unlimited, AreRows, IsCut, no_rows}}
use Rattle.yq_row_table.specs.Rows.{Row, rows_text, Part, Cut, cut_text}
use Rattle.yq_row_table.specs.Splices.{with_first_gap, end_gap, after_first, splice_part, splice, nth_part, after_part}
use Rattle.yq_row_table.specs.Seams.{are_seamed}
use Rattle.yq_documents.{specs.Documents.{IsDocument, document_parts}, specs.PartNumbers.part_number}
use Rattle.yq_documents.specs.Reading.{part_document, part_outline, read_at}
use Rattle.yq_outline.{specs.Group.level_or, specs.Outline.IsEven}
use Rattle.yq_places.specs.RowPaths.{IsReadable}
use Rattle.yq_edit_rules.specs.Changed.{put_document}

-- Document k of a text that reads as a cut is this part.
pub record IsDocumentPart (t : List ℕ) (c : Cut) (k : ℕ) (p : Part) : Type 0 where
  pub read : read_at t ≡ Some c
  pub there : slice_get (document_parts c) k ≡ Some p

-- the text after document k
abbrev pub after_document : ℕ → Cut → List ℕ
after_document k c = after_part (part_number k c) c

-- a part with other rows between those before and those after, and this gap after them
abbrev pub put_rows : (front new back : List Row) → List ℕ → Part → Part
put_rows front new back gap p = record { rows = front ++ (new ++ with_first_gap gap back); end = end_gap gap back p.end }

-- The part of that number is document k, and to exchange rows in it is to exchange them in the document.
abbrev pub PartNumbered : Type 0
PartNumbered =
    (c : Cut) (k : ℕ) (p : Part) → slice_get (document_parts c) k ≡ Some p →
    (nth_part (part_number k c) c ≡ p) ×
    ((i j : ℕ) (new : List Row) (gap : List ℕ) → splice (part_number k c) i j new gap c ≡ put_document k (splice_part i j new gap p) c)

-- The same of rows between those before and those after.
abbrev pub RowsPut : Type 0
RowsPut =
    (c : Cut) (k : ℕ) (p : Part) (front gone back new : List Row) (gap : List ℕ) → slice_get (document_parts c) k ≡ Some p → p.rows ≡ front ++ (gone ++ back) →
    splice (part_number k c) (length front) (length front + length gone) new gap c ≡ put_document k (put_rows front new back gap p) c

-- A text is cut so, and a part means a document, whose lines are even.
pub record Known (t : List ℕ) (c : Cut) (p : Part) : Type 0 where
  pub cut : IsCut t c
  pub document : IsDocument p (part_document p)
  pub even : IsEven (level_or 0 (part_outline p)) (part_outline p)

-- A text that reads as a cut is cut so, and each of its documents means one, with even lines.
abbrev pub DocumentKnown : Type 0
DocumentKnown = (t : List ℕ) (c : Cut) (k : ℕ) (p : Part) → IsDocumentPart t c k p → Known t c p

-- Rows may be between those before and those after, with this gap after them: they are rows there, the next row may follow, and what then comes after
-- the rows in front may be there.
pub record RowsFit (front new back : List Row) (gap : List ℕ) (p : Part) (rest : List ℕ) : Type 0 where
  pub rows : AreRows (asked_after unlimited front) new gap (after_first back p.end rest)
  pub next : allows_first (asked_after (asked_after unlimited front) new) back ≡ true
  pub seam : are_seamed front (rows_text new (gap ++ after_first back p.end rest)) ≡ true

-- A cut in which rows of a document that has some are replaced by others that fit is a cut, where the new text may be.
abbrev pub DocumentSpliced : Type 0
DocumentSpliced =
    (t : List ℕ) (c : Cut) (k : ℕ) (p : Part) (front gone back new : List Row) (gap : List ℕ) → IsDocumentPart t c k p → IsCut t c →
    p.rows ≡ front ++ (gone ++ back) → no_rows p.rows ≡ false →
    RowsFit front new back gap p (after_document k c) →
    IsReadable (cut_text (put_document k (put_rows front new back gap p) c)) →
    IsCut (cut_text (put_document k (put_rows front new back gap p) c)) (put_document k (put_rows front new back gap p) c)
