-- Reading (own; you may skip it): documents whose parts are known, from which a search for later ones goes on.
use Rattle.std.specs.Prelude.{◌≡◌, ℕ, ◌+◌, ◌||◌, Bool, true, not, IfSome, List, drop, Option, Some}
use Rattle.yq_row_table.{specs.Rows.Cut, specs.Touched.TouchesOnly, specs.View.{Bound, rows_view}}
use Rattle.yq_documents.{specs.PartReading.{first_rows, number_in, some_begin}, specs.Reading.cut_of}
use Rattle.yq_outline.{specs.RowWalk.stretch_view, specs.declared.line_position.Stretch.Stretch}
use Rattle.yq_places.specs.RowWalk.{document_row_range}
use Rattle.yq_lookup.specs.declared.known_document.KnownDocument.{KnownDocument}
use Rattle.yq_lookup.specs.declared.known_document.KnownDocuments.{KnownDocuments}

-- the number of the part that is document n, by the ends of the parts (YAML 1.2.2, 9.1 and 9.2)
abbrev pub part_by_number : ℕ → List Bound → Option ℕ
part_by_number n bs = number_in (first_rows bs || not (some_begin bs)) n 0 bs

-- A document is known by the number of its part.
abbrev pub IsKnownDocument : List Bound → KnownDocument → Type 0
IsKnownDocument bs k = part_by_number k.doc bs ≡ Some k.part

-- Documents are known.
abbrev pub AreKnownDocuments : List Bound → KnownDocuments → Type 0
AreKnownDocuments bs ks = IfSome ks.last (IsKnownDocument bs) × IfSome ks.before (IsKnownDocument bs)

-- From a part on, before which so many documents are, the others are numbered as from the first part on.
abbrev pub NumbersGoOn : List Bound → (part before : ℕ) → Bool → Type 0
NumbersGoOn bs part before is = (n : ℕ) → part_by_number (before + n) bs ≡ number_in is n part (drop part bs)

-- A document stays known in each text in which the items of its cut stay that end in front of so many bytes.
abbrev pub DocumentStays : ℕ → Cut → KnownDocument → Type 0
DocumentStays front c k = (new : Cut) (back : ℕ) → TouchesOnly front back c new → IsKnownDocument (rows_view new).bounds k

-- The first part has rows in each text in which the items of its cut stay that end in front of so many bytes.
abbrev pub FirstRowStays : ℕ → Cut → Type 0
FirstRowStays front c = (new : Cut) (back : ℕ) → TouchesOnly front back c new → first_rows (rows_view new).bounds ≡ true

-- Documents stay known so.
abbrev pub DocumentsStay : ℕ → Cut → KnownDocuments → Type 0
DocumentsStay front c ks = (new : Cut) (back : ℕ) → TouchesOnly front back c new → AreKnownDocuments (rows_view new).bounds ks

-- The rows of a document of a text are these, if one is known.
abbrev pub HasDocumentRows : Option (ℕ × Stretch) → List ℕ → Type 0
HasDocumentRows o t = IfSome o (λ x. Some (stretch_view x.1) ≡ document_row_range x.0 (cut_of t))

-- The documents, with the rows of the last one.
abbrev pub KnowDocuments : List Bound → KnownDocuments → Option (ℕ × Stretch) → List ℕ → Type 0
KnowDocuments bs ks o t = AreKnownDocuments bs ks × HasDocumentRows o t
