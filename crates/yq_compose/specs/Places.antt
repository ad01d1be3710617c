-- Reading (own; you may skip it): where the documents of a text are among its rows, by where its parts end.
use Rattle.std.specs.Prelude.{◌≡◌, ℕ, List, [], ◌∷◌, ◌++◌, length, map, nat_lt, slice_get, Option, Some, None, Bool, true, false, ◌&&◌}
use Rattle.std.{specs.Prelude.if◌then◌else◌, specs.List.list_all}
use Rattle.yq_outline.{specs.LinesReading.lines_are_sound, specs.Lines.lines_of_rows}
use Rattle.yq_row_table.{specs.Grammar.begins_document, specs.Rows.Part, specs.View.{Bound, Slices}}
use Rattle.yq_documents.{specs.Documents.document_parts, specs.Holding.IsLocated, specs.Reading.{cut_of, has_short_root}}
use Rattle.yq_documents.specs.declared.documents.DocumentRows.{DocumentRows}

-- the gap of a row, if there is one, or another gap (own)
abbrev pub gap_or : Option Slices → List ℕ → List ℕ
gap_or None end = end
gap_or (Some s) end = s.gap

-- the gap before row k, where it comes before the end of a part, or the gap there (own)
abbrev pub gap_before_row : List Slices → ℕ → Bound → List ℕ
gap_before_row ss k b = if nat_lt k b.rows then gap_or (slice_get ss k) b.end else b.end

-- where the rows of a part begin and end, and the gap that its lead ends, if it is a document; k rows come before it (own)
abbrev pub part_row : List Slices → Bool → ℕ → Bound → List (ℕ × ℕ × List ℕ)
part_row ss true k b = (k, b.rows, gap_before_row ss k b) ∷ []
part_row ss false k b = []

-- the same of documents; of the first part it is known whether it is one (own)
abbrev pub all_document_rows : List Slices → Bool → ℕ → List Bound → List (ℕ × ℕ × List ℕ)
all_document_rows ss is k [] = []
all_document_rows ss is k (b ∷ bs) = part_row ss is k b ++ all_document_rows ss (begins_document b.marker) b.rows bs

-- the same of a document of the code (own)
abbrev pub document_view : DocumentRows → ℕ × ℕ × List ℕ
document_view d = (d.first, d.end, d.lead.now)

-- the same of documents of the code (own)
abbrev pub documents_view : List DocumentRows → List (ℕ × ℕ × List ℕ)
documents_view ds = map document_view ds

-- The documents of a text are there (own).
pub record AreLocated (t : List ℕ) (ds : List DocumentRows) : Type 0 where
  pub count : length ds ≡ length (document_parts (cut_of t))
  pub each : (n : ℕ) (d : DocumentRows) (p : Part) → slice_get ds n ≡ Some d → slice_get (document_parts (cut_of t)) n ≡ Some p → IsLocated t n p d

-- the root of a part is no plain scalar of several lines, and its lines are sound (own)
abbrev pub part_is_sound : Part → Bool
part_is_sound p = has_short_root p.rows && lines_are_sound (lines_of_rows p.rows)

-- the same of parts (own)
abbrev pub all_sound : List Part → Bool
all_sound ps = list_all part_is_sound ps
