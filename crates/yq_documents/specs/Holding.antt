-- Reading (own; you may skip it): what is kept of a text that reads as documents.
use Rattle.std.{specs.Prelude.{◌≡◌, ℕ, ◌+◌, List, length, slice_get, Some, Bool, true, false}, specs.List.list_any}
use Rattle.yq_outline.{specs.Comments.head_comment, specs.Names.{is_reference, line_names}}
use Rattle.yq_row_table.{specs.Grammar.IsCut, specs.Rows.{Row, Part}, specs.View.{rows_of, RowsView, rows_view}}
use Rattle.yq_documents.{specs.Documents.{document_parts, lead_of}, specs.Decoded.{IsDecoded, Rise}, specs.Reading.{all_documents, cut_of}}
use Rattle.yq_documents.{specs.LinesInRows.document_row, specs.Stretches.document_lines, specs.declared.decoded.Decoded.Decoded}
use Rattle.yq_documents.specs.declared.documents.DocumentRows.{DocumentRows}

-- The rows of document n of a text, and the gap that its lead ends, are there (own).
pub record IsLocated (t : List ℕ) (n : ℕ) (p : Part) (d : DocumentRows) : Type 0 where
  pub lead : head_comment d.lead.now ≡ lead_of p
  pub first : d.first ≡ document_row n (cut_of t)
  pub end : d.end ≡ d.first + length p.rows

-- A text that reads as documents, by the pieces of its cut, the places of its documents, what is made of its rows, and whether an alias may be in it (own).
pub record Holds (t : List ℕ) (s : RowsView) (ds : List DocumentRows) (ms : List Decoded) (refers : Bool) : Type 0 where
  pub cut : IsCut t (cut_of t)
  pub rows : s ≡ rows_view (cut_of t)
  pub sound : all_documents (cut_of t) ≡ true
  pub count : length ds ≡ length (document_parts (cut_of t))
  pub places : (n : ℕ) (d : DocumentRows) (p : Part) → slice_get ds n ≡ Some d → slice_get (document_parts (cut_of t)) n ≡ Some p → IsLocated t n p d
  pub rise : Rise 0 ms
  pub agrees : (i : ℕ) (r : Row) → slice_get (rows_of (cut_of t)) i ≡ Some r → IsDecoded t (cut_of t) ms i r
  pub alias_free : refers ≡ false → (n : ℕ) → list_any is_reference (line_names (document_lines n t)) ≡ false
