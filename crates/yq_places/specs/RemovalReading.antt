-- Reading (own; you may skip it): what is taken out with an item or entry, by the pieces of rows, as the code counts.
use Rattle.std.specs.Prelude.{◌≡◌, ℕ, ◌+◌, false, List, [], ◌∷◌, ◌++◌, length, slice_get, Option, Some, None, option_map, drop, ◌≤◌, ◌-◌}
use Rattle.yq_text.specs.Halves.{whole}
use Rattle.yq_core.{specs.Answers.◌>>=◌, specs.Paths.Step}
use Rattle.yq_row_table.{specs.Grammar.{IsCut, no_rows}, specs.Rows.{Cut, Row, Part}}
use Rattle.yq_row_table.specs.View.{Slices, Bound, bounds_at, RowsView, rows_view, rows_of}
use Rattle.yq_documents.{specs.Documents.document_parts, specs.Reading.cut_of, specs.LinesInRows.document_row}
use Rattle.yq_places.{specs.PlacedRows.{PlacedPart, placed_document}, specs.RemovalPlaces.{OwnRows, own_rows, Seam, Removal}}
use Rattle.yq_places.specs.declared.places.lines_cut.LinesIn as declared
use Rattle.yq_places.specs.declared.places.removal_place.Seam as seams

-- the gap of a row and its column; or where a part ends in front of it, the gap at that end and 0
abbrev pub gap_and_column : List Bound → Option Slices → List ℕ × ℕ
gap_and_column (b ∷ bs) x = (b.end, 0)
gap_and_column [] None = ([], 0)
gap_and_column [] (Some s) = (s.gap, s.column)

-- the same of row i
abbrev pub gap_counts : ℕ → RowsView → List ℕ × ℕ
gap_counts i s = gap_and_column (bounds_at i s.bounds) (slice_get s.rows i)

-- how many rows come before a document, before an item or entry of it, and before what is after that
abbrev pub RowCounts : Type 0
RowCounts = ℕ × ℕ × ℕ

-- these numbers for rows of an item or entry, where so many rows come before the document
abbrev pub marks : ℕ → OwnRows → RowCounts
marks k x = (k, k + length x.front, k + length x.front + length x.own)

-- these numbers for the item or entry to which steps lead in document n
abbrev pub mark_counts : ℕ → List Step → Cut → Option RowCounts
mark_counts n steps c = slice_get (document_parts c) n >>= λ p. option_map (marks (document_row n c)) (own_rows steps p.rows)

-- Rows of a document are an item's or entry's own, by where they begin and end.
pub record IsOwn (t : List ℕ) (s : RowsView) (d : PlacedPart) (x : OwnRows) (m : RowCounts) : Type 0 where
  pub cut : IsCut t (cut_of t)
  pub rows_view_is : s ≡ rows_view (cut_of t)
  pub document : ℕ
  pub placed : placed_document document (cut_of t) ≡ Some d
  pub rows_are : d.part.rows ≡ x.front ++ (x.own ++ x.back)
  pub some : no_rows x.own ≡ false
  pub marks_are : m ≡ marks (document_row document (cut_of t)) x

-- Some rows of a document are an item's or entry's own, by where they begin and end.
pub record HasOwn (t : List ℕ) (s : RowsView) (m : RowCounts) : Type 0 where
  pub part : PlacedPart
  pub rows : OwnRows
  pub is : IsOwn t s part rows m

-- From one row of a text on are the rows of a part, and another row is one of them or comes after them.
pub record HasPartFrom (s : RowsView) (first at : ℕ) : Type 0 where
  pub text : List ℕ
  pub cut : Cut
  pub is_cut : IsCut text cut
  pub rows_view_is : s ≡ rows_view cut
  pub part : Part
  pub more : List Row
  pub rows : drop first (rows_of cut) ≡ part.rows ++ more
  pub within : at - first ≤ length part.rows

-- a seam as the code reports it
abbrev pub seam_view : seams.Seam → Seam
seam_view s = record { keeps = s.keeps; indent = s.indent; column = s.column }

-- what is taken out, as the code lends it
abbrev pub removal_view : declared.LinesIn → Option seams.Seam → Removal
removal_view x s = record { before = whole x.before; gone = whole x.lines; gap = x.last.now; after = whole x.after; seam = option_map seam_view s }
