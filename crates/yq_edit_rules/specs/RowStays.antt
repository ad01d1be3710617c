-- What comes after rows that were replaced by others of the same shapes (own).
use Rattle.std.specs.Prelude.{◌≡◌, ◌⊎◌, ℕ, suc, ◌<◌, ◌≤◌, List, [], ◌∷◌, ◌++◌, drop, length, map, slice_get, Some}
use Rattle.yq_core.{specs.Paths.Step, specs.Tree.Node}
use Rattle.yq_outline.{specs.Outline.anchored, specs.Lines.{content_anchor, head_of}}
use Rattle.yq_row_table.specs.Rows.{Row, Part, Cut}
use Rattle.yq_documents.{specs.Documents.document_parts, specs.LinesInRows.{RowLine, row_line_of}}
use Rattle.yq_places.{specs.NodesAt.node_in, specs.PlacedRows.{PlacedPart, placed_document}, specs.Placements.{RowsOfEntry, rows_of_entry}}
use Rattle.yq_edit_rules.{specs.Appends.inserted, specs.Changed.put_document, specs.Rooms.row_shape, specs.PlacementLaws.HasItsRows}

-- A part is another one but for the first so many of its rows, which keep their shapes (own).
pub record StaysFrom (n : ℕ) (p q : Part) : Type 0 where
  pub shapes : map row_shape q.rows ≡ map row_shape p.rows
  pub rows : drop n q.rows ≡ drop n p.rows
  pub end : q.end ≡ p.end

-- A path that leads to a row after those leads there still (own).
abbrev pub RowLinesStay : Type 0
RowLinesStay =
    (n : ℕ) (p q : Part) (steps : List Step) (s : RowLine) → StaysFrom n p q → row_line_of steps p.rows ≡ Some s → n ≤ s.before →
    row_line_of steps q.rows ≡ Some s

-- A row of a document comes after so many rows of document k (own).
abbrev pub IsAfter : (k n m i : ℕ) → Type 0
IsAfter k n m i = (k < m) ⊎ ((k ≡ m) × (n ≤ i))

-- In another cut too, steps lead to the rows of an item or entry, of which those in front may be others, and the text before its document (own).
pub record StaysInRows (e : RowsOfEntry) (m : ℕ) (steps : List Step) (c : Cut) : Type 0 where
  pub start : List ℕ
  pub front : List Row
  pub found : rows_of_entry m steps c ≡ Some (record e { start = start; front = front })
  pub size : length front ≡ length e.front

-- In another cut too, a part is document m, with the same text after it; the text before it may be another one (own).
pub record StaysPlaced (d : PlacedPart) (m : ℕ) (c : Cut) : Type 0 where
  pub start : List ℕ
  pub found : placed_document m c ≡ Some (record d { before = start })

-- A document after one that is exchanged for the other part is there still (own).
abbrev pub LaterDocumentsStay : Type 0
LaterDocumentsStay =
    (c : Cut) (k n : ℕ) (p q : Part) (m : ℕ) (d : PlacedPart) → slice_get (document_parts c) k ≡ Some p → StaysFrom n p q →
    placed_document m c ≡ Some d → k < m → StaysPlaced d m (put_document k q c)

-- An item or entry after those is there still, with the document exchanged for the other part (own).
abbrev pub EntriesStay : Type 0
EntriesStay =
    (c : Cut) (k n : ℕ) (p q : Part) (m : ℕ) (steps : List Step) (e : RowsOfEntry) → slice_get (document_parts c) k ≡ Some p → StaysFrom n p q →
    rows_of_entry m steps c ≡ Some e → IsAfter k n m (length e.front) → StaysInRows e m steps (put_document k q c)

-- With one row exchanged for another one of its shape, a part is that one but for the rows up to it (own).
abbrev pub ExchangesStay : Type 0
ExchangesStay =
    (p : Part) (front back : List Row) (r new : Row) → p.rows ≡ front ++ (r ∷ back) → row_shape new ≡ row_shape r →
    StaysFrom (suc (length front)) p (inserted front (new ∷ []) back p)

-- The node of an item or entry is what the row of its key or dash spells after that, if anything is written there (8.2).
abbrev pub HeadNodes : Type 0
HeadNodes =
    (n : ℕ) (s : Step) (ss : List Step) (c : Cut) (e : RowsOfEntry) (h : Node) → HasItsRows n s ss c e → e.line ≡ length e.row.dashes →
    head_of e.row.content ≡ Some h → node_in n (s ∷ ss) c ≡ Some (anchored (content_anchor e.row.content) h)

-- These laws together (own).
pub record FollowingRowsStay : Type 0 where
  pub lines : RowLinesStay
  pub entries : EntriesStay
  pub documents : LaterDocumentsStay
  pub exchanges : ExchangesStay
  pub nodes : HeadNodes
