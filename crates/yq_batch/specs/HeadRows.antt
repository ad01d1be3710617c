-- In which rows of a text heads are that were read once, and what comes after these rows or in front of them (YAML 1.2.2, 7.4, 8.2; own).
use Rattle.std.specs.Prelude.{◌≡◌, ℕ, suc, ◌+◌, ◌<◌, true, List, ◌++◌, drop, length, slice_get, Some, is_some}
use Rattle.yq_core.{specs.Collections.CollPieces, specs.Paths.Step}
use Rattle.yq_outline.specs.Lines.{head_of}
use Rattle.yq_row_table.specs.Rows.{Cut, Part, cut_text}
use Rattle.yq_documents.{specs.Documents.document_parts, specs.LinesInRows.{RowLine, document_row, row_line_of}}
use Rattle.yq_places.{specs.FlowNodes.flow_collection, specs.Placements.{RowsOfEntry, rows_of_entry}}
use Rattle.yq_edit_rules.specs.RowStays.{IsAfter, StaysInRows}

-- The node of an item or entry begins on the line of its key or dash, which is the last one of its row; so many rows of document n come before that (8.2).
pub record IsHeadInRow (c : Cut) (n : ℕ) (steps : List Step) (before : ℕ) : Type 0 where
  pub part : Part
  pub there : slice_get (document_parts c) n ≡ Some part
  pub line : RowLine
  pub found : row_line_of steps part.rows ≡ Some line
  pub last : line.line ≡ length line.row.dashes
  pub headed : is_some (head_of line.row.content) ≡ true
  pub row : line.before ≡ before

-- items and entries after so many rows of document k are in another cut as they were (own)
abbrev pub EntriesStayFrom : (c cut : Cut) → (k n : ℕ) → Type 0
EntriesStayFrom c cut k n =
    (m : ℕ) (steps : List Step) (e : RowsOfEntry) → rows_of_entry m steps c ≡ Some e → IsAfter k n m (length e.front) → StaysInRows e m steps cut

-- the row of a head is in another cut where it was, and so are items and entries after it (own)
abbrev pub HeadRowStays : (c cut : Cut) → ℕ → List Step → Type 0
HeadRowStays c cut n steps = (before : ℕ) → IsHeadInRow c n steps before → IsHeadInRow cut n steps before × EntriesStayFrom c cut n (suc before)

-- collections of a head that end in so many first bytes of a cut's text are in another cut, before other bytes (own)
abbrev pub CollectionsStay : (c cut : Cut) → ℕ → List Step → (keep : ℕ) → (tail : List ℕ) → Type 0
CollectionsStay c cut n stem keep tail =
    (left : List Step) (w : CollPieces) (mid : List ℕ) → flow_collection n (stem ++ left) c ≡ Some w → w.rest ≡ mid ++ drop keep (cut_text c) →
    flow_collection n (stem ++ left) cut ≡ Some (record w { rest = mid ++ tail })

-- the rows of heads in front of a row of document n, and their collections, are at the same places in another cut (own)
abbrev pub HeadsStayBefore : (c cut : Cut) → (n row keep : ℕ) → (tail : List ℕ) → Type 0
HeadsStayBefore c cut n row keep tail =
    (stem : List Step) (i : ℕ) → IsHeadInRow c n stem i → document_row n c + i < row → IsHeadInRow cut n stem i × CollectionsStay c cut n stem keep tail

-- the row of a head, and the heads in front of it, are at the same places in another cut (own)
abbrev pub HeadRowKeeps : (c cut : Cut) → ℕ → List Step → (keep : ℕ) → (tail : List ℕ) → Type 0
HeadRowKeeps c cut n stem keep tail = (i : ℕ) → IsHeadInRow c n stem i → IsHeadInRow cut n stem i × HeadsStayBefore c cut n (document_row n c + i) keep tail
