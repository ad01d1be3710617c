-- Reading (own; you may skip it): the key or dash of an item or entry, with what it holds up to a row.
use Rattle.std.specs.Prelude.{◌≡◌, ℕ, suc, ◌+◌, List, ◌++◌, length, Some}
use Rattle.yq_core.specs.Paths.{Step}
use Rattle.yq_row_table.specs.Rows.{Row, Cut}
use Rattle.yq_documents.specs.LinesInRows.{document_row}
use Rattle.yq_places.specs.Placements.{Held, RowsOfEntry, held, rows_of_entry}
use Rattle.yq_places.specs.declared.places.rows_of_entry.RowsOfEntry as declared

-- Of the item or entry to which steps lead in document n the code has its rows, and what its key or dash would hold if the rows under it
-- ended before a row. Its line is the last one of its row.
pub record IsHeldUpto (n : ℕ) (steps : List Step) (c : Cut) (end : ℕ) (m : declared.RowsOfEntry) (h : Held) : Type 0 where
  pub entry : RowsOfEntry
  pub found : rows_of_entry n steps c ≡ Some entry
  pub last : entry.line ≡ length entry.row.dashes
  pub row_is : m.row ≡ document_row n c + length entry.front
  pub end_is : m.end ≡ m.row + suc (length entry.under)
  pub upto : List Row
  pub others : List Row
  pub under_is : entry.under ≡ upto ++ others
  pub size : end ≡ m.row + suc (length upto)
  pub held_is : h ≡ held (record entry { under = upto; back = others ++ entry.back })
