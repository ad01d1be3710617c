-- Reading (own; you may skip it): the heads of rows, as the code reads them again.
use Rattle.std.specs.Prelude.{◌≡◌, ℕ, List, [], length}
use Rattle.yq_outline.{specs.View.{head_flow, head_view}, specs.Lines.head_of, specs.Extents.head_place, specs.declared.line.Head.Head}
use Rattle.yq_row_table.{specs.Rows.{Row, Cut}, specs.View.slices}
use Rattle.yq_documents.{specs.FlowReading.row_flow, specs.RowReading.from_head}

-- The head of row i, with the text from there to the end of the row, in which it has its places, and how many bytes come before that.
pub record IsRowHead (i : ℕ) (r : Row) (c : Cut) (head : Head) (text : List ℕ) (before : ℕ) : Type 0 where
  pub view : head_view head ≡ head_of r.content
  pub flow : head_flow head ≡ row_flow (length text) r []
  pub text_is : text ≡ from_head (slices r) []
  pub before_is : before ≡ (head_place i c r).0
