-- A text with its cut, and that it is not too long.
use Rattle.std.proofs.Common.{◌≤◌, ℕ, List, length, subst}
use Rattle.yq_text.specs.Limit.{text_limit}
use Rattle.yq_row_table.specs.View.{RowsView}
use Rattle.yq_outline.specs.Extents.{IsRowsView}
use Rattle.yq_places.specs.RowWalk.{HasCut}
use Rattle.yq_documents.specs.Reading.{cut_of}

pub cut_view : (t : List ℕ) (s : RowsView) → HasCut t s → IsRowsView s
cut_view t s h = record { cut = cut_of t; is = h.rows; size = subst (λ (x : List ℕ). length x ≤ text_limit) h.cut.text h.cut.size }
