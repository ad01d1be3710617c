-- One of several items or entries of a block collection taken out (own).
use Rattle.std.specs.Prelude.{ℕ, List, []}
use Rattle.yq_core.specs.Text.{joined, text_lines}
use Rattle.yq_row_table.{specs.Rows.{Row, Part}, specs.Splices.first_gap, specs.Removal.{last_block, next_column, seam_gap}}
use Rattle.yq_documents.specs.Pieces.{before_run}
use Rattle.yq_edit_rules.specs.DocumentRows.{put_rows}

-- the gap where rows are taken out: what stays of the gap before them without its head comment, and the next one, repaired after a block scalar
abbrev pub left_gap : (front gone back : List Row) → Part → List ℕ
left_gap front gone back p = seam_gap (last_block front) (next_column back) (joined (before_run (text_lines (first_gap gone p.end)))) (first_gap back p.end)

-- a part without the rows between those before and those after
abbrev pub without : (front gone back : List Row) → Part → Part
without front gone back p = put_rows front [] back (left_gap front gone back p) p
