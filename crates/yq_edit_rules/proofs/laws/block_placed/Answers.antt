use Rattle.std.proofs.Common.{arith}
use Rattle.yq_row_table.specs.Rows.{mark_column}
use Rattle.yq_edit_rules.{specs.BlockRows.{item_column, node_rows}, proofs.BlockLineLaws.node_begun}
use Rattle.yq_edit_rules.{proofs.PlaceLaws.{under_laid, after_laid, compact_lines, rows_replaced}, proofs.RowLaws.deeper_laid}
use Rattle.yq_edit_rules.proofs.laws.block_placed.Goals as goal

pub returns-clause-under : goal.returns-clause-under
returns-clause-under c = λ v l limit r s old x below end rest h above.
    under_laid limit r s old x below (node_rows l below end v) rest above (deeper_laid v l (mark_column s) below end rest above.deep h)

pub returns-clause-after : goal.returns-clause-after
returns-clause-after c = λ v l limit r s old end rest h row upto last.
    let below = item_column (mark_column s) in
    after_laid limit r s old (node_rows l below end v) rest row upto last (deeper_laid v l (mark_column s) below end rest (omega arith) h)

pub returns-clause-lines : goal.returns-clause-lines
returns-clause-lines c = λ v l s end h. let below = item_column (mark_column s) in compact_lines s (node_rows l below end v) (node_begun v l below end h.filled h.value)

pub returns-clause-replaced : goal.returns-clause-replaced
returns-clause-replaced c = λ limit column before under after new r end rest h upto by. rows_replaced limit column before under after new r end rest h upto by
