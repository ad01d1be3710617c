use Rattle.yq_row_table.proofs.PlainEnds.{plain_ends}
use Rattle.yq_rows.proofs.laws.plain_ends.Goals as goal

pub returns : goal.returns
returns c x tail d h ends = plain_ends h.text x.cut x.index x.row tail d h.is_cut h.here ends.tail_is ends.next
