use Rattle.yq_row_table.proofs.NodePieces.{node_pieces}
use Rattle.yq_rows.proofs.laws.node_pieces.Goals as goal

pub returns : goal.returns
returns c x h utf8 place = node_pieces h.text x.at.cut x.at.index x.at.row x.space x.node x.tail h.is_cut utf8 h.node.here h.node.content place
