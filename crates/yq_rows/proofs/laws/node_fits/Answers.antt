use Rattle.yq_row_table.proofs.NodeExchange.{node_fits}
use Rattle.yq_rows.proofs.laws.node_fits.Goals as goal

pub returns : goal.returns
returns c x new h may =
    let t = h.of_text in
    node_fits t.text x.at.cut x.at.index x.at.row x.space x.node new x.tail t.is_cut t.node.here t.node.content h.entry may.inline may.next
