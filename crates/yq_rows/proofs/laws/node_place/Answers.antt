use Rattle.yq_row_table.proofs.NodeExchange.{new_node_place, node_place}
use Rattle.yq_rows.proofs.laws.node_place.Goals as goal

pub returns-clause-old : goal.returns-clause-old
returns-clause-old c x h = node_place x.at.cut x.at.index x.at.row x.space x.node x.tail h.here h.content

pub returns-clause-new : goal.returns-clause-new
returns-clause-new c x here = new_node_place x.at.cut x.at.index x.at.row x.space x.node x.tail here
