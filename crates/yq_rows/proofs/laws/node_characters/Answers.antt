use Rattle.yq_row_table.proofs.NodeExchange.{node_text_law}
use Rattle.yq_rows.proofs.laws.node_characters.Goals as goal

pub returns : goal.returns
returns c x new h whole =
    let t = h.of_text in
    node_text_law t.text x.at.cut x.at.index x.at.row x.space x.node new x.tail t.is_cut t.node.here t.node.content h.entry
    whole.before whole.old whole.new_utf8 whole.characters
