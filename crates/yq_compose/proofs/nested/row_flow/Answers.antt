use Rattle.std.proofs.Common.{◌∙◌}
use Rattle.yq_compose.proofs.HeadViewLaws.{known_row}
use Rattle.yq_compose.proofs.nested.row_flow.Goals as goal

pub known_head-requires : goal.known_head-requires
known_head-requires c =
    let x = c.args.x in
    known_row x.text.now x.rows.now x.decoded.now x.document c.requires.ready c.args.i _ (c.decoded_here.ensures x.decoded.now c.requires.decoded)

pub returns : goal.returns
returns c = λ k r is.
    let x = c.args.x in
    c.flow_of.ensures ∙ (c.known_head.ensures (known_row x.text.now x.rows.now x.decoded.now x.document k c.args.i _ (c.decoded_here.ensures x.decoded.now c.requires.decoded)) r is).flow
