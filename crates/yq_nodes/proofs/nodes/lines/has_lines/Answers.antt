use Rattle.std.proofs.Common.{◌≡◌, not}
use Rattle.yq_outline.{specs.Ends.{has_no_lines, part}, proofs.WalkPositions.position_line}
use Rattle.yq_documents.proofs.WalkedRows.{line_back, position_here, is_located, agrees_rows}
use Rattle.yq_nodes.proofs.nodes.lines.has_lines.Goals as goal

pub document_rows-requires : goal.document_rows-requires
document_rows-requires c = c.args.under.there

pub is_deeper-requires-clause-rows_view : goal.is_deeper-requires-clause-rows_view
is_deeper-requires-clause-rows_view c = c.document_rows.ensures.small

pub is_deeper-requires-clause-document : goal.is_deeper-requires-clause-document
is_deeper-requires-clause-document c = is_located c.document_rows.ensures

pub is_deeper-requires-clause-position : goal.is_deeper-requires-clause-position
is_deeper-requires-clause-position c = position_here c.document_rows.ensures c.args.under.position

pub returns-clause-some : goal.returns-clause-some
returns-clause-some c = λ yes.
    let t = c.args.under.text.now in
    let q = c.args.under.first in
    line_back c.document_rows.ensures
    (position_line c.document_rows.result.0.now c.document_rows.result.1 q (position_here c.document_rows.ensures c.args.under.position) (c.is_deeper.ensures.some yes))

pub returns-clause-test : goal.returns-clause-test
returns-clause-test c =
    let t = c.args.under.text.now in
    agrees_rows c.document_rows.ensures (λ ls num. c.is_deeper.result ≡ not (has_no_lines (part ls (num c.args.under.first) c.args.under.floor)))
    c.is_deeper.ensures.test
