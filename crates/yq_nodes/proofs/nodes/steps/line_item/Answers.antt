use Rattle.std.proofs.Common.{◌≡◌, None, Some, sym, arith}
use Rattle.yq_core.specs.Paths.{Nth}
use Rattle.yq_outline.{specs.Ends.part, specs.Places.find_row, specs.Positions.{line_here, position}}
use Rattle.yq_outline.proofs.ChildLaws.{child_position, child_found}
use Rattle.yq_nodes.specs.Nodes.{label_of, node_of}
use Rattle.yq_documents.specs.Stretches.{document_lines, number_of}
use Rattle.yq_documents.proofs.WalkedRows.{document_in, line_back, position_here, agrees_document}
use Rattle.yq_nodes.proofs.nodes.steps.line_item.Goals as goal

pub document_rows-requires : goal.document_rows-requires
document_rows-requires c = c.args.under.there

pub returns-in_err-at : goal.returns-in_err-at
returns-in_err-at c =
    let u = c.args.under in
    let ls = document_lines u.document u.text.now in
    let first = number_of u.document u.text.now u.first in
    let found = agrees_document c.document_rows.ensures (λ ms num. position (num u.first) (find_row (Nth c.args.index) (part ms (num u.first) u.floor)) ≡ None) c.in_err-at.ensures.found in
    rw c.from_residual.ensures (sym (child_position (Nth c.args.index) (part ls first u.floor) first None found))

pub returns : goal.returns
returns c =
    let u = c.args.under in
    let ls = document_lines u.document u.text.now in
    let at = line_back c.document_rows.ensures c.in_ok-at.ensures.within in
    let found = agrees_document c.document_rows.ensures (λ ms num. position (num u.first) (find_row (Nth c.args.index) (part ms (num u.first) u.floor)) ≡ line_here ms (Some (num c.in_ok-at.at))) c.in_ok-at.ensures.found in
    child_found (Nth c.args.index) ls (number_of u.document u.text.now u.first) u.floor (number_of u.document u.text.now c.in_ok-at.at) at.line
    (label_of c.of_line.result) (node_of c.of_line.result) at.there found (c.of_line.ensures.label at.line at.there)
    (c.of_line.ensures.node at.line at.there)

pub find_item-requires-clause-walk : goal.find_item-requires-clause-walk
find_item-requires-clause-walk c = record { rows_view = c.document_rows.ensures.small; document = (document_in c.document_rows.ensures).0; known = λ k d none. absurd (omega (arith, none)); line = tt; above = tt }

pub find_item-requires-clause-under : goal.find_item-requires-clause-under
find_item-requires-clause-under c = position_here c.document_rows.ensures c.args.under.position

pub of_line-requires-clause-there : goal.of_line-requires-clause-there
of_line-requires-clause-there c = c.args.under.there

pub of_line-requires-clause-line : goal.of_line-requires-clause-line
of_line-requires-clause-line c = line_back c.document_rows.ensures c.in_ok-at.ensures.within
