use Rattle.std.proofs.Common.{refl, arith}
use Rattle.yq_outline.{specs.Ends.IsEndOf, proofs.ChildLaws.first_child}
use Rattle.yq_documents.{specs.Stretches.{document_lines, number_of}, proofs.WalkedRows.{line_here, is_located, agrees_rows}}
use Rattle.yq_documents.proofs.NodeLines.{no_children}
use Rattle.yq_nodes.proofs.nodes.children.after_first.Goals as goal

pub document_rows-requires : goal.document_rows-requires
document_rows-requires c = c.args.under.there

pub returns-then-not-has_lines-clause-after : goal.returns-then-not-has_lines-clause-after
returns-then-not-has_lines-clause-after c = no_children _ c.if-not-has_lines.ensures.test

pub returns-clause-after : goal.returns-clause-after
returns-clause-after c =
    let t = c.args.under.text.now in
    let n = c.args.under.document in
    let q = c.args.under.first in
    let ls = document_lines n t in
    let at = c.if-not-has_lines.ensures.some refl in
    let ends = agrees_rows c.document_rows.ensures (λ ms num. IsEndOf ms (num q) (num c.position_after.result)) c.position_after.ensures.end in
    record { first = at; children_are = first_child ls (number_of n t q) c.args.under.floor (number_of n t c.position_after.result) at.line at.there c.if-not-has_lines.ensures.test ends }

pub returns-clause-fewer : goal.returns-clause-fewer
returns-clause-fewer c =
    let t = c.args.under.text.now in
    let n = c.args.under.document in
    let q = c.args.under.first in
    let ends = agrees_rows c.document_rows.ensures (λ ms num. IsEndOf ms (num q) (num c.position_after.result)) c.position_after.ensures.end in
    omega (arith, ends.0, ends.1)

pub position_after-requires-clause-rows_view : goal.position_after-requires-clause-rows_view
position_after-requires-clause-rows_view c = c.document_rows.ensures.small

pub position_after-requires-clause-document : goal.position_after-requires-clause-document
position_after-requires-clause-document c = is_located c.document_rows.ensures

pub position_after-requires-clause-position : goal.position_after-requires-clause-position
position_after-requires-clause-position c = line_here c.document_rows.ensures (c.if-not-has_lines.ensures.some refl)
