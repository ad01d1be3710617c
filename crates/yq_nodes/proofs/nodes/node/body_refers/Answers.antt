use Rattle.std.{proofs.Common.{ap, ◌∙◌}, specs.List.list_any}
use Rattle.yq_core.{specs.Anchors.names_of, proofs.BorrowedNames.front_names}
use Rattle.yq_outline.{specs.Names.is_reference, proofs.AliasLaws.none_part}
use Rattle.yq_documents.specs.Stretches.{document_lines, number_of}
use Rattle.yq_nodes.specs.Bodies.{body_node}
use Rattle.yq_nodes.proofs.nodes.node.body_refers.Goals as goal

pub returns-in-Map : goal.returns-in-Map
returns-in-Map c = λ no.
    let u = c.in-Map.under in
    rw c.in-Map.is (none_part (document_lines u.document u.text.now) (number_of u.document u.text.now u.first) u.floor (c.may_refer.ensures no u.document))

pub returns-in-List : goal.returns-in-List
returns-in-List c = λ no.
    let u = c.in-List.under in
    rw c.in-List.is (none_part (document_lines u.document u.text.now) (number_of u.document u.text.now u.first) u.floor (c.may_refer-in-List.ensures no u.document))

pub returns-in-Borrowed : goal.returns-in-Borrowed
returns-in-Borrowed c = λ _.
    let n = c.in-Borrowed.field-0 in
    ap (λ b. list_any is_reference (names_of (body_node b))) c.in-Borrowed.is ∙ ap (list_any is_reference) (front_names n.total n.depth n.text.now n.borrowed)
