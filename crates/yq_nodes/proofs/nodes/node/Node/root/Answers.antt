use Rattle.std.proofs.Common.{ap, None, ◌∙◌}
use Rattle.yq_outline.{specs.Ends.part, specs.Outline.{anchored, value}, proofs.NameLaws.all_value}
use Rattle.yq_documents.{specs.Stretches.document_lines, proofs.WalkedRows.{first_is, root_is}}
use Rattle.yq_nodes.proofs.nodes.node.Node.root.Goals as goal

pub returns-clause-node : goal.returns-clause-node
returns-clause-node c = λ d e.
    let t = c.args.text.now in
    let ls = document_lines c.args.i t in
    c.lines_node.ensures
    ∙ (ap (λ n. anchored None (value (part ls n 0))) (first_is c.document_rows.ensures)
    ∙ (all_value ls ∙ root_is t c.args.i d e))
