use Rattle.std.proofs.Common.{ap, ◌∙◌}
use Rattle.yq_outline.{specs.Bodies.borrowed, specs.Outline.{anchored, head_or, value}}
use Rattle.yq_nodes.specs.Bodies.{body_node}
use Rattle.yq_documents.specs.Stretches.{lines_under}
use Rattle.yq_nodes.proofs.nodes.node_lines.line_node.Goals as goal

pub returns-in-Some : goal.returns-in-Some
returns-in-Some c l there =
    let under = value (lines_under c.args.text.now c.args.document c.args.at l) in
    ap (λ a. anchored a (body_node c.in-Some.body)) (c.line_anchor-anchor.ensures l there) ∙ ap (λ h. anchored l.anchor (head_or h under)) (c.in-Some.ensures l there)

pub returns : goal.returns
returns c l there =
    let under = value (lines_under c.args.text.now c.args.document c.args.at l) in
    c.lines_node.ensures
    ∙ (ap (λ o. anchored (borrowed c.line_anchor-anchor.result) (value o)) (c.under_line.ensures.lines l there)
    ∙ (ap (λ a. anchored a under) (c.line_anchor-anchor.ensures l there) ∙ ap (λ h. anchored l.anchor (head_or h under)) (c.in_default.ensures l there)))
