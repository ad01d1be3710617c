use Rattle.std.proofs.Common.{refl, sym, ap, ◌∙◌}
use Rattle.yq_outline.{specs.Bodies.borrowed, specs.Outline.{first_anchor, anchored, head_or, value}}
use Rattle.yq_outline.{proofs.EndsLaws.{deeper_line, not_end}, proofs.NodeLaws.{map_value, list_value, bare_value}}
use Rattle.yq_nodes.specs.Bodies.{body_node}
use Rattle.yq_documents.specs.Stretches.{document_lines, number_of, lines_under}
use Rattle.yq_documents.proofs.NodeLines.{bare_mark, dash_mark, key_mark, no_value}
use Rattle.yq_nodes.proofs.nodes.node_lines.lines_node.Goals as goal

pub returns-then-begins_item : goal.returns-then-begins_item
returns-then-begins_item c =
    let u = c.bare.these in
    let ls = document_lines u.document u.text.now in
    let num = number_of u.document u.text.now u.first in
    let at = c.bare-test.ensures.some refl in
    let l = at.line in
    let deep = deeper_line ls num u.floor l at.there (not_end _ c.bare-test.ensures.test) in
    let dash = dash_mark l.mark (c.if-not-begins_node.ensures l at.there) (c.if-begins_item.ensures l at.there) in
    sym (ap (anchored (borrowed c.bare.anchor)) (list_value ls num u.floor l at.there deep dash)) ∙ c.bare.invariant

pub returns-then-not-begins_node : goal.returns-then-not-begins_node
returns-then-not-begins_node c =
    let u = c.bare.these in
    let ls = document_lines u.document u.text.now in
    let num = number_of u.document u.text.now u.first in
    let at = c.bare-test.ensures.some refl in
    let l = at.line in
    let deep = deeper_line ls num u.floor l at.there (not_end _ c.bare-test.ensures.test) in
    let key = key_mark l.mark (c.if-not-begins_node.ensures l at.there) (c.if-begins_item.ensures l at.there) in
    sym (ap (anchored (borrowed c.bare.anchor)) (map_value ls num u.floor l at.there deep key.0 key.1)) ∙ c.bare.invariant

pub returns-in-Some : goal.returns-in-Some
returns-in-Some c =
    let u = c.bare.these in
    let ls = document_lines u.document u.text.now in
    let num = number_of u.document u.text.now u.first in
    let at = c.bare-test.ensures.some refl in
    let l = at.line in
    let deep = deeper_line ls num u.floor l at.there (not_end _ c.bare-test.ensures.test) in
    let under = value (lines_under u.text.now u.document u.first l) in
    let first = first_anchor (borrowed c.bare.anchor) l.anchor in
    ap (λ a. anchored a (body_node c.in-Some.body)) (c.first_anchor-anchor.ensures ∙ ap (first_anchor (borrowed c.bare.anchor)) (c.line_anchor.ensures l at.there))
    ∙ (ap (λ h. anchored first (head_or h under)) (c.in-Some.ensures l at.there)
    ∙ (sym (bare_value ls num u.floor l at.there deep (borrowed c.bare.anchor) (bare_mark l.mark (c.if-not-begins_node.ensures l at.there))) ∙ c.bare.invariant))

pub bare-preserved : goal.bare-preserved
bare-preserved c =
    let u = c.bare.these in
    let ls = document_lines u.document u.text.now in
    let num = number_of u.document u.text.now u.first in
    let at = c.bare-test.ensures.some refl in
    let l = at.line in
    let deep = deeper_line ls num u.floor l at.there (not_end _ c.bare-test.ensures.test) in
    let under = value (lines_under u.text.now u.document u.first l) in
    let first = first_anchor (borrowed c.bare.anchor) l.anchor in
    ap (λ o. anchored (borrowed c.first_anchor-anchor.result) (value o)) (c.under_line-these.ensures.lines l at.there)
    ∙ (ap (λ a. anchored a under) (c.first_anchor-anchor.ensures ∙ ap (first_anchor (borrowed c.bare.anchor)) (c.line_anchor.ensures l at.there))
    ∙ (ap (λ h. anchored first (head_or h under)) (c.in_default.ensures l at.there)
    ∙ (sym (bare_value ls num u.floor l at.there deep (borrowed c.bare.anchor) (bare_mark l.mark (c.if-not-begins_node.ensures l at.there))) ∙ c.bare.invariant)))

pub returns : goal.returns
returns c = sym (ap (anchored (borrowed c.bare.anchor)) (no_value _ c.bare-test.ensures.test)) ∙ c.bare.invariant

pub under_line-these-requires : goal.under_line-these-requires
under_line-these-requires c = record { there = c.bare.these.there; line = c.bare-test.ensures.some refl }

pub line_head-requires : goal.line_head-requires
line_head-requires c = record { there = c.bare.these.there; line = c.bare-test.ensures.some refl }
