use Rattle.std.proofs.Common.{◌-◌, Some, None, cond, length, true, sym, ap, ◌∙◌}
use Rattle.yq_core.specs.Nodes.{begins_content}
use Rattle.yq_inline.proofs.NodeForms.{ends}
use Rattle.yq_inline.proofs.parts.BorrowedEntry.content_place.Goals as goal

pub returns-then-not-begins_content : goal.returns-then-not-begins_content
returns-then-not-begins_content c =
    let n = c.args.self.now.node in
    let e = ends n.total n.depth n.text.now n.borrowed in
    let test = ap (begins_content true) (sym c.as_bytes.ensures.value) ∙ (sym c.begins_content.ensures ∙ c.if-not-begins_content.true) in
    sym (e.content ∙ ap (λ b. cond b (Some (n.total - length n.text.now, n.total - length e.rest)) None) test)

pub returns : goal.returns
returns c =
    let n = c.args.self.now.node in
    let e = ends n.total n.depth n.text.now n.borrowed in
    let test = ap (begins_content true) (sym c.as_bytes.ensures.value) ∙ (sym c.begins_content.ensures ∙ c.if-not-begins_content.false) in
    ap (λ m. Some (n.total - length n.text.now, m)) (c.end_of.ensures ∙ e.end) ∙ sym (e.content ∙ ap (λ b. cond b (Some (n.total - length n.text.now, n.total - length e.rest)) None) test)
