use Rattle.std.{proofs.Common.{◌-◌, length, List, ℕ, sym, ap, ◌∙◌}, proofs.lemmas.Option.same_Some}
use Rattle.yq_inline.proofs.NodeForms.{ends}
use Rattle.yq_inline.proofs.borrowed_entries.end_of.Goals as goal

pub returns : goal.returns
returns c =
    let n = c.args.node in
    let e = ends n.total n.depth n.text.now n.borrowed in
    ap (λ (v : List ℕ). n.total - length v) (same_Some _ _ (sym c.past_borrowed.ensures.rest ∙ e.passed)) ∙ sym e.end
