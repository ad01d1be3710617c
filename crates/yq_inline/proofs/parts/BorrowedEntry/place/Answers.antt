use Rattle.std.proofs.Common.{sym, ◌∙◌}
use Rattle.yq_inline.{proofs.NodeForms.ends, proofs.PartSteps.item_place}
use Rattle.yq_inline.proofs.parts.BorrowedEntry.place.Goals as goal

pub returns-in-None : goal.returns-in-None
returns-in-None c =
    let e = c.args.self.now in
    let n = e.node in
    let start = item_place e c.in-None.is ∙ (ends n.total n.depth n.text.now n.borrowed).start in
    λ i. (sym start i, c.end_of-end.ensures i)
