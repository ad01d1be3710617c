use Rattle.std.proofs.Common.{refl, sym, ap, ◌∙◌}
use Rattle.yq_core.{specs.Borrowed.are_borrowed, specs.Nodes.{bare, begins_with}}
use Rattle.yq_inline.{specs.Measured.closing_byte, proofs.PartSteps.node_found}
use Rattle.yq_inline.proofs.parts.BorrowedParts.first.Goals as goal

pub invariant_of-node-clause-borrowed : goal.invariant_of-node-clause-borrowed
invariant_of-node-clause-borrowed c =
    let s = c.args.self in
    let keyed = sym c.if-self.false in
    node_found s.depth 93 s.text.now refl (ap (λ b. begins_with (closing_byte b) s.text.now) keyed ∙ c.requires) (ap (λ b. are_borrowed s.depth (closing_byte b) s.text.now) keyed ∙ s.borrowed) bare s.text.now refl
