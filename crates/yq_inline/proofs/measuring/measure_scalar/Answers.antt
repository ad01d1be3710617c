use Rattle.std.proofs.Common.{◌∙◌, Some, ap, false, sym}
use Rattle.yq_inline.proofs.ShortSteps.{scalar_measured}
use Rattle.yq_inline.proofs.measuring.measure_scalar.Goals as goal

pub returns-clause-read : goal.returns-clause-read
returns-clause-read c = λ d.
    scalar_measured c.args.text.now c.in_ok-piece.piece.now c.in_ok-piece.rest.now c.in_ok-piece.ensures.short d
    ∙ ap Some (ap (λ k. ((false, k), c.in_ok-piece.rest.now)) (sym c.kind_of.ensures) ∙ sym c.unanchored.ensures)
