use Rattle.std.{proofs.Common.{eqb, sym, ap, ◌∙◌}, specs.List.list_any}
use Rattle.yq_core.specs.Nodes.{begins_with}
use Rattle.yq_inline.proofs.BorrowedPieces.{escaped_inside}
use Rattle.yq_inline.proofs.borrows.begins_escaped.Goals as goal

pub returns-then-first_is : goal.returns-then-first_is
returns-then-first_is c =
    λ yes. escaped_inside c.args.piece.now c.borrowed_text.result.now
    (ap (begins_with 34) (sym c.as_bytes.ensures.value) ∙ (sym c.first_is.ensures ∙ c.if-first_is.true)) c.borrowed_text.ensures
    (ap (list_any (λ b. eqb b 92)) (sym c.as_bytes-then-first_is.ensures.value) ∙ c.stops_at_slash.ensures yes)
