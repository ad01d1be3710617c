use Rattle.std.proofs.Common.{sym, ap, ◌∙◌}
use Rattle.yq_core.specs.Nodes.{begins_with}
use Rattle.yq_inline.proofs.BorrowedPieces.{slash_there}
use Rattle.yq_inline.proofs.borrows.stops_at_slash.Goals as goal

pub returns : goal.returns
returns c = λ yes. slash_there c.args.inner.now _ (ap (begins_with 92) (sym c.split_at.ensures.back) ∙ (sym c.first_is.ensures ∙ yes))
