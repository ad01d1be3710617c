use Rattle.std.proofs.Common.{sym, ◌∙◌}
use Rattle.yq_inline.proofs.PassedLaws.{scalar_passed, scalar_shorter}
use Rattle.yq_inline.proofs.borrowed.past_scalar.Goals as goal

pub returns-clause-shorter : goal.returns-clause-shorter
returns-clause-shorter c = scalar_shorter c.args.text.now c.in-Ok.piece.now c.in-Ok.rest.now c.in-Ok.ensures.read

pub returns-clause-passed : goal.returns-clause-passed
returns-clause-passed c = scalar_passed c.args.text.now c.in-Ok.piece.now c.in-Ok.rest.now c.in-Ok.ensures.read (sym c.borrows_text.ensures ∙ c.if-not-borrows_text.false)
