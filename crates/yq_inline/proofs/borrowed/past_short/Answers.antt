use Rattle.std.proofs.Common.{Some}
use Rattle.yq_inline.proofs.PassedLaws.{scalar_passed, scalar_shorter}
use Rattle.yq_inline.proofs.borrowed.past_short.Goals as goal

pub returns-clause-shorter : goal.returns-clause-shorter
returns-clause-shorter c = scalar_shorter c.args.text.now c.in_ok-rest.field-0-0.now c.in_ok-rest.rest.now (c.in_ok-rest.ensures.short.read (Some 0))

pub returns-clause-passed : goal.returns-clause-passed
returns-clause-passed c = scalar_passed c.args.text.now c.in_ok-rest.field-0-0.now c.in_ok-rest.rest.now (c.in_ok-rest.ensures.short.read (Some 0)) c.in_ok-rest.ensures.short.borrows
