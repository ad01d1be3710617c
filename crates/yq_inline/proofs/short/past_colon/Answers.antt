use Rattle.yq_inline.proofs.ShortSteps.{leading_colon}
use Rattle.yq_inline.proofs.short.past_colon.Goals as goal

pub returns-clause-colon : goal.returns-clause-colon
returns-clause-colon c =
    leading_colon c.args.text.now c.in_ok-after.after.now c.in_ok-rest.rest.now c.in_ok-after.ensures.0 c.in_ok-after.ensures.1
    c.in_ok-rest.ensures.0 c.in_ok-rest.ensures.1
