use Rattle.std.proofs.Common.{sym, ap, ◌∙◌}
use Rattle.yq_core.specs.Nodes.{begins_with}
use Rattle.yq_inline.proofs.ShortSteps.{closing_following_gap, leading_comma}
use Rattle.yq_inline.proofs.short.short_sep.Goals as goal

pub returns-in-Some-clause-read : goal.returns-in-Some-clause-read
returns-in-Some-clause-read c =
    leading_comma c.args.close c.args.text.now c.in-Some.after.now c.in_ok-rest.field-0-0.now c.in_ok-rest.rest.now c.in-Some.ensures.0 c.in-Some.ensures.1 c.in_ok-rest.ensures.read

pub returns-clause-read : goal.returns-clause-read
returns-clause-read c =
    closing_following_gap c.args.close c.args.text.now c.in_ok-rest-2.field-0-0.now c.in_ok-rest-2.rest.now c.in_ok-rest-2.ensures.read
    (ap (begins_with 44) (sym c.as_bytes.ensures.value) ∙ (sym c.first_is.ensures ∙ c.if-first_is.false))
    (ap (begins_with c.args.close) (sym c.as_bytes-else-first_is.ensures.value) ∙ (sym c.first_is-else-first_is.ensures ∙ c.if-not-first_is.false))
