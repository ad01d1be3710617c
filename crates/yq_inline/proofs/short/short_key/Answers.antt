use Rattle.std.proofs.Common.{true, sym, ap, ◌∙◌}
use Rattle.yq_core.specs.Nodes.{begins_content as begins}
use Rattle.yq_inline.proofs.ShortSteps.{short_key_is}
use Rattle.yq_inline.proofs.short.short_key.Goals as goal

pub returns-clause-short : goal.returns-clause-short
returns-clause-short c =
    short_key_is c.args.text.now c.in_ok-key.key.now c.in_ok-key.value.now c.in_ok-key.ensures.key
    (ap (begins true) (sym c.as_bytes.ensures.value) ∙ (sym c.begins_content.ensures ∙ c.if-not-begins_content.false))
