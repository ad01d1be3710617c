use Rattle.std.{proofs.Common.{true, sym, ap, ◌∙◌}, proofs.lemmas.Option.IfSome_then}
use Rattle.yq_core.specs.Nodes.{begins_content, begins_with}
use Rattle.yq_inline.proofs.PassedLaws.{content_part, nothing_part}
use Rattle.yq_inline.proofs.borrowed.past_other.Goals as goal

pub returns-then-begins_scalar-clause-passed : goal.returns-then-begins_scalar-clause-passed
returns-then-begins_scalar-clause-passed c = IfSome_then c.past_scalar.result c.past_scalar.ensures.passed (λ r is. content_part c.args.keyed 0 c.args.text.now r.now is)

pub returns-clause-passed : goal.returns-clause-passed
returns-clause-passed c =
    nothing_part c.args.keyed c.args.text.now c.if-not-keyed.false (ap (begins_content true) (sym c.as_bytes-2.ensures.value) ∙ (sym c.begins_content.ensures ∙ c.if-begins_content.false))
    (ap (begins_with 38) (sym c.as_bytes-3.ensures.value) ∙ (sym c.first_is.ensures ∙ c.if-first_is.false))
