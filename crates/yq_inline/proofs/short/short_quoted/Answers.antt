use Rattle.std.{proofs.Common.{sym, ap, ◌∙◌, drop}, specs.List.prefix_len}
use Rattle.yq_core.{specs.Runs.run_goes_on, specs.declared.runs.Run.TheVariants.Quoted}
use Rattle.yq_inline.proofs.ShortSteps.{boundary_closed, short_quoted_is}
use Rattle.yq_inline.proofs.short.short_quoted.Goals as goal

pub split_at-requires-2 : goal.split_at-requires-2
split_at-requires-2 c =
    boundary_closed c.args.text.now c.in_ok-strip.field-0.now c.split_at.result.1.now c.run_len-n.result c.utf8.text c.in_ok-strip.ensures.0 c.in_ok-strip.ensures.1
    (c.run_len-n.ensures.value ∙ ap (prefix_len (run_goes_on (Quoted 34))) c.as_bytes-inner.ensures.value)
    (c.split_at.ensures.back ∙ ap (drop c.run_len-n.result) c.as_bytes-inner.ensures.value) (sym c.first_is.ensures ∙ c.if-not-first_is.false)

pub returns-clause-short : goal.returns-clause-short
returns-clause-short c =
    short_quoted_is c.args.text.now c.in_ok-strip.field-0.now c.split_at.result.1.now c.split_at-2.result.0.now c.split_at-2.result.1.now c.run_len-n.result
    c.in_ok-strip.ensures.0 c.in_ok-strip.ensures.1 (c.run_len-n.ensures.value ∙ ap (prefix_len (run_goes_on (Quoted 34))) c.as_bytes-inner.ensures.value)
    (c.split_at.ensures.back ∙ ap (drop c.run_len-n.result) c.as_bytes-inner.ensures.value) (sym c.first_is.ensures ∙ c.if-not-first_is.false)
    c.split_at-2.ensures.front c.split_at-2.ensures.back
