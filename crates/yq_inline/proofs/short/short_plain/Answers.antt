use Rattle.std.{proofs.Common.{sym, ap, ◌∙◌, true, drop}, specs.List.prefix_len}
use Rattle.yq_core.{specs.Plain.begins_plain, specs.Runs.run_goes_on, specs.declared.runs.Run.TheVariants.Plain}
use Rattle.yq_inline.proofs.ShortSteps.{boundary_run, short_plain_is}
use Rattle.yq_inline.proofs.short.short_plain.Goals as goal

pub split_at-requires-2 : goal.split_at-requires-2
split_at-requires-2 c =
    boundary_run c.args.text.now c.split_at.result.1.now c.run_len-n.result (c.run_len-n.ensures.value ∙ ap (prefix_len (run_goes_on Plain)) c.as_bytes-bytes.ensures.value)
    (c.split_at.ensures.back ∙ ap (drop c.run_len-n.result) c.as_bytes-bytes.ensures.value) (sym c.stops_plain.ensures ∙ c.if-not-stops_plain.false)

pub returns-clause-short : goal.returns-clause-short
returns-clause-short c =
    short_plain_is c.args.text.now c.split_at.result.1.now c.split_at-2.result.0.now c.split_at-2.result.1.now c.run_len-n.result
    (ap (begins_plain true) (sym c.as_bytes-bytes.ensures.value) ∙ (sym c.begins_plain.ensures ∙ c.if-not-begins_plain.false))
    (c.run_len-n.ensures.value ∙ ap (prefix_len (run_goes_on Plain)) c.as_bytes-bytes.ensures.value)
    (c.split_at.ensures.back ∙ ap (drop c.run_len-n.result) c.as_bytes-bytes.ensures.value) (sym c.stops_plain.ensures ∙ c.if-not-stops_plain.false)
    c.split_at-2.ensures.front c.split_at-2.ensures.back
