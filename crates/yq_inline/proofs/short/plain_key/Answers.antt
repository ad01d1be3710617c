use Rattle.std.{proofs.Common.{sym, ap, ◌∙◌, true, drop}, specs.List.prefix_len}
use Rattle.yq_core.{specs.Plain.begins_plain, specs.Runs.run_goes_on, specs.declared.runs.Run.TheVariants.Plain}
use Rattle.yq_inline.proofs.ShortSteps.{boundary_run, short_plain_is}
use Rattle.yq_inline.proofs.short.plain_key.Goals as goal

pub split_at-requires-2 : goal.split_at-requires-2
split_at-requires-2 c =
    boundary_run c.args.text.now c.split_at.result.1.now c.run_len-n.result (c.run_len-n.ensures.value ∙ ap (prefix_len (run_goes_on Plain)) c.as_bytes-bytes.ensures.value)
    (c.split_at.ensures.back ∙ ap (drop c.run_len-n.result) c.as_bytes-bytes.ensures.value) (c.is_spaced_colon.ensures c.if-not-is_spaced_colon.false)

pub returns-clause-key : goal.returns-clause-key
returns-clause-key c = record {
  rest = c.split_at-2.result.1.now;
  scalar =
      short_plain_is c.args.text.now c.split_at.result.1.now c.split_at-2.result.0.now c.split_at-2.result.1.now c.run_len-n.result
      (ap (begins_plain true) (sym c.as_bytes-bytes.ensures.value) ∙ (sym c.begins_plain.ensures ∙ c.if-not-begins_plain.false))
      (c.run_len-n.ensures.value ∙ ap (prefix_len (run_goes_on Plain)) c.as_bytes-bytes.ensures.value)
      (c.split_at.ensures.back ∙ ap (drop c.run_len-n.result) c.as_bytes-bytes.ensures.value) (c.is_spaced_colon.ensures c.if-not-is_spaced_colon.false)
      c.split_at-2.ensures.front c.split_at-2.ensures.back;
  spaced = c.in_ok-value.ensures.colon;
}
