use Rattle.std.{proofs.Common.{arith, refl, sym, ap, ◌∙◌, drop}, specs.List.prefix_len}
use Rattle.yq_core.{specs.Nodes.begins_with, specs.Runs.run_goes_on, specs.declared.runs.Run.TheVariants.Quoted}
use Rattle.yq_scalar_reader.proofs.ContentRuns.{boundary_quoted_run, escape_after, front_slash}
use Rattle.yq_scalar_reader.proofs.escaping.split_escape.Goals as goal

pub split_at-requires-2 : goal.split_at-requires-2
split_at-requires-2 c = boundary_quoted_run c.args.text.now _ (rw c.as_bytes.ensures.value at c.run_len-n.ensures.value)

pub fold_escape-requires : goal.fold_escape-requires
fold_escape-requires c =
    front_slash c.split_at-2.result.1.now
    (ap (begins_with 92) (c.split_at-2.ensures.back ∙ sym (c.split_at.ensures.back ∙ ap (drop c.run_len-n.result) c.as_bytes-2.ensures.value))
    ∙ (sym c.first_is.ensures ∙ c.if-not-first_is.false))

pub returns-clause-value : goal.returns-clause-value
returns-clause-value c =
    escape_after c.run_len-n.result c.args.text.now c.split_at-2.result.0.now c.split_at-2.result.1.now _ (c.run_len-n.ensures.value ∙ ap (prefix_len (run_goes_on (Quoted 34))) c.as_bytes.ensures.value)
    (ap (begins_with 92) (c.split_at-2.ensures.back ∙ sym (c.split_at.ensures.back ∙ ap (drop c.run_len-n.result) c.as_bytes-2.ensures.value)) ∙ (sym c.first_is.ensures ∙ c.if-not-first_is.false))
    c.split_at-2.ensures.front c.split_at-2.ensures.back c.fold_escape.ensures.value
