use Rattle.std.proofs.Common.{◌+◌, arith, sym, ◌∙◌}
use Rattle.yq_scalar_reader.proofs.LineWords.{line_ends, line_run, line_start, line_step, line_whole, some_on}
use Rattle.yq_scalar_reader.proofs.plain.words_len.Goals as goal

pub each-init : goal.each-init
each-init c = line_start c.args.text.now

pub overflow_add-n : goal.overflow_add-n
overflow_add-n c = omega (arith, c.run_len-run.ensures.within, c.each.invariant.within)

pub returns-then-not-goes_on-clause-value : goal.returns-then-not-goes_on-clause-value
returns-then-not-goes_on-clause-value c = λ spaces.
    line_ends c.args.text.now c.split_at.result.1.now (c.each.n + c.run_len-run.result) spaces
    (line_run c.args.text.now c.each.rest.now c.split_at.result.1.now c.each.n c.run_len-run.result c.run_len-run.ensures.value
    c.run_len-run.ensures.within c.split_at.ensures.back c.each.invariant)

pub returns-then-not-goes_on-clause-line : goal.returns-then-not-goes_on-clause-line
returns-then-not-goes_on-clause-line c =
    line_whole c.args.text.now c.split_at.result.1.now (c.each.n + c.run_len-run.result)
    (line_run c.args.text.now c.each.rest.now c.split_at.result.1.now c.each.n c.run_len-run.result c.run_len-run.ensures.value
    c.run_len-run.ensures.within c.split_at.ensures.back c.each.invariant)

pub returns-then-not-goes_on-clause-within : goal.returns-then-not-goes_on-clause-within
returns-then-not-goes_on-clause-within c = omega (arith, c.run_len-run.ensures.within, c.each.invariant.within)

pub split_at-requires-in-each : goal.split_at-requires-in-each
split_at-requires-in-each c = some_on c.split_at.result.1.now (sym c.goes_on.ensures ∙ c.if-not-goes_on.false)

pub each-smaller : goal.each-smaller
each-smaller c = omega (arith, some_on c.split_at.result.1.now (sym c.goes_on.ensures ∙ c.if-not-goes_on.false), c.split_at.ensures.back_len, c.split_at-in-each.ensures.back_len, c.run_len-run.ensures.within)

pub each-preserved : goal.each-preserved
each-preserved c =
    line_step c.args.text.now c.split_at.result.1.now c.split_at-in-each.result.1.now (c.each.n + c.run_len-run.result) c.split_at-in-each.ensures.back (sym c.goes_on.ensures ∙ c.if-not-goes_on.false)
    (line_run c.args.text.now c.each.rest.now c.split_at.result.1.now c.each.n c.run_len-run.result c.run_len-run.ensures.value c.run_len-run.ensures.within c.split_at.ensures.back c.each.invariant)
