use Rattle.std.proofs.Common.{arith, true, ℕ, List, ◌∙◌, sym, rules}
use Rattle.yq_core.specs.Plain.{ends_plain}
use Rattle.yq_core.proofs.Across.{rest_length, across_bounds, across_some, across_upto, plain_stop, plain_colon, plain_next}
use Rattle.yq_core.{proofs.PlainRuns.run_after, proofs.Upto.upto_le_length}
use Rattle.yq_scalar_reader.proofs.plain.plain_len.Goals as goal

pub overflow_add-n-in-Some : goal.overflow_add-n-in-Some
overflow_add-n-in-Some c = search (rules, across_bounds)

pub split_at-requires-in-Some : goal.split_at-requires-in-Some
split_at-requires-in-Some c = across_bounds c.args.flow c.args.spaces true c.split_at.result.1.now c.in-Some.k (sym c.across_words.ensures ∙ c.in-Some.is)

pub each-smaller-in-Some : goal.each-smaller-in-Some
each-smaller-in-Some c = search (rules, across_some)

pub each-preserved-in-Some : goal.each-preserved-in-Some
each-preserved-in-Some c =
    let s : List ℕ = c.split_at.result.1.now in
    let k = c.in-Some.k in
    let le = across_bounds c.args.flow c.args.spaces true s k (sym c.across_words.ensures ∙ c.in-Some.is) in
    let on = across_upto c.args.flow c.args.spaces s k (sym c.across_words.ensures ∙ c.in-Some.is) in
    let run = run_after c.args.flow c.args.spaces c.each.rest.now s c.each.n c.run_len-run.result _ c.run_len-run.ensures.value c.split_at.ensures.back c.each.invariant.so_far in
    search rules

pub returns-in_default-across_words : goal.returns-in_default-across_words
returns-in_default-across_words c =
    let run = run_after c.args.flow c.args.spaces c.each.rest.now c.split_at.result.1.now c.each.n c.run_len-run.result _ c.run_len-run.ensures.value c.split_at.ensures.back c.each.invariant.so_far in
    omega (arith, run, plain_stop c.args.flow c.args.spaces c.split_at.result.1.now (sym c.is_space.ensures ∙ c.if-is_space.true) (sym c.across_words.ensures ∙ c.in_default-across_words.is))

pub returns-then-ends_text : goal.returns-then-ends_text
returns-then-ends_text c =
    let run = run_after c.args.flow c.args.spaces c.each.rest.now c.split_at.result.1.now c.each.n c.run_len-run.result _ c.run_len-run.ensures.value c.split_at.ensures.back c.each.invariant.so_far in
    omega (arith, run, plain_colon c.args.flow c.args.spaces c.split_at.result.1.now (sym c.is_space.ensures ∙ c.if-is_space.false) (sym c.ends_text.ensures ∙ c.if-ends_text.true))

pub each-preserved : goal.each-preserved
each-preserved c =
    let run = run_after c.args.flow c.args.spaces c.each.rest.now c.split_at.result.1.now c.each.n c.run_len-run.result _ c.run_len-run.ensures.value c.split_at.ensures.back c.each.invariant.so_far in
    search (rules, rest_length, plain_next)

pub returns-in_default : goal.returns-in_default
returns-in_default c =
    let run = run_after c.args.flow c.args.spaces c.each.rest.now c.split_at.result.1.now c.each.n c.run_len-run.result _ c.run_len-run.ensures.value c.split_at.ensures.back c.each.invariant.so_far in
    omega (arith, run, upto_le_length (ends_plain c.args.flow c.args.spaces) c.split_at.result.1.now, c.in_default.len_below)
