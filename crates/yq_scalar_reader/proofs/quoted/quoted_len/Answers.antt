use Rattle.std.proofs.Common.{ℕ, ◌+◌, ◌≤◌, List, length, sym, ◌∙◌, arith, rules}
use Rattle.yq_core.{proofs.EscapeLaws.{item_within, go_item}, proofs.Across.{rest_of, rest_length}}
use Rattle.yq_core.proofs.QuotedRuns.{closed_here, no_item, quoted_after, unclosed}
use Rattle.yq_scalar_reader.proofs.quoted.quoted_len.Goals as goal

pub returns-in_default-clause-value : goal.returns-in_default-clause-value
returns-in_default-clause-value c =
    let s : List ℕ = c.split_at.result.1.now in
    let so = quoted_after c.args.quote c.each.rest.now s c.each.n c.run_len-run.result c.run_len-run.ensures.value c.split_at.ensures.back c.each.invariant.so_far in
    unclosed c.args.quote (c.each.n + c.run_len-run.result) s c.in_default.len_below so

pub returns-then-closes-clause-value : goal.returns-then-closes-clause-value
returns-then-closes-clause-value c =
    let s : List ℕ = c.split_at.result.1.now in
    let so = quoted_after c.args.quote c.each.rest.now s c.each.n c.run_len-run.result c.run_len-run.ensures.value c.split_at.ensures.back c.each.invariant.so_far in
    closed_here c.args.quote (c.each.n + c.run_len-run.result) s (sym c.closes.ensures ∙ c.if-closes.true) so

pub returns-in_err-k-clause-value : goal.returns-in_err-k-clause-value
returns-in_err-k-clause-value c =
    let s : List ℕ = c.split_at.result.1.now in
    let so = quoted_after c.args.quote c.each.rest.now s c.each.n c.run_len-run.result c.run_len-run.ensures.value c.split_at.ensures.back c.each.invariant.so_far in
    c.from_residual.ensures ∙ no_item c.args.quote (c.each.n + c.run_len-run.result) s c.in-len1-up.len_at_least (sym c.closes.ensures ∙ c.if-closes.false) (sym c.in_err-k.ensures) so

pub overflow_add-n-in-each : goal.overflow_add-n-in-each
overflow_add-n-in-each c =
    let s : List ℕ = c.split_at.result.1.now in
    let le : c.in_ok-k.k ≤ length (rest_of s) = item_within c.args.quote c.in_ok-k.k s c.in-len1-up.len_at_least (sym c.closes.ensures ∙ c.if-closes.false) (sym c.in_ok-k.ensures) in
    omega (arith, le, rest_length (c.each.n + c.run_len-run.result) s (length c.args.text.now) c.in-len1-up.len_at_least (omega (arith, c.run_len-run.ensures.within, c.split_at.ensures.back_len, c.each.invariant.within)))

pub overflow_add-n-in-each-2 : goal.overflow_add-n-in-each-2
overflow_add-n-in-each-2 c =
    let s : List ℕ = c.split_at.result.1.now in
    let le : c.in_ok-k.k ≤ length (rest_of s) = item_within c.args.quote c.in_ok-k.k s c.in-len1-up.len_at_least (sym c.closes.ensures ∙ c.if-closes.false) (sym c.in_ok-k.ensures) in
    omega (arith, le, rest_length (c.each.n + c.run_len-run.result) s (length c.args.text.now) c.in-len1-up.len_at_least (omega (arith, c.run_len-run.ensures.within, c.split_at.ensures.back_len, c.each.invariant.within)))

pub split_at-requires-in-each : goal.split_at-requires-in-each
split_at-requires-in-each c = item_within c.args.quote c.in_ok-k.k c.split_at.result.1.now c.in-len1-up.len_at_least (sym c.closes.ensures ∙ c.if-closes.false) (sym c.in_ok-k.ensures)

pub each-preserved : goal.each-preserved
each-preserved c = search (rules, rest_of, item_within, quoted_after, rest_length, go_item)
