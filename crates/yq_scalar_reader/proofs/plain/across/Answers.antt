use Rattle.std.proofs.Common.{rules, ℕ, List, ◌∙◌, sym}
use Rattle.yq_core.proofs.Across.{rest_length, rest_of, whites_some, whites_white, spaces_white, go_run, go_line, go_return}
use Rattle.yq_scalar_reader.proofs.plain.across.Goals as goal

pub each-smaller-then-is_white : goal.each-smaller-then-is_white
each-smaller-then-is_white c = search (rules, whites_some)

pub each-preserved-then-is_white : goal.each-preserved-then-is_white
each-preserved-then-is_white c = search (rules, go_run, whites_white)

pub each-preserved-then-first-eq10 : goal.each-preserved-then-first-eq10
each-preserved-then-first-eq10 c =
    let r : List ℕ = c.each.rest.now in
    let k = c.spaces_len-indent.result in
    let on =
    go_line c.args.flow c.args.spaces c.each.deep c.begins_deep-deep.result c.each.n c.each.rest.now _ c.in-len1-up.len_at_least
    (sym c.is_white.ensures ∙ c.if-is_white.false) c.if-first-eq10.true c.begins_deep-deep.ensures c.each.invariant.so_far in
    search (rules, rest_of, rest_length, go_run, spaces_white)

pub each-preserved : goal.each-preserved
each-preserved c = search (rules, rest_length, go_return)
