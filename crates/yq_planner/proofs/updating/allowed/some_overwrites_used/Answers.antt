use Rattle.std.proofs.Common.{sym, ◌∙◌, ◌≤◌, length, arith}
use Rattle.yq_core.specs.Tree.{children_of}
use Rattle.yq_nodes.specs.Nodes.{node_of}
use Rattle.yq_planner.{specs.ChangeView.addition_of, specs.TakenNames.overwrites_at}
use Rattle.yq_semantics.proofs.Lists.{any_here, any_further, any_done}
use Rattle.yq_planner.proofs.updating.allowed.some_overwrites_used.Goals as goal

pub returns-then-overwrites_used : goal.returns-then-overwrites_used
returns-then-overwrites_used c = λ names h.
    let cs = children_of (node_of c.args.node.now) in
    any_here (λ a. overwrites_at names cs (addition_of a)) c.args.additions.now c.each.addition-index c.addition-item.result _ c.each-test.true c.addition-item.is
    (sym (c.overwrites_used.ensures names cs h c.in_ok-index.ensures) ∙ c.if-overwrites_used.true) (c.each.invariant names h)

pub each-preserved : goal.each-preserved
each-preserved c = λ names h.
    let cs = children_of (node_of c.args.node.now) in
    any_further (λ a. overwrites_at names cs (addition_of a)) c.args.additions.now c.each.addition-index c.addition-item.result _ c.each-test.true c.addition-item.is
    (sym (c.overwrites_used.ensures names cs h c.in_ok-index.ensures) ∙ c.if-overwrites_used.false) (c.each.invariant names h)

pub returns : goal.returns
returns c = λ names h.
    let cs = children_of (node_of c.args.node.now) in
    let past : length c.args.additions.now ≤ c.each.addition-index = omega (arith, c.each-test.false) in
    any_done (λ a. overwrites_at names cs (addition_of a)) c.args.additions.now c.each.addition-index _ past (c.each.invariant names h)
