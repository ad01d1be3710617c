use Rattle.std.proofs.Common.{rules, arith}
use Rattle.yq_core.proofs.BlockSteps.{at_cut, at_end}
use Rattle.yq_history.proofs.LineCuts.{none_left}
use Rattle.yq_history.proofs.diff.lines.count_lines.Goals as goal

pub lines-init : goal.lines-init
lines-init c = record { rest_text = c.utf8.text; within = omega arith; so_far = omega arith }

pub lines-smaller : goal.lines-smaller
lines-smaller c = (at_cut _ _ _ _ c.is_empty.ensures c.lines-test.true c.split_line.ensures).1

pub overflow_add-count : goal.overflow_add-count
overflow_add-count c = search (rules, at_cut)

pub lines-preserved : goal.lines-preserved
lines-preserved c =
    let cut = at_cut _ _ _ _ c.is_empty.ensures c.lines-test.true c.split_line.ensures in
    search rules

pub returns : goal.returns
returns c = omega (arith, c.lines.invariant.so_far, none_left c.lines.rest.now (at_end _ _ c.is_empty.ensures c.lines-test.false))
