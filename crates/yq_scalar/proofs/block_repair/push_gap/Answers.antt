use Rattle.std.{proofs.Common.{rules, string_bytes}, proofs.lemmas.Result.on_ok_weaker}
use Rattle.yq_scalar.proofs.Pushes.{on_pushed}
use Rattle.yq_core.{proofs.BlockSteps.{at_cut, at_end}, proofs.BlockRepairSteps.{blank_step, comment_step, repair_end}}
use Rattle.yq_scalar.proofs.block_repair.push_gap.Goals as goal

pub returns-then-not-is_blank : goal.returns-then-not-is_blank
returns-then-not-is_blank c =
    let cut = at_cut _ _ _ _ c.is_empty.ensures c.each-test.true c.split_line.ensures in
    on_ok_weaker c.push_str.result
    (λ added. comment_step c.args.keep c.args.indent c.args.column _ _ _ _ _ _ _ _ cut.0 (rw c.as_bytes.ensures.value at c.is_blank.ensures)
    c.if-not-is_blank.true c.in_ok-push_comment.ensures added c.each.invariant.so_far)
    (on_pushed c.push_str.result (string_bytes c.push_comment.new.out) (string_bytes c.push_str.new.self) c.split_line.result.1.now c.push_str.ensures.bytes)

pub each-smaller : goal.each-smaller
each-smaller c = (at_cut _ _ _ _ c.is_empty.ensures c.each-test.true c.split_line.ensures).1

pub each-preserved : goal.each-preserved
each-preserved c =
    let cut = at_cut _ _ _ _ c.is_empty.ensures c.each-test.true c.split_line.ensures in
    record {
      utf8 = search rules;
      so_far = blank_step c.args.keep c.args.indent c.args.column _ _ _ _ _ _ _ cut.0 (rw c.as_bytes.ensures.value at c.is_blank.ensures) c.if-not-is_blank.false c.in_ok-push_blank.ensures c.each.invariant.so_far;
    }

pub returns : goal.returns
returns c = repair_end c.args.keep c.args.indent c.args.column _ _ _ (at_end _ _ c.is_empty.ensures c.each-test.false) c.each.invariant.so_far
