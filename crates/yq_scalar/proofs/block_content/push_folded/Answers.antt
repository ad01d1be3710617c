use Rattle.std.{proofs.Common.{arith, rules}, proofs.lemmas.Result.on_ok_weaker}
use Rattle.yq_core.{proofs.BlockSteps.{at_cut, at_end}, proofs.BlockContentSteps.{fold_blank, fold_text, fold_end}}
use Rattle.yq_scalar.proofs.block_content.push_folded.Goals as goal

pub each-smaller-then-is_empty : goal.each-smaller-then-is_empty
each-smaller-then-is_empty c = (at_cut _ _ _ _ c.is_empty.ensures c.each-test.true c.split_line.ensures).1

pub each-smaller : goal.each-smaller
each-smaller c = (at_cut _ _ _ _ c.is_empty.ensures c.each-test.true c.split_line.ensures).1

pub each-preserved-then-is_empty : goal.each-preserved-then-is_empty
each-preserved-then-is_empty c =
    let cut = at_cut _ _ _ _ c.is_empty.ensures c.each-test.true c.split_line.ensures in
    record {
      utf8 = search rules;
      few = omega (arith, c.each.invariant.few, (at_cut _ _ _ _ c.is_empty.ensures c.each-test.true c.split_line.ensures).1);
      so_far = fold_blank c.args.chomping c.args.indent c.each.before c.each.empty _ _ _ _ _ _ _ cut.0 c.part_of-text.ensures c.is_empty-in-each.ensures c.if-is_empty.true c.each.invariant.so_far;
    }

pub each-preserved : goal.each-preserved
each-preserved c =
    let cut = at_cut _ _ _ _ c.is_empty.ensures c.each-test.true c.split_line.ensures in
    record {
      utf8 = search rules;
      few = omega (arith, c.each.invariant.few, (at_cut _ _ _ _ c.is_empty.ensures c.each-test.true c.split_line.ensures).1);
      so_far = fold_text c.args.chomping c.args.indent c.each.before c.kind_of-before.result c.each.empty _ _ _ c.part_of-text.result.now _ _ _ _ _ _ cut.0 c.part_of-text.ensures c.is_empty-in-each.ensures c.if-is_empty.false
          (rw c.as_bytes.ensures.value at c.begins_white.ensures) c.in_ok-push_joint.ensures c.in_ok-push_str.ensures.bytes (rw c.as_bytes-else-is_empty.ensures.value at c.kind_of-before.ensures) c.each.invariant.so_far;
    }

pub returns : goal.returns
returns c = on_ok_weaker c.push_ending.result (λ added. fold_end c.args.chomping c.args.indent c.each.before c.each.empty _ _ _ _ (at_end _ _ c.is_empty.ensures c.each-test.false) added c.each.invariant.so_far) c.push_ending.ensures
