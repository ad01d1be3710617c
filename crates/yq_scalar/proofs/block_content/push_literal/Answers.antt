use Rattle.std.proofs.Common.{rules}
use Rattle.yq_core.{proofs.BlockSteps.{at_cut, at_end}, proofs.BlockContentSteps.{literal_step, literal_end}}
use Rattle.yq_scalar.proofs.block_content.push_literal.Goals as goal

pub each-smaller : goal.each-smaller
each-smaller c = (at_cut _ _ _ _ c.is_empty.ensures c.each-test.true c.split_line.ensures).1

pub each-preserved : goal.each-preserved
each-preserved c =
    let cut = at_cut _ _ _ _ c.is_empty.ensures c.each-test.true c.split_line.ensures in
    record {
      utf8 = search rules;
      so_far = literal_step c.args.strip c.args.indent _ _ _ _ _ _ _ _ cut.0 c.part_of.ensures c.goes_on.ensures c.in_ok-push_line.ensures c.each.invariant.so_far;
    }

pub returns : goal.returns
returns c = literal_end c.args.strip c.args.indent _ _ _ (at_end _ _ c.is_empty.ensures c.each-test.false) c.each.invariant.so_far
