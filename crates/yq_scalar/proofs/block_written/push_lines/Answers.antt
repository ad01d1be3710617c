use Rattle.std.proofs.Common.{rules, ap, List, ℕ}
use Rattle.yq_core.{specs.BlockWritten.break_text, proofs.BlockSteps.{at_cut, at_end}, proofs.BlockWrittenHeader.{write_step, write_end}}
use Rattle.yq_scalar.proofs.block_written.push_lines.Goals as goal

pub each-smaller : goal.each-smaller
each-smaller c = (at_cut _ _ _ _ c.is_empty.ensures c.each-test.true c.split_line.ensures).1

pub each-preserved : goal.each-preserved
each-preserved c =
    let cut = at_cut _ _ _ _ c.is_empty.ensures c.each-test.true c.split_line.ensures in
    record {
      utf8 = search rules;
      so_far = write_step c.args.indent (break_text c.args.br) _ _ _ _ _ _ _ cut.0 (ap (λ (x : List ℕ × List ℕ). x.0) c.split_at_break.ensures) c.in_ok-push_written.ensures c.each.invariant.so_far;
    }

pub returns : goal.returns
returns c = write_end c.args.indent (break_text c.args.br) _ _ _ (at_end _ _ c.is_empty.ensures c.each-test.false) c.each.invariant.so_far
