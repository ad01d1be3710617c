use Rattle.std.proofs.Common.{rules, ap, arith, length, ◌∙◌, ◌++◌, sym, string_bytes, append_assoc, append-nil}
use Rattle.yq_core.{proofs.BlockSteps.{at_cut, at_end}, specs.Text.text_lines}
use Rattle.yq_history.{specs.DiffPrinting.marked_lines, specs.Unified.marked_line, proofs.LineCuts.{none_left, no_lines}}
use Rattle.yq_history.proofs.diff.lines.push_lines.Goals as goal

pub lines-init : goal.lines-init
lines-init c = record { rest_text = c.utf8.text; within = omega arith; so_far = omega arith; printed = search rules }

pub lines-smaller : goal.lines-smaller
lines-smaller c = (at_cut _ _ _ _ c.is_empty.ensures c.lines-test.true c.split_line.ensures).1

pub overflow_add-count : goal.overflow_add-count
overflow_add-count c = search (rules, at_cut)

pub lines-preserved : goal.lines-preserved
lines-preserved c =
    let cut = at_cut _ _ _ _ c.is_empty.ensures c.lines-test.true c.split_line.ensures in
    let line = c.split_line.result.0.now in
    let rest = marked_lines c.args.mark.now (text_lines c.split_line.result.1.now) in
    record {
      rest_text = search rules;
      within = omega (arith, cut.1, c.lines.invariant.within);
      so_far = omega (arith, ap length cut.0, c.lines.invariant.so_far);
      printed = ap (λ x. x ++ rest) c.in_ok-push_line.ensures
          ∙ (append_assoc (string_bytes c.lines.out) (marked_line c.args.mark.now line) rest
          ∙ (ap (λ ls. string_bytes c.lines.out ++ marked_lines c.args.mark.now ls) (sym cut.0) ∙ c.lines.invariant.printed));
    }

pub returns : goal.returns
returns c = search (rules, at_end, append-nil, no_lines, none_left)
