use Rattle.std.proofs.Common.{rules, sym, ap, ◌∙◌}
use Rattle.yq_core.{proofs.BlockSteps.{at_cut, at_end}, specs.Text.text_lines}
use Rattle.yq_documents.proofs.RunLaws.{run_or, run_here, run_on, run_anew}
use Rattle.yq_documents.proofs.comment.last_run.Goals as goal

pub lines-init : goal.lines-init
lines-init c = record { run_text = c.utf8.gap; rest_text = c.utf8.gap; so_far = run_here (text_lines c.args.gap.now) }

pub lines-smaller-then-not-is_comment : goal.lines-smaller-then-not-is_comment
lines-smaller-then-not-is_comment c = (at_cut _ _ _ _ c.is_empty.ensures c.lines-test.true c.split_line.ensures).1

pub lines-smaller : goal.lines-smaller
lines-smaller c = (at_cut _ _ _ _ c.is_empty.ensures c.lines-test.true c.split_line.ensures).1

pub lines-preserved-then-not-is_comment : goal.lines-preserved-then-not-is_comment
lines-preserved-then-not-is_comment c =
    let run = text_lines c.lines.run.now in
    let after = text_lines c.split_line.result.1.now in
    let cut = at_cut _ _ _ _ c.is_empty.ensures c.lines-test.true c.split_line.ensures in
    record {
      run_text = search rules;
      rest_text = search rules;
      so_far = c.lines.invariant.so_far ∙ (ap (run_or run) cut.0 ∙ run_anew run after c.split_line.result.0.now (sym c.is_comment.ensures ∙ c.if-not-is_comment.true));
    }

pub lines-preserved : goal.lines-preserved
lines-preserved c =
    let run = text_lines c.lines.run.now in
    let after = text_lines c.split_line.result.1.now in
    let cut = at_cut _ _ _ _ c.is_empty.ensures c.lines-test.true c.split_line.ensures in
    search (rules, run_or, run_on)

pub returns : goal.returns
unfolding text_lines
returns c = sym (c.lines.invariant.so_far ∙ (ap (λ x. run_or (text_lines c.lines.run.now) (text_lines x)) (at_end _ _ c.is_empty.ensures c.lines-test.false)))
