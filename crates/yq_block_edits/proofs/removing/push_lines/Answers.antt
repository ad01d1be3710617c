use Rattle.std.proofs.Common.{rules, [], ◌∷◌, ◌++◌, sym, ap, ◌∙◌}
use Rattle.yq_core.{specs.Lines.is_blank, proofs.BlockSteps.{at_cut, at_end}}
use Rattle.yq_text.specs.Script.{keep}
use Rattle.yq_places.specs.RemovalReading.{seam_view}
use Rattle.yq_block_edits.proofs.PushedLaws.{all_done, blank_done, comment_done}
use Rattle.yq_block_edits.proofs.removing.push_lines.Goals as goal

pub returns-then-not-is_blank : goal.returns-then-not-is_blank
returns-then-not-is_blank c =
    let cut = at_cut _ _ _ _ c.is_empty.ensures c.lines-test.true c.split_line.ensures in
    comment_done c.args.segments.now c.lines.segments c.push_comment.new.segments c.push.new.self (seam_view c.args.seam) c.args.gap.now c.lines.rest.now c.split_line.result.0.now c.split_line.result.1.now
    c.lines.invariant.so_far cut.0 (ap is_blank (sym c.as_bytes.ensures.value) ∙ (sym c.is_blank.ensures ∙ c.if-not-is_blank.true)) c.in_ok-push_comment.ensures
    (c.in_ok-push.ensures ∙ ap (λ t. c.push_comment.new.segments ++ (keep t ∷ [])) c.of.ensures.whole)

pub lines-smaller : goal.lines-smaller
lines-smaller c = (at_cut _ _ _ _ c.is_empty.ensures c.lines-test.true c.split_line.ensures).1

pub lines-preserved : goal.lines-preserved
lines-preserved c =
    let cut = at_cut _ _ _ _ c.is_empty.ensures c.lines-test.true c.split_line.ensures in
    record {
      rest_text = search rules;
      so_far = blank_done c.args.segments.now c.lines.segments c.push_blank.new.segments (seam_view c.args.seam) c.args.gap.now c.lines.rest.now c.split_line.result.0.now c.split_line.result.1.now
          c.lines.invariant.so_far cut.0 (ap is_blank (sym c.as_bytes.ensures.value) ∙ (sym c.is_blank.ensures ∙ c.if-not-is_blank.false)) c.in_ok-push_blank.ensures;
    }

pub returns : goal.returns
returns c = all_done c.args.segments.now c.lines.segments (seam_view c.args.seam) c.args.gap.now c.lines.rest.now c.lines.invariant.so_far (at_end _ _ c.is_empty.ensures c.lines-test.false)
