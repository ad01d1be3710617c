use Rattle.yq_core.proofs.BlockSteps.{at_end}
use Rattle.yq_history.{specs.DiffParts.{new_parts, old_parts}, proofs.LineCuts.no_more_lines}
use Rattle.yq_history.proofs.diff.parts.push_skipped.Goals as goal

pub returns-then-is_empty : goal.returns-then-is_empty
returns-then-is_empty c =
    let none = at_end _ _ c.is_empty.ensures c.if-is_empty.true in
    let text = c.args.text.now in
    record { old_lines = no_more_lines (old_parts c.args.parts.now.items) text none; new_lines = no_more_lines (new_parts c.args.parts.now.items) text none }
