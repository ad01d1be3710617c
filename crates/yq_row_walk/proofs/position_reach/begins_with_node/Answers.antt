use Rattle.std.proofs.Common.{refl, sym, ap, ◌∙◌}
use Rattle.yq_outline.{specs.Lines.lines_of_rows, proofs.EndsLaws.{deeper_line, not_end, part_row}, specs.RowWalk.line_number}
use Rattle.yq_outline.proofs.WalkPositions.{located, position_line}
use Rattle.yq_row_walk.proofs.LevelMarks.{level_of_line}
use Rattle.yq_outline.specs.Positions as positions
use Rattle.yq_row_walk.proofs.position_reach.begins_with_node.Goals as goal

pub returns-clause-test : goal.returns-clause-test
returns-clause-test c = λ h.
    let ls = lines_of_rows h.rows in
    let n = line_number c.args.document h.rows c.args.under in
    let at = position_line c.args.rows.now c.args.document c.args.under c.requires.under (c.if-not-is_level_deeper.ensures.some refl) in
    let k = located c.args.rows.now c.args.document h c.args.under at in
    let deep = deeper_line ls n c.args.floor k.line k.is (not_end _ (c.if-not-is_level_deeper.ensures.test h)) in
    let level = level_of_line c.args.rows.now c.args.document h c.args.under at k.line k.is c.level_or_end-level.result (c.level_or_end-level.ensures.line (c.if-not-is_level_deeper.ensures.some refl)) in
    c.is_bare_at.ensures k.line level ∙ sym (ap positions.begins_with_node (part_row ls n c.args.floor k.line k.is deep))
