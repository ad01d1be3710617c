use Rattle.std.proofs.Common.{refl, sym, ap, ◌∙◌}
use Rattle.yq_core.specs.Paths.{Nth}
use Rattle.yq_outline.{specs.Ends.part, specs.Places.find_row, specs.Positions.position, specs.Lines.lines_of_rows}
use Rattle.yq_outline.proofs.PositionLaws.{position_here, position_passed, position_end, here_item, further_item}
use Rattle.yq_outline.{specs.RowWalk.line_number, proofs.WalkPositions.{located, position_line}}
use Rattle.yq_row_walk.proofs.LevelMarks.{level_of_line}
use Rattle.yq_row_walk.proofs.position_find.find_item.Goals as goal

pub lines-init : goal.lines-init
lines-init c = record { at = c.walk_begin-begin.ensures.position; level = c.level_or_end-level.ensures; found = c.walk_begin-begin.ensures.found }

pub returns-then-is_item-clause-within : goal.returns-then-is_item-clause-within
returns-then-is_item-clause-within c = position_line c.args.walk.now.rows.now c.args.walk.now.document c.lines.at c.lines.invariant.at (c.lines-test.ensures.some refl)

pub returns-then-is_item-clause-found : goal.returns-then-is_item-clause-found
returns-then-is_item-clause-found c = λ h.
    let k = located c.args.walk.now.rows.now c.args.walk.now.document h.are_there c.lines.at (position_line c.args.walk.now.rows.now c.args.walk.now.document c.lines.at c.lines.invariant.at (c.lines-test.ensures.some refl)) in
    c.lines.invariant.found h
    ∙ position_here (lines_of_rows h.are_there.rows) (line_number c.args.walk.now.document h.are_there.rows c.lines.at) c.args.floor k.line k.is
    (c.lines-test.ensures.test h.are_there) (Nth c.lines.left)
    (here_item c.lines.left k.line
    ∙ sym (c.if-is_item.ensures k.line
    (level_of_line c.args.walk.now.rows.now c.args.walk.now.document h.are_there c.lines.at
    (position_line c.args.walk.now.rows.now c.args.walk.now.document c.lines.at c.lines.invariant.at (c.lines-test.ensures.some refl)) k.line
    k.is c.lines.level (c.lines.invariant.level.line (c.lines-test.ensures.some refl)))))

pub after_level-requires-clause-position : goal.after_level-requires-clause-position
after_level-requires-clause-position c = position_line c.args.walk.now.rows.now c.args.walk.now.document c.lines.at c.lines.invariant.at (c.lines-test.ensures.some refl)

pub lines-preserved : goal.lines-preserved
lines-preserved c = record {
  at = c.after_level.ensures.position;
  level = c.after_level.ensures.level;
  found = λ h.
      let k = located c.args.walk.now.rows.now c.args.walk.now.document h.are_there c.lines.at (position_line c.args.walk.now.rows.now c.args.walk.now.document c.lines.at c.lines.invariant.at (c.lines-test.ensures.some refl)) in
      let n = line_number c.args.walk.now.document h.are_there.rows c.after_level.result.0 in
      c.lines.invariant.found h
      ∙ (position_passed (lines_of_rows h.are_there.rows) (line_number c.args.walk.now.document h.are_there.rows c.lines.at) c.args.floor k.line k.is
      (c.lines-test.ensures.test h.are_there) (Nth c.lines.left) n (c.after_level.ensures.end h.are_there)
      (here_item c.lines.left k.line
      ∙ sym (c.if-is_item.ensures k.line
      (level_of_line c.args.walk.now.rows.now c.args.walk.now.document h.are_there c.lines.at
      (position_line c.args.walk.now.rows.now c.args.walk.now.document c.lines.at c.lines.invariant.at (c.lines-test.ensures.some refl)) k.line
      k.is c.lines.level (c.lines.invariant.level.line (c.lines-test.ensures.some refl)))))
      ∙ ap (λ s. position n (find_row s (part (lines_of_rows h.are_there.rows) n c.args.floor))) (further_item c.lines.left ∙ ap Nth (sym c.saturating_sub-left.ensures)));
}

pub returns-clause-found : goal.returns-clause-found
returns-clause-found c = λ h. c.lines.invariant.found h ∙ position_end (line_number c.args.walk.now.document h.are_there.rows c.lines.at) _ _ (c.lines-test.ensures.test h.are_there)

pub after_level-requires-clause-level : goal.after_level-requires-clause-level
after_level-requires-clause-level c = c.lines.invariant.level.line (c.lines-test.ensures.some refl)
