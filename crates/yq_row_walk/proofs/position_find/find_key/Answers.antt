use Rattle.std.proofs.Common.{refl, sym, ◌∙◌}
use Rattle.yq_core.specs.Paths.{To}
use Rattle.yq_outline.{specs.Lines.lines_of_rows, proofs.PositionLaws.{position_here, position_passed, position_end}}
use Rattle.yq_outline.{specs.RowWalk.line_number, proofs.WalkPositions.{located, position_line}}
use Rattle.yq_row_walk.proofs.position_find.find_key.Goals as goal

pub lines-init : goal.lines-init
lines-init c = record { at = c.requires.under; level = c.level_or_end-level.ensures; found = λ h. refl }

pub is_key-requires-clause-position : goal.is_key-requires-clause-position
is_key-requires-clause-position c = position_line c.args.walk.now.rows.now c.args.walk.now.document c.lines.at c.lines.invariant.at (c.lines-test.ensures.some refl)

pub returns-then-is_key-clause-within : goal.returns-then-is_key-clause-within
returns-then-is_key-clause-within c = position_line c.args.walk.now.rows.now c.args.walk.now.document c.lines.at c.lines.invariant.at (c.lines-test.ensures.some refl)

pub returns-then-is_key-clause-found : goal.returns-then-is_key-clause-found
returns-then-is_key-clause-found c = λ h.
    let k = located c.args.walk.now.rows.now c.args.walk.now.document h.are_there c.lines.at (position_line c.args.walk.now.rows.now c.args.walk.now.document c.lines.at c.lines.invariant.at (c.lines-test.ensures.some refl)) in
    c.lines.invariant.found h
    ∙ position_here (lines_of_rows h.are_there.rows) (line_number c.args.walk.now.document h.are_there.rows c.lines.at) c.args.floor k.line k.is
    (c.lines-test.ensures.test h.are_there) (To c.args.key.now) (sym (c.if-is_key.ensures h.are_there k.line k.is))

pub after_level-requires-clause-position : goal.after_level-requires-clause-position
after_level-requires-clause-position c = position_line c.args.walk.now.rows.now c.args.walk.now.document c.lines.at c.lines.invariant.at (c.lines-test.ensures.some refl)

pub lines-preserved : goal.lines-preserved
lines-preserved c = record {
  at = c.after_level.ensures.position;
  level = c.after_level.ensures.level;
  found = λ h.
      let k = located c.args.walk.now.rows.now c.args.walk.now.document h.are_there c.lines.at (position_line c.args.walk.now.rows.now c.args.walk.now.document c.lines.at c.lines.invariant.at (c.lines-test.ensures.some refl)) in
      c.lines.invariant.found h
      ∙ position_passed (lines_of_rows h.are_there.rows) (line_number c.args.walk.now.document h.are_there.rows c.lines.at) c.args.floor k.line k.is
      (c.lines-test.ensures.test h.are_there) (To c.args.key.now) (line_number c.args.walk.now.document h.are_there.rows c.after_level.result.0)
      (c.after_level.ensures.end h.are_there) (sym (c.if-is_key.ensures h.are_there k.line k.is));
}

pub returns-clause-found : goal.returns-clause-found
returns-clause-found c = λ h. c.lines.invariant.found h ∙ position_end (line_number c.args.walk.now.document h.are_there.rows c.lines.at) _ _ (c.lines-test.ensures.test h.are_there)

pub is_key-requires-clause-level : goal.is_key-requires-clause-level
is_key-requires-clause-level c = c.lines.invariant.level.line (c.lines-test.ensures.some refl)

pub after_level-requires-clause-level : goal.after_level-requires-clause-level
after_level-requires-clause-level c = c.lines.invariant.level.line (c.lines-test.ensures.some refl)
