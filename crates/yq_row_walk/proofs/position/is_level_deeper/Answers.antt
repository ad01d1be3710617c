use Rattle.std.{proofs.Common.{◌≡◌, ℕ, ◌<◌, ◌≤◌, ltb, not, ◌⊎◌, inl, inr, ap, ◌∙◌, arith}, proofs.lemmas.Bool.{cases_lt, le-ltb, ltb-true}}
use Rattle.yq_outline.{specs.Ends.{has_no_lines, part}, specs.Lines.lines_of_rows, specs.RowWalk.{HasRows, IsPosition, line_number}}
use Rattle.yq_outline.{specs.declared.line_position.Position.Position, specs.declared.line_position.Stretch.Stretch}
use Rattle.yq_outline.proofs.WalkPositions.{deeper_agrees, end_agrees, position_line}
use Rattle.yq_row_table.specs.View.{RowsView}
use Rattle.yq_row_walk.specs.Walk.{IsLevelAt}
use Rattle.yq_row_walk.proofs.position.is_level_deeper.Goals as goal

-- a line is there, if it is deeper than a level
line_there : (s : RowsView) (d : Stretch) (q : Position) (n floor : ℕ) → IsLevelAt s d q n → floor < n → q.row < d.end
line_there s d q n floor known deep = go (cases_lt q.row d.end)
  where
    go : (q.row < d.end) ⊎ (d.end ≤ q.row) → q.row < d.end
    go (inl less) = less
    go (inr past) = absurd (omega (arith, known.end past, deep))

deeper : (s : RowsView) (d : Stretch) (h : HasRows s d) (q : Position) (n floor : ℕ) → IsPosition s d q → IsLevelAt s d q n →
    ltb floor n ≡ not (has_no_lines (part (lines_of_rows h.rows) (line_number d h.rows q) floor))
deeper s d h q n floor at known = go (cases_lt q.row d.end)
  where
    go : (q.row < d.end) ⊎ (d.end ≤ q.row) → ltb floor n ≡ not (has_no_lines (part (lines_of_rows h.rows) (line_number d h.rows q) floor))
    go (inl less) = deeper_agrees s d h q n floor (position_line s d q at less) (known.line less)
    go (inr past) = ap (ltb floor) (known.end past) ∙ (le-ltb floor 0 (omega arith) ∙ end_agrees s d h q floor at past)

pub returns-clause-some : goal.returns-clause-some
returns-clause-some c = λ p. line_there c.args.rows.now c.args.document c.args.position c.args.level c.args.floor c.requires.level (ltb-true c.args.floor c.args.level p)

pub returns-clause-test : goal.returns-clause-test
returns-clause-test c = λ h. deeper c.args.rows.now c.args.document h c.args.position c.args.level c.args.floor c.requires.position c.requires.level
