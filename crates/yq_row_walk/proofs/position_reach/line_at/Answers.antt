use Rattle.std.{proofs.Common.{map, rules}, proofs.lemmas.List.length-map}
use Rattle.yq_core.specs.Entries.{tree_step}
use Rattle.yq_outline.{specs.Lines.lines_of_rows, proofs.PathLines.{last_line, no_last_line}, proofs.WalkPositions.no_line}
use Rattle.yq_row_walk.proofs.position_reach.line_at.Goals as goal

pub returns-then-is_empty-clause-found : goal.returns-then-is_empty-clause-found
returns-then-is_empty-clause-found c = search (rules, last_line, length-map)

pub returns-else-is_empty-clause-found : goal.returns-else-is_empty-clause-found
returns-else-is_empty-clause-found c = search (rules, no_last_line, length-map)

pub returns-in_err-at-clause-found : goal.returns-in_err-at-clause-found
returns-in_err-at-clause-found c = rw c.from_residual.ensures (λ h. no_line (map tree_step c.args.steps.now) (lines_of_rows h.are_there.rows) (c.in_err-at.ensures.found h))
