use Rattle.std.proofs.Common.{◌∷◌, option_map, ap, ◌∙◌, rules}
use Rattle.yq_core.specs.Entries.{tree_step}
use Rattle.yq_outline.{specs.Lines.lines_of_rows, specs.Positions.{reach_in, reach_from}, specs.RowWalk.line_number}
use Rattle.yq_outline.{proofs.EntryKeys.root_keys, proofs.WalkPositions.first_number}
use Rattle.yq_row_walk.proofs.position_reach.next_at.Goals as goal

pub next_in-requires-clause-keys : goal.next_in-requires-clause-keys
next_in-requires-clause-keys c = search (rules, first_number, root_keys)

pub returns-in-None-clause-found : goal.returns-in-None-clause-found
returns-in-None-clause-found c = λ h ss.
    ap (λ o. reach_from (lines_of_rows h.are_there.rows) (option_map (line_number c.args.walk.now.document h.are_there.rows) o) (tree_step c.args.step.now ∷ ss)) c.in-None.is
    ∙ ((λ j. reach_in (lines_of_rows h.are_there.rows) (first_number c.args.walk.now.document h.are_there.rows j) 0 (tree_step c.args.step.now) ss) ∙ c.next_in.ensures.found h ss)
