use Rattle.std.{proofs.Common.{[], option_map, arith, map, ap, sym, ◌∙◌, append-nil}, proofs.lemmas.Grind.common_steps}
use Rattle.yq_core.specs.Entries.{tree_step}
use Rattle.yq_outline.{specs.Ends.reached, specs.Lines.lines_of_rows, specs.Positions.reach_from, specs.RowWalk.line_number}
use Rattle.yq_row_walk.proofs.position_reach.reach_by_steps.Goals as goal

pub steps-init : goal.steps-init
steps-init c =
    let w = c.walk_start-found.ensures in
    record {
      within = w.line;
      leads = λ h.
          let ls = lines_of_rows h.are_there.rows in
          ap (reach_from ls (option_map (line_number c.args.walk.now.document h.are_there.rows) c.walk_start-found.result.0)) (sym (append-nil (map tree_step c.walk_start-found.result.1.now)))
          ∙ w.leads h [] ∙ ap (λ l. reached l ls) (append-nil (map tree_step c.args.steps.now));
    }

pub steps-preserved : goal.steps-preserved
steps-preserved c = grind (arith, common_steps)

pub returns-in_err-at-2-clause-found : goal.returns-in_err-at-2-clause-found
returns-in_err-at-2-clause-found c = grind (arith, common_steps)

pub returns-clause-found : goal.returns-clause-found
returns-clause-found c = grind (arith, common_steps)
