use Rattle.std.proofs.Common.{[], ◌∷◌, ◌++◌, map, option_map, refl, sym, ap, ◌∙◌, arith}
use Rattle.yq_core.specs.Entries.{tree_step}
use Rattle.yq_inline.specs.Along.{along_view}
use Rattle.yq_lookup.proofs.RowItems.{inner_within, row_within}
use Rattle.yq_lookup.{proofs.RowParts.{leads_there, no_part_agrees, outside_there, part_agrees, part_missing}, specs.RowFronts.flow_found}
use Rattle.yq_lookup.proofs.cut_text.CutText.flow_part.Goals as goal

pub returns-in_default : goal.returns-in_default
returns-in_default c =
    part_missing c.args.self.now c.args.doc (map tree_step c.args.steps.now) (tree_step c.args.last.now) (outside_there _ _ _ _ c.in_default.not-InFlow c.in_ok-above.ensures)

pub returns-in_default-2 : goal.returns-in_default-2
returns-in_default-2 c =
    let w = leads_there c.args.self.now c.args.doc (map tree_step c.args.steps.now) _ _ (ap flow_found c.in-InFlow.is) c.in_ok-above.ensures in
    no_part_agrees c.args.self.now c.args.doc (map tree_step c.args.steps.now) (c.in-InFlow.front, c.in-InFlow.start, c.in-InFlow.left) w
    (tree_step c.args.last.now) (ap (option_map along_view) (sym c.in_default-2.is) ∙ c.in_ok-found.ensures)

pub overflow_sub-before : goal.overflow_sub-before
overflow_sub-before c =
    let w = leads_there c.args.self.now c.args.doc (map tree_step c.args.steps.now) _ _ (ap flow_found c.in-InFlow.is) c.in_ok-above.ensures in
    inner_within c.args.self.now c.args.doc (map tree_step c.args.steps.now) (c.in-InFlow.front, c.in-InFlow.start, c.in-InFlow.left) w
    (map tree_step c.in-InFlow.left.now ++ (tree_step c.args.last.now ∷ [])) c.in-Some.found (ap (option_map along_view) (sym c.in-Some.is) ∙ c.in_ok-found.ensures)

pub overflow_add-before : goal.overflow_add-before
overflow_add-before c =
    let w = leads_there c.args.self.now c.args.doc (map tree_step c.args.steps.now) _ _ (ap flow_found c.in-InFlow.is) c.in_ok-above.ensures in
    omega (arith, row_within c.args.self.now c.args.doc (map tree_step c.args.steps.now) (c.in-InFlow.front, c.in-InFlow.start, c.in-InFlow.left) w)

pub returns : goal.returns
returns c =
    let w = leads_there c.args.self.now c.args.doc (map tree_step c.args.steps.now) _ _ (ap flow_found c.in-InFlow.is) c.in_ok-above.ensures in
    part_agrees c.args.self.now c.args.doc (map tree_step c.args.steps.now) (c.in-InFlow.front, c.in-InFlow.start, c.in-InFlow.left) w
    (tree_step c.args.last.now) c.in-Some.found _ refl (ap (option_map along_view) (sym c.in-Some.is) ∙ c.in_ok-found.ensures)
