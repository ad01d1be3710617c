use Rattle.std.proofs.Common.{◌≡◌, rules, [], ◌∷◌, ◌++◌, map, option_map, string_bytes, ap, ◌∙◌}
use Rattle.yq_core.specs.Values.{value_node}
use Rattle.yq_semantics.{specs.Changes.{adds, appends, step_key}, specs.View.program_step}
use Rattle.yq_planner.specs.ChangeView.{addition_of}
use Rattle.yq_planner.specs.declared.updating.change.Addition.TheVariants as additions
use Rattle.yq_expr.proofs.plans.put.appended.Goals as goal

pub returns : goal.returns
returns c =
    let key : option_map string_bytes c.match-step.key ≡ step_key (program_step c.args.step.now) = search rules in
    ap (λ xs. adds (map addition_of xs)) (c.in_ok-push.ensures.items ∙ ap (λ l. l ++ additions.Appends c.match-step.key c.args.value ∷ []) c.in_ok-additions.ensures.items)
    ∙ ap (λ k. adds (appends k (value_node c.args.value) ∷ [])) key
