use Rattle.std.{proofs.Common.{List, ◌++◌, map, ap, ◌∙◌}, proofs.lemmas.List.map-append}
use Rattle.yq_core.{specs.Paths.Step, specs.Entries.tree_step}
use Rattle.yq_batch.proofs.change.steps_on.Goals as goal

pub returns : goal.returns
returns c =
    ap (map tree_step) c.split_at.ensures.by_index.0 ∙ (map-append tree_step c.split_at.result.0.now c.split_at.result.1.now
    ∙ ap (λ (ss : List Step). ss ++ map tree_step c.split_at.result.1.now) (c.are_same_steps.ensures c.if-not-are_same_steps.false))
