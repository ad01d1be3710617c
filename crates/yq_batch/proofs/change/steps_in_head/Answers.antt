use Rattle.std.proofs.Common.{map, ap, ◌∙◌}
use Rattle.yq_core.specs.Entries.{tree_step}
use Rattle.yq_documents.specs.Located.{steps_of}
use Rattle.yq_places.specs.Placements.{last_step}
use Rattle.yq_batch.proofs.RunAnswers.{ends_there}
use Rattle.yq_batch.proofs.change.steps_in_head.Goals as goal

pub returns : goal.returns
returns c =
    let last = c.in-Some.ensures ∙ ap (λ ss. last_step (map tree_step ss)) c.deref.ensures.value in
    (c.if-path-doc.false, ends_there (steps_of c.args.path.now) (map tree_step c.in-Some.above.now) (map tree_step c.args.stem.now) (map tree_step c.in-Some-steps_on.left.now) _ last c.in-Some-steps_on.ensures)
