use Rattle.std.proofs.Common.{map, sym, ap, ◌∙◌, List, Some}
use Rattle.yq_core.{specs.Entries.tree_step, specs.Paths.Step}
use Rattle.yq_documents.specs.Located.{steps_of}
use Rattle.yq_places.specs.Placements.{last_step}
use Rattle.yq_semantics.specs.Operations.{operation_of, remove}
use Rattle.yq_batch.proofs.row_removals.takes_from.Goals as goal

pub returns : goal.returns
returns c = λ same.
    let last = c.in-Some.ensures ∙ ap (λ ss. last_step (map tree_step ss)) c.deref.ensures.value in
    let own = ap operation_of c.in-Remove.is ∙ ap (λ k. remove k (steps_of c.in-Remove.path)) c.if-path-doc.false in
    (steps_of c.in-Remove.path, (own, (_, sym last ∙ ap (λ (a : List Step). Some (a, tree_step c.in-Some.field-0-1.now)) (c.are_same_steps.ensures same))))
