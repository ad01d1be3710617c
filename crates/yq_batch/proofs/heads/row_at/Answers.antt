use Rattle.std.proofs.Common.{List, map, subst}
use Rattle.yq_core.{specs.Entries.tree_step, specs.Paths.Step}
use Rattle.yq_documents.specs.Reading.{cut_of}
use Rattle.yq_places.specs.PlacementViews.{IsHeldRow}
use Rattle.yq_batch.{specs.HeadRuns.IsRowAt, proofs.HeadRunLaws.{row_found, some_is}}
use Rattle.yq_batch.proofs.heads.row_at.Goals as goal

pub returns-clause-row : goal.returns-clause-row
returns-clause-row c =
    let steps : List Step = map tree_step c.in_ok-copied_steps.field-0.items in
    let held = some_is (IsHeldRow c.args.doc steps (cut_of c.args.cut.now)) c.to_held_row.result c.in-Some.at c.to_held_row.ensures.row c.in-Some.is in
    subst (λ (ss : List Step). IsRowAt (cut_of c.args.cut.now) c.args.doc ss c.in-Some.at.row) c.in_ok-copied_steps.ensures
    (row_found c.args.cut.now c.args.doc steps c.in-Some.at c.text-text.ensures.read held c.if-not-at.false)
