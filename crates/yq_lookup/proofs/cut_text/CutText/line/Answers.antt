use Rattle.std.{proofs.Common.{ap, ◌∙◌, subst}, specs.Prelude.IfSome}
use Rattle.yq_documents.specs.Reading.{cut_of}
use Rattle.yq_row_table.specs.View.{rows_view}
use Rattle.yq_row_walk.specs.Walk.{IsKnownLine}
use Rattle.yq_lookup.proofs.CutRows.{line_borrowed}
use Rattle.yq_lookup.proofs.cut_text.CutText.line.Goals as goal

pub returns : goal.returns
returns c =
    let rows = c.self.invariant.0.rows ∙ ap (λ t. rows_view (cut_of t)) c.self.view_is in
    subst (λ s. IfSome c.as_ref.result (λ k. IsKnownLine s k.now)) rows (line_borrowed c.self.inside.rows.now c.self.inside.way.line c.as_ref.result c.as_ref.ensures.value c.self.invariant.1.1.0)
