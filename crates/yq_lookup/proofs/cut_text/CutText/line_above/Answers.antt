use Rattle.std.{proofs.Common.{ap, ◌∙◌, subst}, specs.Prelude.IfSome}
use Rattle.yq_documents.specs.Reading.{cut_of}
use Rattle.yq_row_table.specs.View.{rows_view}
use Rattle.yq_row_walk.specs.Walk.{IsLineAbove}
use Rattle.yq_lookup.proofs.cut_text.CutText.line_above.Goals as goal

pub returns : goal.returns
returns c =
    let rows = c.self.invariant.0.rows ∙ ap (λ t. rows_view (cut_of t)) c.self.view_is in
    subst (λ s. IfSome c.self.inside.way.above (IsLineAbove s)) rows c.self.invariant.1.1.1
