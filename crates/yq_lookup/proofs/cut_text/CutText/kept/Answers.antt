use Rattle.std.{proofs.Common.{ap, ◌∙◌, subst}, specs.Prelude.IfSome}
use Rattle.yq_documents.specs.Reading.{cut_of}
use Rattle.yq_row_table.specs.View.{rows_view}
use Rattle.yq_row_walk.specs.Walk.{IsLineAbove}
use Rattle.yq_lookup.specs.Knowledge.{IsLineKept}
use Rattle.yq_lookup.proofs.cut_text.CutText.kept.Goals as goal

pub returns-in-Some : goal.returns-in-Some
returns-in-Some c =
    let s = c.self.inside.rows.now in
    let kept : IsLineKept s c.in-Some.above = subst (λ o. IfSome o (IsLineKept s)) c.in-Some.is c.self.invariant.1.2 in
    subst (λ x. IsLineAbove x c.line.result) (c.self.invariant.0.rows ∙ ap (λ t. rows_view (cut_of t)) c.self.view_is) (c.line.ensures s kept)
