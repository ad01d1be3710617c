use Rattle.std.{proofs.Common.{ℕ, List, sym, subst}, specs.Prelude.IfSome}
use Rattle.yq_documents.{specs.Located.steps_of, specs.Reading.cut_of}
use Rattle.yq_lookup.specs.PathLines.{IsLineOf}
use Rattle.yq_places.specs.PlacementViews.{IsHeldRow}
use Rattle.yq_batch.proofs.row_put.row_put.Goals as goal

pub value_there-requires-clause-row : goal.value_there-requires-clause-row
value_there-requires-clause-row c =
    let held = c.to_held_row-held in
    subst (λ (u : List ℕ). IfSome held.result (IsHeldRow c.args.at.path.now.doc (steps_of c.args.at.path.now) (cut_of u))) (sym held.ensures.same) held.ensures.row

pub comment_in_row-requires-clause-row : goal.comment_in_row-requires-clause-row
comment_in_row-requires-clause-row c =
    let at = c.in-Some in
    subst (λ (u : List ℕ). IsHeldRow c.args.at.path.now.doc (steps_of c.args.at.path.now) (cut_of u) at.row) (sym at.ensures.same) at.ensures.row

pub comment_above_row-requires-clause-line : goal.comment_above_row-requires-clause-line
comment_above_row-requires-clause-line c =
    let at = c.go_along-line in
    subst (λ (u : List ℕ). IfSome at.result (IsLineOf c.args.at.path.now (cut_of u))) (sym at.ensures.same) at.ensures.line
