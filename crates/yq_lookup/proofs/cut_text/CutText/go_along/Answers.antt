use Rattle.std.{proofs.Common.{◌∙◌, List, ℕ, subst}, specs.Prelude.IfSome}
use Rattle.yq_documents.specs.Reading.{cut_of}
use Rattle.yq_lookup.{specs.PathLines.IsLineOf, proofs.PathLineLaws.at_known}
use Rattle.yq_lookup.proofs.cut_text.CutText.go_along.Goals as goal

pub returns-clause-line : goal.returns-clause-line
returns-clause-line c =
    let p = c.args.path.now in
    let line = c.way_along-way.result.line in
    let at = subst (λ (t : List ℕ). IfSome line (λ k. IsLineOf p (cut_of t) k.at)) (c.take_items-known.ensures.same ∙ c.to_document.ensures) c.way_along-way.ensures.at in
    at_known (IsLineOf p (cut_of c.args.self.now)) line c.position_of.result c.position_of.ensures at
