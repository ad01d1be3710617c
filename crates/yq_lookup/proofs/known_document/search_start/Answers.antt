use Rattle.std.{proofs.Common.{◌≤◌, subst}, specs.Prelude.IfSome}
use Rattle.yq_lookup.{specs.KnownDocuments.IsKnownDocument, proofs.KnownDocumentLaws.goes_on_known}
use Rattle.yq_lookup.proofs.known_document.search_start.Goals as goal

pub returns-in-Some-clause-goes_on : goal.returns-in-Some-clause-goes_on
returns-in-Some-clause-goes_on c = goes_on_known c.args.rows.now.bounds c.in-Some.known (subst (λ o. IfSome o (IsKnownDocument c.args.rows.now.bounds)) c.in-Some.is c.requires)

pub returns-in-Some-clause-order : goal.returns-in-Some-clause-order
returns-in-Some-clause-order c = λ doc less. subst (λ o. IfSome o (λ k. k.doc ≤ doc)) c.in-Some.is less
