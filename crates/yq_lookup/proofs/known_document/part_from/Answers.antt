use Rattle.std.{proofs.Common.{option_map, sym, ap, ◌∙◌, subst}, specs.Prelude.IfSome}
use Rattle.yq_lookup.{specs.KnownDocuments.{IsKnownDocument, part_by_number}, proofs.KnownDocumentLaws.part_told}
use Rattle.yq_lookup.specs.declared.known_document.KnownDocument.{KnownDocument}
use Rattle.yq_lookup.proofs.known_document.part_from.Goals as goal

pub returns-clause-value : goal.returns-clause-value
returns-clause-value c = λ cut is.
    let known = subst (λ o. IfSome o (IsKnownDocument c.args.rows.now.bounds)) c.in-Some.is c.requires.0 in
    sym known ∙ (ap (λ n. part_by_number n c.args.rows.now.bounds) c.if-last-doc.true ∙ part_told cut c.args.rows.now c.args.doc is)

pub returns-in_err-found-clause-value : goal.returns-in_err-found-clause-value
returns-in_err-found-clause-value c = λ cut is.
    c.from_residual.ensures ∙ (sym (ap (option_map (λ (k : KnownDocument). k.part)) c.in_err-found.was) ∙ (c.find_document.ensures.part ∙ part_told cut c.args.rows.now c.args.doc is))

pub returns-2-clause-value : goal.returns-2-clause-value
returns-2-clause-value c = λ cut is.
    sym (ap (option_map (λ (k : KnownDocument). k.part)) c.in_ok-found.was) ∙ (c.find_document.ensures.part ∙ part_told cut c.args.rows.now c.args.doc is)
