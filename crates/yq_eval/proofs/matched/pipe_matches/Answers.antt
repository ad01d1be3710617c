use Rattle.std.{proofs.Common.{◌<◌, List, length, map, Err, ap, sym, ◌∙◌, subst, arith}, proofs.lemmas.Result.err_from_is_err_and}
use Rattle.yq_core.specs.Tree.{Node}
use Rattle.yq_documents.{specs.Documents.{Document, document_parts}, specs.Reading.{cut_of, documents_of}}
use Rattle.yq_semantics.{specs.Copies.{matches, matches_in}, specs.Judgement.MatchFails, specs.View.stage_of}
use Rattle.yq_eval.{specs.MatchView.matches_of, specs.PlaceView.put_after, specs.TreeScalars.HasScalars, proofs.EachLaws.failed}
use Rattle.yq_eval.{proofs.MatchLaws.{document_there, document_more, document_fails, documents_done}, proofs.TreeScalarLaws.documents_have}
use Rattle.yq_eval.proofs.matched.pipe_matches.Goals as goal

pub push_document-requires : goal.push_document-requires
push_document-requires c =
    let docs : List Document = documents_of c.args.documents.now in
    let within : c.documents.doc < length docs = omega (arith, c.count-doc-end.ensures, c.documents-test.true) in
    let d = document_there docs c.documents.doc within in
    subst HasScalars (sym (c.root.ensures.node d.0 d.1)) (documents_have (document_parts (cut_of c.args.documents.now)) c.documents.doc d.0 d.1)

pub returns-in_err-push_document : goal.returns-in_err-push_document
unfolding matches
returns-in_err-push_document c =
    let docs : List Document = documents_of c.args.documents.now in
    let within : c.documents.doc < length docs = omega (arith, c.count-doc-end.ensures, c.documents-test.true) in
    let d = document_there docs c.documents.doc within in
    let p = err_from_is_err_and c.from_residual.result c.from_residual.ensures.1 in
    failed _ _ _ _ (p.1 ∙ ap Err p.2)
    (document_fails (map stage_of c.args.pipe.now) docs c.documents.doc d.0 (matches_of c.documents.matches.items) _ _ d.2
    (subst (λ (n : Node). MatchFails c.in_err-push_document.field-0.0
    (put_after (matches_of c.documents.matches.items) (matches_in c.documents.doc (map stage_of c.args.pipe.now) n)))
    (c.root.ensures.node d.0 d.1) c.in_err-push_document.ensures)
    c.documents.invariant)

pub documents-preserved : goal.documents-preserved
documents-preserved c =
    let docs : List Document = documents_of c.args.documents.now in
    let within : c.documents.doc < length docs = omega (arith, c.count-doc-end.ensures, c.documents-test.true) in
    let d = document_there docs c.documents.doc within in
    document_more (map stage_of c.args.pipe.now) docs c.documents.doc d.0 (matches_of c.documents.matches.items) (matches_of c.push_document.new.matches.items) _ d.2
    (ap (λ (n : Node). put_after (matches_of c.documents.matches.items) (matches_in c.documents.doc (map stage_of c.args.pipe.now) n)) (sym (c.root.ensures.node d.0 d.1)) ∙ c.in_ok-push_document.ensures)
    c.documents.invariant

pub returns : goal.returns
unfolding matches
returns c =
    documents_done (map stage_of c.args.pipe.now) (documents_of c.args.documents.now) c.documents.doc (matches_of c.documents.matches.items) _ (omega (arith, c.count-doc-end.ensures, c.documents-test.false)) c.documents.invariant
