use Rattle.std.{proofs.Common.{◌<◌, List, length, ap, sym, ◌∙◌, arith, rules}, proofs.lemmas.Result.err_from_is_err_and}
use Rattle.yq_core.specs.Tree.{Node}
use Rattle.yq_documents.{specs.Documents.Document, specs.Reading.documents_of}
use Rattle.yq_planner.specs.Substitutes.{verdict}
use Rattle.yq_semantics.{specs.Changes.changes_in, specs.Rooms.room_of, specs.View.update_of}
use Rattle.yq_eval.{proofs.EachLaws.failed, proofs.MatchLaws.document_there}
use Rattle.yq_expr.{proofs.VerdictLaws.{document_judged, document_refused, documents_judged}, proofs.DocumentLaws.document_root}
use Rattle.yq_expr.proofs.verdicts.judging.judge_update.Goals as goal

pub judge_in-requires : goal.judge_in-requires
judge_in-requires c = document_root _ c.are_ready.ensures (omega (arith, c.count-doc-end.ensures, c.documents-test.true)) c.root-root.ensures.node

pub returns-in_err-judge_in : goal.returns-in_err-judge_in
returns-in_err-judge_in c =
    let docs : List Document = documents_of c.args.documents.now in
    let within : c.documents.doc < length docs = omega (arith, c.count-doc-end.ensures, c.documents-test.true) in
    let d = document_there docs c.documents.doc within in
    search (rules, err_from_is_err_and, failed, document_refused, c.root-root.ensures.node)

pub documents-preserved : goal.documents-preserved
documents-preserved c =
    let docs : List Document = documents_of c.args.documents.now in
    let within : c.documents.doc < length docs = omega (arith, c.count-doc-end.ensures, c.documents-test.true) in
    let d = document_there docs c.documents.doc within in
    document_judged (update_of c.args.update.now) (room_of c.args.documents.now) docs c.documents.doc d.0 _ d.2
    (ap (λ (n : Node). verdict (changes_in (update_of c.args.update.now) c.documents.doc (room_of c.args.documents.now c.documents.doc) n)) (sym (c.root-root.ensures.node d.0 d.1)) ∙ c.in_ok-judge_in.ensures)
    c.documents.invariant

pub returns : goal.returns
returns c = search (rules, documents_judged)
