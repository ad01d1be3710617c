use Rattle.std.proofs.Common.{◌<◌, List, length, sym, subst, arith}
use Rattle.yq_documents.{specs.Documents.{Document, document_parts}, specs.Reading.{cut_of, documents_of}}
use Rattle.yq_eval.{specs.TreeScalars.HasScalars, proofs.MatchLaws.document_there, proofs.TreeScalarLaws.documents_have}
use Rattle.yq_expr.proofs.memory.modified.are_many.Goals as goal

pub room_after-requires : goal.room_after-requires
room_after-requires c =
    let docs : List Document = documents_of c.args.documents.now in
    let within : c.documents.doc < length docs = omega (arith, c.count-doc-end.ensures, c.documents-test.true) in
    let d = document_there docs c.documents.doc within in
    subst HasScalars (sym (c.root-root.ensures.node d.0 d.1)) (documents_have (document_parts (cut_of c.args.documents.now)) c.documents.doc d.0 d.1)
