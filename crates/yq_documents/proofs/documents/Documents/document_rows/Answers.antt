use Rattle.std.{proofs.Common.{refl, arith}, proofs.lemmas.Option.slice_get_read}
use Rattle.yq_documents.proofs.HoldLaws.{count_held, place_held}
use Rattle.yq_documents.proofs.documents.Documents.document_rows.Goals as goal

pub returns : goal.returns
returns c =
    let there = slice_get_read c.self.inside.documents.items _ c.args.i c.index-document.result.now refl (omega (arith, c.requires, count_held c.self.invariant c.self.view_is)) c.index-document.ensures in
    place_held c.self.invariant c.self.view_is c.args.i c.index-document.result.now there _ refl refl c.requires
