use Rattle.std.proofs.Common.{◌&&◌, sym, ap, ◌∙◌, subst}
use Rattle.yq_row_table.specs.View.{rows_of}
use Rattle.yq_documents.{specs.Documents.document_parts, specs.Reading.{all_documents, cut_of, have_fit_keys}}
use Rattle.yq_compose.{specs.Places.{AreLocated, all_sound}, proofs.DecidingLaws.denies_as}
use Rattle.yq_compose.{proofs.DocumentsRead.{all_split, cut_into, held}, proofs.PartLaws.are_placed}
use Rattle.yq_compose.proofs.reading.read_rows.Goals as goal

pub decode_rows-requires : goal.decode_rows-requires
decode_rows-requires c = record { cut = cut_into c.args.text.now c.args.rows c.requires.0 c.requires.1 c.requires.2 }

pub returns-in-Err-clause-documents : goal.returns-in-Err-clause-documents
returns-in-Err-clause-documents c = λ d h.
    let t = c.args.text.now in
    denies_as c.in-Err.e (have_fit_keys (rows_of (cut_of t))) (all_documents d) (λ bad. sym (all_split t d h) ∙ ap (λ b. b && all_sound (document_parts (cut_of t))) bad) c.in-Err.ensures.fits

pub check_documents-requires-clause-cut : goal.check_documents-requires-clause-cut
check_documents-requires-clause-cut c = cut_into c.args.text.now c.args.rows c.requires.0 c.requires.1 c.requires.2

pub check_documents-requires-clause-places : goal.check_documents-requires-clause-places
check_documents-requires-clause-places c =
    let t = c.args.text.now in
    subst (AreLocated t) (sym c.deref.ensures.value) (are_placed t c.args.rows c.in_ok-documents.documents.items (cut_into t c.args.rows c.requires.0 c.requires.1 c.requires.2) c.in_ok-documents.ensures)

pub returns-in-Err-check_documents-clause-documents : goal.returns-in-Err-check_documents-clause-documents
returns-in-Err-check_documents-clause-documents c = λ d h.
    let t = c.args.text.now in
    denies_as c.in-Err-check_documents.e (all_sound (document_parts (cut_of t))) (all_documents d) (λ bad. sym (all_split t d h) ∙ (λ i. c.in-Ok.ensures.fits i && bad i)) c.in-Err-check_documents.ensures.sound

pub new-requires : goal.new-requires
new-requires c =
    let t = c.args.text.now in
    let k = cut_into t c.args.rows c.requires.0 c.requires.1 c.requires.2 in
    held t c.args.rows c.in-Ok.decoded.decoded.items c.in_ok-documents.documents.items k c.in-Ok.ensures.decoded (are_placed t c.args.rows c.in_ok-documents.documents.items k c.in_ok-documents.ensures) c.in-Ok.decoded.refers
    c.in-Ok.ensures.refers (sym (all_split t (cut_of t) k.cut) ∙ (λ i. c.in-Ok.ensures.fits i && c.in-Ok-check_documents.ensures.sound i))

pub returns-clause-documents : goal.returns-clause-documents
returns-clause-documents c = λ d h. sym (all_split c.args.text.now d h) ∙ (λ i. c.in-Ok.ensures.fits i && c.in-Ok-check_documents.ensures.sound i)
