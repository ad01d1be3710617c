use Rattle.std.proofs.Common.{sym, arith, ◌∙◌, subst}
use Rattle.yq_compose.{specs.Decoding.AreDecoded, specs.Places.{all_sound, part_is_sound}, proofs.AllOf.{all_fails, all_step}}
use Rattle.yq_compose.{proofs.DecidingLaws.denies_as, proofs.DocumentsRead.{part_at, ready_at, sound_at}}
use Rattle.yq_documents.{specs.Documents.document_parts, specs.Reading.cut_of}
use Rattle.yq_compose.proofs.reading.check_documents.Goals as goal

pub check_document-requires-clause-ready : goal.check_document-requires-clause-ready
check_document-requires-clause-ready c =
    ready_at c.args.text.now c.args.rows.now c.as_slice-of_rows.result.now c.args.documents.now c.requires.cut
    (subst (AreDecoded c.args.text.now) (sym c.as_slice-of_rows.ensures.value) c.requires.decoded) c.requires.places c.documents.at
    c.documents-test.true _

pub returns-in-Err-clause-sound : goal.returns-in-Err-clause-sound
returns-in-Err-clause-sound c =
    let t = c.args.text.now in
    let ps = document_parts (cut_of t) in
    let p = part_at t c.args.rows.now c.as_slice-of_rows.result.now c.args.documents.now c.requires.cut
    (subst (AreDecoded c.args.text.now) (sym c.as_slice-of_rows.ensures.value) c.requires.decoded) c.requires.places c.documents.at
    c.documents-test.true _ in
    let same = sound_at t c.args.rows.now c.as_slice-of_rows.result.now c.args.documents.now c.requires.cut
    (subst (AreDecoded c.args.text.now) (sym c.as_slice-of_rows.ensures.value) c.requires.decoded) c.requires.places c.documents.at
    c.documents-test.true _ in
    denies_as c.in-Err.e _ (all_sound ps)
    (λ bad. all_fails part_is_sound ps c.documents.at (all_sound ps) c.documents.invariant.so_far p.0 p.1 (sym same ∙ bad))
    (c.in-Err.ensures.sound
    (ready_at t c.args.rows.now c.as_slice-of_rows.result.now c.args.documents.now c.requires.cut
    (subst (AreDecoded c.args.text.now) (sym c.as_slice-of_rows.ensures.value) c.requires.decoded) c.requires.places c.documents.at
    c.documents-test.true _))

pub documents-preserved : goal.documents-preserved
documents-preserved c =
    let t = c.args.text.now in
    let ps = document_parts (cut_of t) in
    let p = part_at t c.args.rows.now c.as_slice-of_rows.result.now c.args.documents.now c.requires.cut
    (subst (AreDecoded c.args.text.now) (sym c.as_slice-of_rows.ensures.value) c.requires.decoded) c.requires.places c.documents.at
    c.documents-test.true _ in
    let same = sound_at t c.args.rows.now c.as_slice-of_rows.result.now c.args.documents.now c.requires.cut
    (subst (AreDecoded c.args.text.now) (sym c.as_slice-of_rows.ensures.value) c.requires.decoded) c.requires.places c.documents.at
    c.documents-test.true _ in
    record {
      within = omega (arith, c.documents-test.true);
      so_far = all_step part_is_sound ps c.documents.at (all_sound ps) c.documents.invariant.so_far p.0 p.1
          (sym same ∙ c.in-Ok.ensures.sound
          (ready_at t c.args.rows.now c.as_slice-of_rows.result.now c.args.documents.now c.requires.cut
          (subst (AreDecoded c.args.text.now) (sym c.as_slice-of_rows.ensures.value) c.requires.decoded) c.requires.places c.documents.at
          c.documents-test.true _));
    }
