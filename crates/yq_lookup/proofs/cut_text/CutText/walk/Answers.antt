use Rattle.yq_documents.specs.Reading.{cut_of}
use Rattle.yq_places.{proofs.HeldLaws.cut_view, proofs.WalkDocuments.found_document}
use Rattle.yq_lookup.proofs.CutRows.{above_known, items_known, line_known}
use Rattle.yq_lookup.proofs.cut_text.CutText.walk.Goals as goal

pub returns-clause-walk : goal.returns-clause-walk
returns-clause-walk c =
    let t = c.args.self.now in
    let s = c.rows.result.now in
    let cut = c.rows.ensures in
    record {
      rows_view = cut_view t s cut;
      document = (found_document t s (cut_of t) c.args.doc c.in_ok-document.document cut.cut cut.rows c.in_ok-document.ensures cut.sound).document;
      known = items_known t s c.known.result.now cut.rows c.known.ensures;
      line = line_known t s c.line.result cut.rows c.line.ensures;
      above = above_known t s c.above.result cut.rows c.above.ensures;
    }
