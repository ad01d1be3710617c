use Rattle.std.proofs.Common.{Some, sym, ap, ◌∙◌}
use Rattle.yq_documents.{specs.Reading.cut_of, proofs.ReadLaws.{scan_fails, text_read}}
use Rattle.yq_tree.proofs.DeniedLaws.{text_denied}
use Rattle.yq_tree.proofs.reading.read_text.Goals as goal

pub returns-in-Err-clause-exact : goal.returns-in-Err-clause-exact
returns-in-Err-clause-exact c = scan_fails c.args.text.now c.in-Err.e c.in-Err.ensures.exact

pub returns-in-Ok-read_rows-clause-exact : goal.returns-in-Ok-read_rows-clause-exact
returns-in-Ok-read_rows-clause-exact c =
    let f = c.in-Ok.ensures.found in
    text_read c.args.text.now f.0 f.1 (c.in-Ok-read_rows.ensures.documents f.0 f.1) ∙ ap (λ x. Some (cut_of x)) (sym c.in-Ok-read_rows.ensures.text)

pub returns-in-Err-read_rows-clause-exact : goal.returns-in-Err-read_rows-clause-exact
returns-in-Err-read_rows-clause-exact c =
    let f = c.in-Ok.ensures.found in
    text_denied c.args.text.now f.0 c.in-Err-read_rows.e f.1 (c.in-Err-read_rows.ensures.documents f.0 f.1)
