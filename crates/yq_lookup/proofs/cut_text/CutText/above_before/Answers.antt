use Rattle.std.{proofs.Common.{◌∙◌, List, ℕ, ap}, proofs.lemmas.Option.IfSome_then}
use Rattle.yq_documents.specs.Reading.{cut_of}
use Rattle.yq_row_table.specs.View.{rows_view}
use Rattle.yq_places.proofs.WalkDocuments.{found_document}
use Rattle.yq_lookup.proofs.cut_text.CutText.above_before.Goals as goal

pub line_before-requires-clause-document : goal.line_before-requires-clause-document
line_before-requires-clause-document c =
    let t = c.take_above.new.self in
    (found_document t c.rows.result.now (cut_of t) _ c.in_ok-document.document c.rows.ensures.cut c.rows.ensures.rows c.in_ok-document.ensures c.rows.ensures.sound).document

pub returns-clause-still : goal.returns-clause-still
returns-clause-still c =
    let rows = c.rows.ensures.rows ∙ ap (λ (t : List ℕ). rows_view (cut_of t)) (c.take_above.ensures.same ∙ c.keep_parent.ensures) in
    IfSome_then c.line_before.result c.line_before.ensures (λ k still. still (cut_of c.args.self.now) rows)
