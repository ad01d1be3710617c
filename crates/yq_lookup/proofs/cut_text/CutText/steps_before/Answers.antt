use Rattle.yq_documents.specs.Reading.{cut_of}
use Rattle.yq_places.proofs.HeldLaws.{cut_view}
use Rattle.yq_lookup.proofs.cut_text.CutText.steps_before.Goals as goal

pub searches_before-requires-clause-rows_view : goal.searches_before-requires-clause-rows_view
searches_before-requires-clause-rows_view c = cut_view c.args.self.now c.rows.result.now c.rows.ensures

pub returns : goal.returns
returns c = c.searches_before.ensures (cut_of c.args.self.now) c.rows.ensures.rows
