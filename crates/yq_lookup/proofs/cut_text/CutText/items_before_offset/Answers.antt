use Rattle.yq_documents.specs.Reading.{cut_of}
use Rattle.yq_places.proofs.HeldLaws.{cut_view}
use Rattle.yq_lookup.proofs.CutRows.{items_known}
use Rattle.yq_lookup.proofs.cut_text.CutText.items_before_offset.Goals as goal

pub keep_before_offset-requires-clause-known : goal.keep_before_offset-requires-clause-known
keep_before_offset-requires-clause-known c = items_known c.args.self.now c.rows.result.now c.args.known.now.items c.rows.ensures.rows c.requires

pub keep_before_offset-requires-clause-rows_view : goal.keep_before_offset-requires-clause-rows_view
keep_before_offset-requires-clause-rows_view c = cut_view c.args.self.now c.rows.result.now c.rows.ensures

pub returns : goal.returns
returns c = c.keep_before_offset.ensures (cut_of c.args.self.now) c.rows.ensures.rows
