use Rattle.yq_documents.specs.Reading.{cut_of}
use Rattle.yq_row_table.specs.View.{rows_view}
use Rattle.yq_lookup.proofs.cut_text.CutText.keep_line.Goals as goal

pub put_above-requires : goal.put_above-requires
put_above-requires c = c.in-Ok.ensures (rows_view (cut_of c.args.self.now)) c.requires
