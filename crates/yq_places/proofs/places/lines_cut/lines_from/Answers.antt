use Rattle.yq_text.specs.Halves.{whole}
use Rattle.yq_places.{proofs.EntryRowLaws.{is_view, last_within}, proofs.LinesCutLaws.rows_cut}
use Rattle.yq_places.proofs.places.lines_cut.lines_from.Goals as goal

pub row_stop-requires-clause-within : goal.row_stop-requires-clause-within
row_stop-requires-clause-within c = let h = c.requires in last_within (whole c.args.text) c.args.rows.now h.entry h.row c.args.end h.rows

pub row_stop-requires-clause-rows_view : goal.row_stop-requires-clause-rows_view
row_stop-requires-clause-rows_view c = let h = c.requires in is_view (whole c.args.text) c.args.rows.now h.entry h.row c.args.end h.rows

pub cut_lines-requires : goal.cut_lines-requires
cut_lines-requires c = rows_cut (whole c.args.text) c.args.rows.now c.args.from c.args.end c.requires c.is_text.ensures c.row_stop.result c.row_stop.ensures

pub returns : goal.returns
returns c = λ h. c.cut_lines.ensures (rows_cut (whole c.args.text) c.args.rows.now c.args.from c.args.end h c.is_text.ensures c.row_stop.result c.row_stop.ensures)
