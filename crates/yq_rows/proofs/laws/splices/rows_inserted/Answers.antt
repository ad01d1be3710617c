use Rattle.yq_row_table.{proofs.seams.FrontSeams.seams_line, proofs.splices.SpliceCases.inserted}
use Rattle.yq_rows.proofs.laws.splices.rows_inserted.Goals as goal

pub returns-clause-cut : goal.returns-clause-cut
returns-clause-cut c x h may = inserted h.text x.cut x.part x.start x.new x.gap h.is_cut may

pub returns-clause-line : goal.returns-clause-line
returns-clause-line c = seams_line
