use Rattle.yq_row_table.{proofs.splices.SpliceLaws.spliced, proofs.splices.SpliceTexts.{new_text, old_text}}
use Rattle.yq_rows.proofs.laws.splices.rows_spliced.Goals as goal

pub returns-clause-cut : goal.returns-clause-cut
returns-clause-cut c x h may = spliced h.text x.cut x.part x.start x.stop x.new x.gap h.is_cut may

pub returns-clause-old : goal.returns-clause-old
returns-clause-old c x ordered = old_text x.cut x.part x.start x.stop ordered

pub returns-clause-new : goal.returns-clause-new
returns-clause-new c x = new_text x.cut x.part x.start x.stop x.new x.gap
