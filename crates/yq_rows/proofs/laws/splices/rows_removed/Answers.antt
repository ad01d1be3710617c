use Rattle.yq_row_table.{proofs.splices.RemoveLaws.removed_repaired, proofs.splices.SpliceCases.removed}
use Rattle.yq_rows.proofs.laws.splices.rows_removed.Goals as goal

pub returns-clause-any : goal.returns-clause-any
returns-clause-any c x h may = removed h.text x.cut x.part x.start x.stop x.gap h.is_cut may

pub returns-clause-repaired : goal.returns-clause-repaired
returns-clause-repaired c cut k i j kept run h may = removed_repaired h.text cut k i j kept run h.is_cut may
