use Rattle.yq_row_table.proofs.ScanLaws.{one_cut, scan_takes, scan_again}
use Rattle.yq_rows.proofs.laws.one_cut.Goals as goal

pub returns-clause-one : goal.returns-clause-one
returns-clause-one c = one_cut

pub returns-clause-taken : goal.returns-clause-taken
returns-clause-taken c = scan_takes

pub returns-clause-scanned : goal.returns-clause-scanned
returns-clause-scanned c = scan_again
