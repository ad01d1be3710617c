use Rattle.yq_row_table.proofs.ScanLaws.{found_by, only_by}
use Rattle.yq_rows.proofs.scanning.scan.Goals as goal

pub returns-clause-found : goal.returns-clause-found
returns-clause-found c = found_by _ c.args.text.now _ c.scan_text.ensures.read

pub returns-clause-only : goal.returns-clause-only
returns-clause-only c = only_by _ c.args.text.now _ c.scan_text.ensures.read
