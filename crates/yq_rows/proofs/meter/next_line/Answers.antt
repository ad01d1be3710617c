use Rattle.yq_row_table.proofs.MeterLaws.{line_boundary}
use Rattle.yq_rows.proofs.meter.next_line.Goals as goal

pub split_at-requires : goal.split_at-requires
split_at-requires c = line_boundary c.args.text.now c.args.at c.utf8.text c.requires.begins
