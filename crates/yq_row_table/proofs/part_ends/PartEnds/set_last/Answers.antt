use Rattle.std.proofs.Common.{rules}
use Rattle.yq_row_table.proofs.PartEndsLaws.{last_set_after, shifted_back}
use Rattle.yq_row_table.proofs.part_ends.PartEnds.set_last.Goals as goal

pub returns-then-len-gt0 : goal.returns-then-len-gt0
returns-then-len-gt0 c = search (rules, shifted_back, last_set_after)
