use Rattle.std.proofs.Common.{rules}
use Rattle.yq_row_table.proofs.PartEndsLaws.{ends_replaced}
use Rattle.yq_row_table.proofs.part_ends.PartEnds.exchange.Goals as goal

pub returns-clause-ok : goal.returns-clause-ok
returns-clause-ok c = search (rules, ends_replaced)
