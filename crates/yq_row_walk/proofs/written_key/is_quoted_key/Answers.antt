use Rattle.std.proofs.Common.{bytes_eq, rules}
use Rattle.yq_outline.proofs.RowLaws.{quoted_lent}
use Rattle.yq_row_walk.proofs.written_key.is_quoted_key.Goals as goal

pub returns : goal.returns
returns c = search (rules, bytes_eq, quoted_lent)
