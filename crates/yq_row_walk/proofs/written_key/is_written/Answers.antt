use Rattle.std.proofs.Common.{bytes_eq, rules}
use Rattle.yq_core.proofs.OneLine.{kept}
use Rattle.yq_row_walk.proofs.written_key.is_written.Goals as goal

pub returns : goal.returns
returns c = search (rules, bytes_eq, kept)
