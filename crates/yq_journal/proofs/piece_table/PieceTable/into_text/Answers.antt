use Rattle.std.proofs.Common.{rules}
use Rattle.yq_journal.proofs.PieceLaws.{forward_bytes-reverse}
use Rattle.yq_journal.proofs.piece_table.PieceTable.into_text.Goals as goal

pub returns : goal.returns
returns c = search (rules, forward_bytes-reverse)
