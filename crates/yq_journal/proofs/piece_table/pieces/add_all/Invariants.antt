use Rattle.std.proofs.Common.{◌≡◌, ◌++◌, drop}
use Rattle.yq_journal.specs.PieceTable.{forward_bytes}
use Rattle.yq_journal.proofs.piece_table.pieces.add_all.Given as goal

abbrev pub invariant-pieces : goal.invariant-pieces
invariant-pieces l = l.text.items ++ forward_bytes (drop l.piece-index l.pieces) ≡ l.fn.text.items ++ forward_bytes l.pieces
