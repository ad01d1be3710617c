use Rattle.std.proofs.Common.{◌≡◌, ◌≤◌, ◌+◌, ◌++◌, length}
use Rattle.yq_journal.specs.PieceTable.{forward_bytes, backward_bytes}
use Rattle.yq_journal.proofs.piece_table.pieces.move_back.Given as goal

abbrev pub invariant-pieces : goal.invariant-pieces
invariant-pieces l = record {
  bytes : forward_bytes l.before.items ++ backward_bytes l.after.items ≡ forward_bytes l.fn.before.items ++ backward_bytes l.fn.after.items;
  count : length (forward_bytes l.before.items) + l.fn.count ≡ length (forward_bytes l.fn.before.items) + l.left;
  within : l.left ≤ length (forward_bytes l.before.items);
}

abbrev pub decreases-pieces : goal.decreases-pieces
decreases-pieces l = length l.before.items
