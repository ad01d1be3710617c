use Rattle.std.proofs.Common.{◌≡◌, ◌≢◌, ◌≤◌, None, take, length}
use Rattle.yq_text.specs.Splice.{all_done, flipped, lengths_done}
use Rattle.yq_journal.specs.PieceTable.{HasCursor, table_bytes}
use Rattle.yq_journal.proofs.piece_table.PieceTable.undo_all.Given as goal

abbrev pub invariant-splices : goal.invariant-splices
invariant-splices l = record {
  within : l.left ≤ length l.splices;
  placed : HasCursor l.self;
  lie : lengths_done (flipped (take l.left l.splices)) (length (table_bytes l.self)) ≢ None;
  done : all_done (flipped (take l.left l.splices)) (table_bytes l.self) ≡ all_done (flipped l.splices) (table_bytes l.fn.self);
}

abbrev pub decreases-splices : goal.decreases-splices
decreases-splices l = l.left
