use Rattle.std.proofs.Common.{◌≡◌, ◌≢◌, None, drop, length}
use Rattle.yq_text.specs.Splice.{all_done, lengths_done}
use Rattle.yq_journal.specs.PieceTable.{HasCursor, table_bytes}
use Rattle.yq_journal.proofs.piece_table.PieceTable.do_all.Given as goal

abbrev pub invariant-splices : goal.invariant-splices
invariant-splices l = record {
  placed : HasCursor l.self;
  lie : lengths_done (drop l.splice-index l.splices) (length (table_bytes l.self)) ≢ None;
  done : all_done (drop l.splice-index l.splices) (table_bytes l.self) ≡ all_done l.splices (table_bytes l.fn.self);
}
