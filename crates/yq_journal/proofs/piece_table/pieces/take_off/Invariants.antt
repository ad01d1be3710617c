use Rattle.std.{proofs.Common.{◌≡◌, ◌++◌, ℕ, List, length}, specs.Prelude.◌↔◌}
use Rattle.yq_journal.specs.PieceTable.{backward_bytes}
use Rattle.yq_journal.proofs.piece_table.pieces.take_off.Given as goal

abbrev pub invariant-pieces : goal.invariant-pieces
invariant-pieces l = (c : List ℕ) → (backward_bytes l.fn.after.items ≡ l.bytes ++ c) ↔ (backward_bytes l.after.items ≡ l.left ++ c)

abbrev pub decreases-pieces : goal.decreases-pieces
decreases-pieces l = length l.after.items
