use Rattle.std.proofs.Common.{append_assoc, length-append, rules}
use Rattle.yq_journal.proofs.PieceLaws.{forward_bytes_push, backward_bytes_push, part_long, parted_at}
use Rattle.yq_journal.proofs.piece_table.pieces.move_back.Goals as goal

pub returns-then-left-piece-clause-bytes : goal.returns-then-left-piece-clause-bytes
returns-then-left-piece-clause-bytes c = search (rules, forward_bytes_push, backward_bytes_push, parted_at, append_assoc)

pub returns-then-left-piece-clause-count : goal.returns-then-left-piece-clause-count
returns-then-left-piece-clause-count c = search (rules, forward_bytes_push, length-append, part_long)

pub pieces-preserved : goal.pieces-preserved
pieces-preserved c = search (rules, forward_bytes_push, backward_bytes_push, length-append, append_assoc)
