use Rattle.std.{proofs.Common.rules, proofs.lemmas.Bool.both_ways, proofs.lemmas.List.nil_from_length}
use Rattle.yq_journal.proofs.PieceLaws.{begins, begun_same, backward_bytes_push, none_there, passed}
use Rattle.yq_journal.proofs.piece_table.pieces.take_off.Goals as goal

pub returns-in_default-clause-other : goal.returns-in_default-clause-other
returns-in_default-clause-other c = search (rules, nil_from_length, none_there, c.pieces.invariant)

pub returns-then-left-piece-clause-there : goal.returns-then-left-piece-clause-there
returns-then-left-piece-clause-there c = search (rules, backward_bytes_push, begun_same, c.pieces.invariant)

pub returns-then-left-piece-clause-other : goal.returns-then-left-piece-clause-other
returns-then-left-piece-clause-other c = search (rules, backward_bytes_push, both_ways, begins, c.pieces.invariant)

pub returns-then-not-is_same-clause-other : goal.returns-then-not-is_same-clause-other
returns-then-not-is_same-clause-other c = search (rules, backward_bytes_push, both_ways, begins, c.pieces.invariant)

pub pieces-preserved : goal.pieces-preserved
pieces-preserved c = search (rules, backward_bytes_push, passed, c.pieces.invariant)
