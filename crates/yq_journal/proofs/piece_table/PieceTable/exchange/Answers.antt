use Rattle.std.proofs.Common.{◌+◌, ◌≤◌, length, arith, length-append, rules}
use Rattle.yq_journal.{specs.PieceTable.{table_bytes, splice_of_parts}, proofs.PieceLaws.{exchanged, forward_bytes_push, not_exchanged}}
use Rattle.yq_journal.proofs.StepLaws.{lies}
use Rattle.yq_journal.proofs.piece_table.PieceTable.exchange.Goals as goal

pub seek-requires-clause-within : goal.seek-requires-clause-within
seek-requires-clause-within c =
    let fits : c.args.at + length c.args.old.now ≤ length (table_bytes c.args.self.now) =
    (lies (splice_of_parts c.args.at c.args.old.now c.args.new.now) (length (table_bytes c.args.self.now)) c.requires.lies).fits in
    omega (arith, fits)

pub returns-then-not-branch-clause-done : goal.returns-then-not-branch-clause-done
returns-then-not-branch-clause-done c = search (rules, not_exchanged, c.in_ok-take_off.ensures.other)

pub overflow_add-self : goal.overflow_add-self
overflow_add-self c =
    let l = lies (splice_of_parts c.args.at c.args.old.now c.args.new.now) (length (table_bytes c.args.self.now)) c.requires.lies in
    let fits = l.fits in
    search rules

pub returns-clause-done : goal.returns-clause-done
returns-clause-done c = search (rules, forward_bytes_push, exchanged, c.in_ok-take_off.ensures.there)

pub returns-clause-placed : goal.returns-clause-placed
returns-clause-placed c = search (rules, forward_bytes_push, length-append)
