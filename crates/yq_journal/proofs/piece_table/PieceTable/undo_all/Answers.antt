use Rattle.std.proofs.Common.{rules}
use Rattle.yq_journal.{proofs.RecordLaws.flipped_step, proofs.StepLaws.{first_lies, is_done, not_done, others_lie}}
use Rattle.yq_journal.proofs.piece_table.PieceTable.undo_all.Goals as goal

pub exchange-requires-clause-lies : goal.exchange-requires-clause-lies
exchange-requires-clause-lies c = search (rules, flipped_step, first_lies, c.splices.invariant.lie)

pub returns-then-not-branch : goal.returns-then-not-branch
returns-then-not-branch c = search (rules, flipped_step, not_done)

pub splices-preserved : goal.splices-preserved
splices-preserved c = search (rules, flipped_step, is_done, others_lie, c.in_ok-exchange.ensures.placed, c.splices.invariant.lie)
