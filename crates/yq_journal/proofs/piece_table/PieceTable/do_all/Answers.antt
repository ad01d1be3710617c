use Rattle.std.proofs.Common.{rules}
use Rattle.yq_journal.proofs.StepLaws.{drop_next, is_done, others_lie}
use Rattle.yq_journal.proofs.piece_table.PieceTable.do_all.Goals as goal

pub splices-preserved : goal.splices-preserved
splices-preserved c = search (rules, drop_next, is_done, others_lie, c.in_ok-exchange.ensures.placed, c.splices.invariant.lie)
