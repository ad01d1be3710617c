use Rattle.std.proofs.Common.{arith}
use Rattle.yq_core.proofs.BlockSteps.{at_end, some_left}
use Rattle.yq_places.proofs.CommentPlaceLaws.{no_run, run_within, some_run}
use Rattle.yq_places.proofs.places.comment_place.gap_comment.Goals as goal

pub returns-then-is_empty : goal.returns-then-is_empty
returns-then-is_empty c = no_run c.args.start c.args.gap.now c.last_run-run.result.now c.last_run-run.ensures (at_end _ _ c.is_empty.ensures c.if-is_empty.true)

pub overflow_sub-start : goal.overflow_sub-start
overflow_sub-start c = omega (arith, run_within c.args.gap.now c.last_run-run.result.now c.last_run-run.ensures)

pub returns : goal.returns
returns c = some_run c.args.start c.args.gap.now c.last_run-run.result.now c.last_run-run.ensures (some_left _ _ c.is_empty.ensures c.if-is_empty.false)
