use Rattle.std.proofs.Common.{◌∙◌}
use Rattle.yq_places.{proofs.CommentPlaceLaws.run_within, proofs.RemovalPlaceLaws.{kept_is, rest_is, run_boundary}}
use Rattle.yq_places.proofs.places.removal_place.split_run.Goals as goal

pub split_at-requires : goal.split_at-requires
split_at-requires c = run_boundary c.args.gap.now c.last_run-run.result.now c.last_run-run.ensures c.last_run-run.utf8

pub returns-clause-kept : goal.returns-clause-kept
returns-clause-kept c = c.split_at.ensures.front ∙ kept_is c.args.gap.now c.last_run-run.result.now c.last_run-run.ensures

pub returns-clause-run : goal.returns-clause-run
returns-clause-run c = c.split_at.ensures.back ∙ rest_is c.args.gap.now c.last_run-run.result.now c.last_run-run.ensures

pub overflow_sub-gap : goal.overflow_sub-gap
overflow_sub-gap c = run_within c.args.gap.now c.last_run-run.result.now c.last_run-run.ensures
