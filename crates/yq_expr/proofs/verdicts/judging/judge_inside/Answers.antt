use Rattle.std.proofs.Common.{map}
use Rattle.yq_semantics.specs.View.{stage_of}
use Rattle.yq_expr.proofs.DocumentLaws.{found_in}
use Rattle.yq_expr.proofs.verdicts.judging.judge_inside.Goals as goal

pub judge_at-requires : goal.judge_at-requires
judge_at-requires c = found_in _ (map stage_of c.left.result.now) c.requires c.in_ok-places.ensures
