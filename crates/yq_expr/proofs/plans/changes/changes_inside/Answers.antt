use Rattle.std.proofs.Common.{map}
use Rattle.yq_semantics.specs.View.{stage_of}
use Rattle.yq_expr.proofs.DocumentLaws.{found_in}
use Rattle.yq_expr.proofs.plans.changes.changes_inside.Goals as goal

pub changes_at-requires : goal.changes_at-requires
changes_at-requires c = found_in _ (map stage_of c.left.result.now) c.requires c.in_ok-places.ensures
