use Rattle.std.proofs.Common.{length}
use Rattle.yq_history.proofs.diff.region.+regions_of.Given as goal

abbrev pub decreases-regions_of : goal.decreases-regions_of
decreases-regions_of l = length l.splices.now
