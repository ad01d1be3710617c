use Rattle.std.proofs.Common.{◌∙◌}
use Rattle.yq_splice.proofs.others.with_others.Goals as goal

pub runs-preserved : goal.runs-preserved
runs-preserved c = record {
  whole = c.in_ok-together.ensures.ok.whole ∙ c.runs.invariant.whole;
  serves = c.in_ok-together.ensures.ok.serves;
}
