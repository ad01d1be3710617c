use Rattle.std.proofs.Common.{◌≡◌, ◌+◌, length}
use Rattle.yq_core.specs.declared.gap.GapPlace.TheVariants.{Token}
use Rattle.yq_core.specs.Reading as spec
use Rattle.yq_core.proofs.gap.gap_len.Given as goal

abbrev pub decreases-bytes : goal.decreases-bytes
decreases-bytes l = length l.rest

abbrev pub invariant-bytes : goal.invariant-bytes
invariant-bytes l = record {
  within : l.n + length l.rest ≡ length l.text;
  so_far : l.n + spec.flow_gap_len l.before l.rest ≡ spec.flow_gap_len Token l.text;
  is_located : spec.gap_end l.before l.rest ≡ spec.gap_end Token l.text;
}
