use Rattle.std.proofs.Common.{◌≡◌, ◌≤◌, length, map}
use Rattle.yq_eval.specs.PlaceView.{places_of}
use Rattle.yq_semantics.specs.View.{stage_of}
use Rattle.yq_semantics.specs.Pipes as spec
use Rattle.yq_eval.proofs.matching.pipe.pipe_on.Given as goal

abbrev pub invariant-parts : goal.invariant-parts
invariant-parts l = record {
  short : length l.rest ≤ length l.pipe;
  so_far : spec.pipe_on l.doc (map stage_of l.rest) (places_of l.places.items) ≡ spec.pipe_on l.doc (map stage_of l.pipe) (places_of l.fn.start.items);
}

abbrev pub decreases-parts : goal.decreases-parts
decreases-parts l = length l.rest
