use Rattle.std.proofs.Common.{◌≡◌, ◌⊎◌, false, ◌<◌, ◌≤◌, ◌-◌, length}
use Rattle.yq_documents.specs.Reading.{documents_of}
use Rattle.yq_semantics.{specs.Operations.operations_of, specs.Rooms.room_of, specs.View.update_of}
use Rattle.yq_eval.specs.PlaceView.{put_after}
use Rattle.yq_planner.specs.ValidChanges.{HoldValidValues}
use Rattle.yq_expr.specs.Parts.{rest_ops, values_limit}
use Rattle.yq_expr.proofs.plans.parts.part_of.Given as goal

abbrev pub invariant-documents : goal.invariant-documents
invariant-documents l = record {
  later : (l.at ≡ l.doc) × (l.place ≡ l.fn.place) ⊎ (l.doc < l.at);
  within : l.at ≤ length (documents_of l.documents);
  fresh : l.part.is_oversized ≡ false;
  valid : HoldValidValues l.part.ops.items;
  room : l.at ≡ l.doc → l.part.room ≡ values_limit;
  so_far : put_after (operations_of l.part.ops.items) (rest_ops (update_of l.update) (room_of l.documents) (documents_of l.documents) l.at l.place)
      ≡ rest_ops (update_of l.update) (room_of l.documents) (documents_of l.documents) l.doc l.fn.place;
}

abbrev pub decreases-documents : goal.decreases-documents
decreases-documents l = length (documents_of l.documents) - l.at
