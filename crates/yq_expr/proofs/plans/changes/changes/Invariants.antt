use Rattle.std.proofs.Common.{◌≡◌, drop}
use Rattle.yq_documents.specs.Reading.{documents_of}
use Rattle.yq_semantics.{specs.Changes.{changes_from, update_changes}, specs.Meaning.roots_of, specs.Rooms.room_of, specs.View.update_of}
use Rattle.yq_planner.{specs.ChangeView.all_changes_under, specs.ValidChanges.AreAllValid}
use Rattle.yq_eval.specs.PlaceView.{put_after}
use Rattle.yq_expr.proofs.plans.changes.changes.Given as goal

abbrev pub invariant-documents : goal.invariant-documents
invariant-documents l = record {
  valid : AreAllValid l.changes.items;
  so_far : put_after (all_changes_under l.changes.items) (changes_from (update_of l.update) (room_of l.documents) l.doc (roots_of (drop l.doc (documents_of l.documents))))
      ≡ update_changes (update_of l.update) (room_of l.documents) (roots_of (documents_of l.documents));
}
