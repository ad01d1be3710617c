use Rattle.std.proofs.Common.{◌≡◌, drop}
use Rattle.yq_documents.specs.Reading.{documents_of}
use Rattle.yq_planner.specs.Substitutes.{verdict}
use Rattle.yq_semantics.{specs.Changes.{changes_from, update_changes}, specs.Meaning.roots_of, specs.Rooms.room_of, specs.View.update_of}
use Rattle.yq_expr.proofs.verdicts.judging.judge_update.Given as goal

abbrev pub invariant-documents : goal.invariant-documents
invariant-documents l =
    verdict (changes_from (update_of l.update) (room_of l.documents) l.doc (roots_of (drop l.doc (documents_of l.documents))))
    ≡ verdict (update_changes (update_of l.update) (room_of l.documents) (roots_of (documents_of l.documents)))
