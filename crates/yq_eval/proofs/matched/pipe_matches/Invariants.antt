use Rattle.std.proofs.Common.{◌≡◌, drop, map}
use Rattle.yq_documents.specs.Reading.{documents_of}
use Rattle.yq_semantics.{specs.Copies.matches_from, specs.View.stage_of}
use Rattle.yq_eval.{specs.MatchView.matches_of, specs.PlaceView.put_after}
use Rattle.yq_eval.proofs.matched.pipe_matches.Given as goal

abbrev pub invariant-documents : goal.invariant-documents
invariant-documents l =
    put_after (matches_of l.matches.items) (matches_from l.doc (map stage_of l.pipe) (drop l.doc (documents_of l.documents)))
    ≡ matches_from 0 (map stage_of l.pipe) (documents_of l.documents)
