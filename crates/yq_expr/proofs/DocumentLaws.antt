-- A document's root, and places that a pipe finds from it.
use Rattle.std.proofs.Common.{◌≡◌, ◌<◌, List, length, Some, sym, subst}
use Rattle.yq_core.specs.Shapes.{IsTree}
use Rattle.yq_documents.{specs.Documents.{Document, document_parts}, specs.Located.document_at, specs.Ready.TextIsReady}
use Rattle.yq_documents.specs.Reading.{cut_of, documents_of}
use Rattle.yq_nodes.specs.Nodes.{node_of}
use Rattle.yq_semantics.{specs.Judgement.gives, specs.Pipes.places, specs.Program.Stage, proofs.updates.PipePlaces.places_are_there}
use Rattle.yq_eval.{specs.FoundView.found_places, specs.TreeScalars.HasScalars, proofs.MatchLaws.{document_there, places_have}}
use Rattle.yq_eval.proofs.TreeScalarLaws.{documents_have}
use Rattle.yq_expr.{specs.DocumentPlaces.{AreInDocument, IsDocumentRoot}, specs.declared.plans.document.DocumentPlaces.DocumentPlaces}
use Rattle.yq_expr.specs.declared.plans.document.DocumentRoot.{DocumentRoot}

-- a document of a text that is ready
pub document_root : (d : DocumentRoot) → TextIsReady d.documents.now → d.doc < length (documents_of d.documents.now) →
    ((x : Document) → document_at d.documents.now d.doc ≡ Some x → node_of d.root ≡ x.root) → IsDocumentRoot d
document_root d ready within is =
    let x = document_there (documents_of d.documents.now) d.doc within in
    record {
      scalars = subst HasScalars (sym (is x.0 x.1)) (documents_have (document_parts (cut_of d.documents.now)) d.doc x.0 x.1);
      tree = subst IsTree (sym (is x.0 x.1)) (ready d.doc x.0 x.1).tree;
    }

-- places that a pipe finds from the root
pub found_in : (ps : DocumentPlaces) (pipe : List Stage) → IsDocumentRoot ps.document →
    places ps.document.doc pipe (node_of ps.document.root) ≡ gives (found_places ps.places) → AreInDocument ps
found_in ps pipe h found = record {
  root = h.scalars;
  scalars = places_have ps.document.doc pipe (node_of ps.document.root) (found_places ps.places) h.scalars found;
  within = (places_are_there ps.document.doc pipe (node_of ps.document.root) (found_places ps.places) h.tree found).1;
}
