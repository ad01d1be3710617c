use Rattle.std.proofs.Common.{◌≡◌, ◌≤◌, ◌-◌, length, drop}
use Rattle.yq_documents.{specs.Documents.document_parts, specs.Reading.cut_of}
use Rattle.yq_compose.specs.Places.{all_sound}
use Rattle.yq_compose.proofs.reading.check_documents.Given as goal

abbrev pub decreases-documents : goal.decreases-documents
decreases-documents l = length l.documents - l.at

abbrev pub invariant-documents : goal.invariant-documents
invariant-documents l = record {
  within : l.at ≤ length l.documents;
  so_far : all_sound (drop l.at (document_parts (cut_of l.text))) ≡ all_sound (document_parts (cut_of l.text));
}
