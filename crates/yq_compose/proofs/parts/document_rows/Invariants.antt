use Rattle.std.proofs.Common.{◌≡◌, ◌≤◌, ◌-◌, ◌++◌, ◌||◌, not, length, drop}
use Rattle.yq_documents.specs.PartReading.{first_rows, some_begin}
use Rattle.yq_compose.specs.Places.{all_document_rows, documents_view}
use Rattle.yq_compose.proofs.parts.document_rows.Given as goal

abbrev pub decreases-parts : goal.decreases-parts
decreases-parts l = length l.rows.bounds - l.at

abbrev pub invariant-parts : goal.invariant-parts
invariant-parts l = record {
  within : l.at ≤ length l.rows.bounds;
  so_far : documents_view l.documents.items ++ all_document_rows l.rows.rows l.is_document l.from (drop l.at l.rows.bounds) ≡ all_document_rows l.rows.rows (first_rows l.rows.bounds || not (some_begin l.rows.bounds)) 0 l.rows.bounds;
}
