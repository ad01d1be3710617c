use Rattle.std.proofs.Common.{◌≡◌, drop}
use Rattle.yq_documents.specs.PartReading.{number_in}
use Rattle.yq_documents.proofs.parts.number_in.Given as goal

abbrev pub invariant-parts : goal.invariant-parts
invariant-parts l = number_in l.first l.i 0 l.rows.bounds ≡ number_in l.is_document l.left l.at (drop l.at l.rows.bounds)
