use Rattle.std.proofs.Common.{◌≡◌, ◌≤◌, ◌-◌, length, drop}
use Rattle.yq_documents.specs.PartReading.{some_begin}
use Rattle.yq_documents.proofs.parts.some_begin.Given as goal

abbrev pub decreases-parts : goal.decreases-parts
decreases-parts l = length l.rows.bounds - l.at

abbrev pub invariant-parts : goal.invariant-parts
invariant-parts l = record { within : l.at ≤ length l.rows.bounds; so_far : some_begin (drop l.at l.rows.bounds) ≡ some_begin l.rows.bounds }
