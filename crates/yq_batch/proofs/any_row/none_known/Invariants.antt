use Rattle.yq_batch.specs.OpenRows.{NoneKnown}
use Rattle.yq_batch.proofs.any_row.none_known.Given as goal

abbrev pub invariant-each : goal.invariant-each
invariant-each l = NoneKnown l.changes.items
