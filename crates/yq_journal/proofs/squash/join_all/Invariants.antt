use Rattle.std.proofs.Common.{◌≡◌, take}
use Rattle.yq_journal.specs.Record.{IsRecord, records_joined}
use Rattle.yq_journal.proofs.squash.join_all.Given as goal

abbrev pub invariant-rest : goal.invariant-rest
invariant-rest l = record {
  same : l.parts ≡ records_joined l.first (take l.next-index l.rest);
  valid : IsRecord l.parts;
}
