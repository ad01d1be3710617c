use Rattle.std.proofs.Common.{◌≡◌, ◌+◌, length, true}
use Rattle.yq_core.specs.BlockReading as spec
use Rattle.yq_core.proofs.block_lines.raw_len.Given as goal

abbrev pub decreases-each : goal.decreases-each
decreases-each l = length l.rest

abbrev pub invariant-each : goal.invariant-each
invariant-each l = record {
  within : l.scanned + length l.rest ≡ length l.text;
  kept : l.keep ≡ true → l.within ≡ l.scanned;
  so_far : spec.raw_length l.within l.scanned (spec.len_at l.keep l.indent l.rest) ≡ spec.len_at l.keep l.indent l.text;
}
