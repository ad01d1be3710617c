use Rattle.std.proofs.Common.{◌≡◌, ◌+◌, ◌-◌, ◌≤◌, length}
use Rattle.yq_row_table.specs.Reading as spec
use Rattle.yq_rows.proofs.gap.gap_len.Given as goal

abbrev pub decreases-lines : goal.decreases-lines
decreases-lines l = length l.rest

abbrev pub invariant-lines : goal.invariant-lines
invariant-lines l = record { short : length l.rest ≤ length l.text; so_far : (length l.text - length l.rest) + spec.gap_len l.rest ≡ spec.gap_len l.text }
