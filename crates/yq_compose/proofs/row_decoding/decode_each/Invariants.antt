use Rattle.std.proofs.Common.{◌≤◌, ◌-◌, length}
use Rattle.yq_compose.proofs.DecodedRows.{DecodedUpto}
use Rattle.yq_compose.proofs.row_decoding.decode_each.Given as goal

abbrev pub decreases-rows : goal.decreases-rows
decreases-rows l = length l.rows.rows - l.at

abbrev pub invariant-rows : goal.invariant-rows
invariant-rows l = record { within : l.at ≤ length l.rows.rows; so_far : DecodedUpto l.text l.refers l.at l.decoded.items }
