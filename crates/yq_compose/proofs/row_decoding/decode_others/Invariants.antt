use Rattle.std.proofs.Common.{length}
use Rattle.yq_compose.proofs.WordRowLaws.{OthersDecoded}
use Rattle.yq_compose.proofs.row_decoding.decode_others.Given as goal

abbrev pub decreases-rows : goal.decreases-rows
decreases-rows l = length l.left

abbrev pub invariant-rows : goal.invariant-rows
invariant-rows l = OthersDecoded l.text l.refers l.rows.rows l.left l.decoded.items
