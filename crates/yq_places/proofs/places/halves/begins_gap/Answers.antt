use Rattle.std.proofs.Common.{arith, length-append, rules}
use Rattle.yq_places.proofs.HalvesLaws.{gap_break, gap_hash}
use Rattle.yq_places.proofs.places.halves.begins_gap.Goals as goal

pub returns-then-is_break : goal.returns-then-is_break
returns-then-is_break c = search (rules, gap_break)

pub returns-else-is_break : goal.returns-else-is_break
returns-else-is_break c = search (rules, gap_hash)

pub len-requires : goal.len-requires
len-requires c = omega (arith, length-append c.args.text.front.now c.args.text.back.now)
