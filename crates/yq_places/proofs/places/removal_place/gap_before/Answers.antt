use Rattle.std.{proofs.Common.rules, proofs.lemmas.Option.slice_get_past}
use Rattle.yq_places.proofs.EntryPlaceLaws.{range_first}
use Rattle.yq_places.proofs.places.removal_place.gap_before.Goals as goal

pub returns-then-from-to : goal.returns-then-from-to
returns-then-from-to c = search (rules, range_first)

pub returns-else-i-len : goal.returns-else-i-len
returns-else-i-len c = search (rules, slice_get_past)
