use Rattle.std.proofs.Common.{rules}
use Rattle.yq_outline.proofs.LengthLaws.{row_fits, view_small}
use Rattle.yq_places.proofs.places.row_place.row_stop.Goals as goal

pub row_len-requires : goal.row_len-requires
row_len-requires c = search (rules, row_fits, view_small)

pub overflow_add-result : goal.overflow_add-result
overflow_add-result c = search (rules, row_fits, view_small)
