use Rattle.std.proofs.Common.{[], ap, arith, refl, reverse}
use Rattle.yq_row_table.proofs.places.Places.new.Goals as goal

pub returns : goal.returns
returns c = record {
  before = [];
  after = [];
  placed = record { split_is = refl; front_are = c.new.ensures.items; after_are = ap reverse c.new-2.ensures.items; ends_are = c.new-3.ensures; texts = tt; small = omega arith };
  rows_view_is = refl;
}
