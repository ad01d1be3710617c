use Rattle.yq_row_table.proofs.KeptReads.{front_placed}
use Rattle.yq_row_table.proofs.places.Places.place.Goals as goal

pub returns-then-i-len : goal.returns-then-i-len
returns-then-i-len c = front_placed c.args.self.now c.args.len c.args.i c.index.result.now (rw c.len.ensures at c.if-i-len.true) c.index.ensures
