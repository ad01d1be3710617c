use Rattle.yq_row_table.proofs.KeptReads.{front_kept}
use Rattle.yq_row_table.proofs.places.Places.kept.Goals as goal

pub returns-then-i-len : goal.returns-then-i-len
returns-then-i-len c = front_kept c.args.self.now c.args.i c.index.result.now (rw c.len.ensures at c.if-i-len.true) c.index.ensures
