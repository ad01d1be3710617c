use Rattle.std.proofs.lemmas.Option.{IfSome_then}
use Rattle.yq_batch.proofs.gone.sole_gone.Goals as goal

pub returns : goal.returns
returns c = IfSome_then c.emptied.result c.emptied.ensures (λ z h. record { own = _; inner = c.in_ok-_own.ensures; empty = h })
