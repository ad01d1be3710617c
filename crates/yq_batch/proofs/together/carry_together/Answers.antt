use Rattle.std.proofs.Common.{List, ℕ, subst}
use Rattle.yq_batch.{specs.Together.IsHow, proofs.HeadRunLaws.some_is}
use Rattle.yq_batch.proofs.together.carry_together.Goals as goal

pub put_in_heads-requires-clause-head : goal.put_in_heads-requires-clause-head
put_in_heads-requires-clause-head c =
    let t : List ℕ = c.args.cut.now in
    subst (IsHow t) c.in-InHeads.is (some_is (IsHow t) c.in_ok-found.found c.in-Some.how c.in_ok-found.ensures c.in-Some.is)

pub remove_in_heads-requires-clause-head : goal.remove_in_heads-requires-clause-head
remove_in_heads-requires-clause-head c =
    let t : List ℕ = c.args.cut.now in
    subst (IsHow t) c.in-OutOfHeads.is (some_is (IsHow t) c.in_ok-found.found c.in-Some.how c.in_ok-found.ensures c.in-Some.is)
