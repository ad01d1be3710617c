use Rattle.yq_batch.{specs.Runs.IsFoundHead, proofs.HeadRunLaws.some_is}
use Rattle.yq_batch.proofs.together.how_carried.Goals as goal

pub returns-in-Some : goal.returns-in-Some
returns-in-Some c = c.how_in_head.ensures c.args.cut.now (some_is (IsFoundHead c.args.cut.now) c.in_ok-found.found c.in-Some.head c.in_ok-found.ensures c.in-Some.is)

pub returns : goal.returns
returns c = c.how_outside.ensures c.args.cut.now
