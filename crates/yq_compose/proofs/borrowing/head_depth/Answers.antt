use Rattle.yq_compose.proofs.borrowing.head_depth.Goals as goal

pub returns : goal.returns
returns c = (c.in_ok-passed.ensures.nested, (c.in_ok-passed.passed.rest.now, c.in_ok-passed.ensures.passed))
