use Rattle.yq_expr.proofs.plans.at_places.at_listed.Goals as goal

pub returns-in-Some-below-clause-changes : goal.returns-in-Some-below-clause-changes
returns-in-Some-below-clause-changes c = (rw c.in-Some-below.is at c.in_ok-below.ensures.changes)
