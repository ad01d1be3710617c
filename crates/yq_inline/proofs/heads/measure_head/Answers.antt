use Rattle.std.proofs.Common.{false}
use Rattle.yq_inline.proofs.WholeCollections.{passed_measured}
use Rattle.yq_inline.proofs.heads.measure_head.Goals as goal

pub returns-in-Some-clause-read : goal.returns-in-Some-clause-read
returns-in-Some-clause-read c = passed_measured c.in-Some.passed.nested c.args.text.now c.in-Some.passed.rest.now c.in-Some.ensures.passed false c.args.spaces c.in-Some.ensures.nested

pub returns-in-Some-clause-passed : goal.returns-in-Some-clause-passed
returns-in-Some-clause-passed c = λ more. (c.in-Some.ensures.nested, c.in-Some.ensures.passed)
