use Rattle.std.proofs.Common.{arith, sym, ◌∙◌}
use Rattle.yq_scalar_reader.proofs.folded.trimmed_len.Goals as goal

pub each-preserved : goal.each-preserved
each-preserved c = record { within = omega (arith, c.each.invariant.within) }

pub returns-clause-within : goal.returns-clause-within
returns-clause-within c = c.each.invariant.within

pub returns-clause-last : goal.returns-clause-last
returns-clause-last c = sym c.is_blank_before.ensures.value ∙ c.each-test.false
