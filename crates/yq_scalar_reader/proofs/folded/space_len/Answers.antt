use Rattle.std.proofs.Common.{arith, rules}
use Rattle.yq_core.{specs.Plain.no_gap, proofs.Across.{rest_length, upto_next, upto_none}, proofs.Upto.upto_here}
use Rattle.yq_scalar_reader.proofs.folded.space_len.Goals as goal

pub returns-then-not-is_space : goal.returns-then-not-is_space
returns-then-not-is_space c = search (rules, upto_here)

pub each-preserved : goal.each-preserved
each-preserved c = search (rules, rest_length, upto_next)

pub returns : goal.returns
returns c = omega (arith, upto_none no_gap c.each.rest.now c.in_default.len_below, c.each.invariant.so_far)
