use Rattle.std.proofs.Common.{length, sym, ap, ◌∙◌, arith, rules}
use Rattle.yq_text.specs.Halves.{whole}
use Rattle.yq_places.proofs.FirstLaws.{none_less, some_less, step_less}
use Rattle.yq_places.proofs.places.halves.less_spaces_len.Goals as goal

pub spaces-preserved : goal.spaces-preserved
spaces-preserved c = search (rules, step_less)

pub returns-else-byte_at-eq32-clause-value : goal.returns-else-byte_at-eq32-clause-value
returns-else-byte_at-eq32-clause-value c = search (rules, some_less)

pub returns-else-byte_at-eq32-clause-within : goal.returns-else-byte_at-eq32-clause-within
returns-else-byte_at-eq32-clause-within c = c.spaces.invariant.within

pub returns-after-spaces-clause-value : goal.returns-after-spaces-clause-value
returns-after-spaces-clause-value c = sym (none_less (whole c.args.text) c.spaces.end (omega (arith, c.spaces-test.false))) ∙ ap length c.spaces.invariant.so_far
