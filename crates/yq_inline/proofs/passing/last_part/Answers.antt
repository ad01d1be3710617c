use Rattle.std.proofs.Common.{option_map, sym, ◌∙◌}
use Rattle.yq_inline.{specs.Neighbours.passed_view, proofs.FirstParts.{last_done, last_further}}
use Rattle.yq_inline.proofs.passing.last_part.Goals as goal

pub each-preserved : goal.each-preserved
each-preserved c =
    sym (last_further c.each.rest c.leading_key.result.1.now c.leading_key.ensures.first c.pass.result (c.pass.ensures c.leading_key.ensures.first) (option_map passed_view c.each.last)) ∙ c.each.invariant

pub returns : goal.returns
returns c = sym (last_done c.each.rest (sym c.are_none.ensures ∙ c.each-test.false) (option_map passed_view c.each.last)) ∙ c.each.invariant
