use Rattle.std.{proofs.lemmas.Grind.common_steps, proofs.Common.{arith, length, length-append, ◌-◌, take, drop, rules}}
use Rattle.yq_text.{specs.Segments.segments_of, proofs.FirstSegment.{keeps_first, later, none_left}, proofs.LoopLaws.front_more}
use Rattle.yq_text.proofs.changing.from_first.Goals as goal

pub overflow_add-len : goal.overflow_add-len
overflow_add-len c = search (rules, keeps_first, length-append, later)

pub segments-preserved : goal.segments-preserved
segments-preserved c = record {
  front = grind (arith, common_steps);
  first = grind (arith, common_steps);
  text = λ h. c.segments.invariant.text (front_more (segments_of c.segments.rest.now) (segments_of (take (length c.segments.rest.now - 1) (drop 1 c.segments.rest.now))) _ c.text_len-len.ensures.text h (grind (arith, common_steps)));
  all = grind (arith, common_steps);
}

pub returns : goal.returns
returns c = search (rules, none_left)
