use Rattle.std.proofs.Common.{rules, arith, sym, ap, ◌∙◌, ◌-◌, List, Option, Some, subst, ℕ}
use Rattle.yq_core.{specs.Places.Placed, specs.PlacedReading.placed_coll, specs.Reading.name_at}
use Rattle.yq_inline.{specs.InlineAnswers.MeasuresNode, specs.Measured.{closing_byte, measured_view, past_node}}
use Rattle.yq_inline.proofs.MeasureSteps.{coll_none, coll_some, inside, items_last, leaf_deep, no_measure, no_sep, no_value, node_apart}
use Rattle.yq_inline.proofs.MeasureSteps.{node_content, node_leadless, node_nameless, node_none, node_some, part_shorter, parts_on}
use Rattle.yq_inline.{proofs.MeasureSteps.unopened, proofs.ScalarSteps.reads_same}
use Rattle.yq_inline.proofs.measuring.+ends.Goals as goal

pub measure_content-returns-in_default-clause-read : goal.measure_content-returns-in_default-clause-read
measure_content-returns-in_default-clause-read t c =
    subst (λ (o : Option (Placed × List ℕ)). MeasuresNode c.measure_leaf.result o) (leaf_deep c.args.flow c.args.spaces c.args.depth c.args.text.now c.in_default.ensures.0 c.in_default.ensures.1) c.measure_leaf.ensures.read

pub measure_content-returns-in_err-rest-clause-read : goal.measure_content-returns-in_err-rest-clause-read
measure_content-returns-in_err-rest-clause-read t c = search (rules, coll_none)

pub measure_content-returns-clause-read : goal.measure_content-returns-clause-read
measure_content-returns-clause-read t c =
    coll_some c.args.flow c.args.spaces c.args.depth c.args.text.now c.in_ok-rest.rest.now c.in-Some.keyed c.in-Some.ensures.0
    (ap (λ (u : List ℕ). past_node (placed_coll 0 c.args.depth (closing_byte c.in-Some.keyed) u)) (sym c.in-Some.ensures.1) ∙ c.in_ok-rest.ensures.read)
    ∙ ap Some (sym c.unanchored.ensures)

pub measure_value-returns-in-Some-clause-read : goal.measure_value-returns-in-Some-clause-read
measure_value-returns-in-Some-clause-read t c = c.in-Some.ensures.read c.args.depth

pub measure_parts-returns-in_err-first-clause-read : goal.measure_parts-returns-in_err-first-clause-read
measure_parts-returns-in_err-first-clause-read t c = search (rules, unopened)

pub measure_parts-returns-in-Some-clause-read : goal.measure_parts-returns-in-Some-clause-read
measure_parts-returns-in-Some-clause-read t c = search (rules, items_last)

pub measure_parts-returns-in_err-value-clause-read : goal.measure_parts-returns-in_err-value-clause-read
measure_parts-returns-in_err-value-clause-read t c = search (rules, no_value)

pub measure_parts-returns-in_err-node-clause-read : goal.measure_parts-returns-in_err-node-clause-read
measure_parts-returns-in_err-node-clause-read t c = search (rules, no_measure)

pub measure_parts-returns-in_err-rest-clause-read : goal.measure_parts-returns-in_err-rest-clause-read
measure_parts-returns-in_err-rest-clause-read t c = search (rules, no_sep)

pub measure_node-returns-in_default-clause-read : goal.measure_node-returns-in_default-clause-read
measure_node-returns-in_default-clause-read t c =
    reads_same _ c.measure_content.result _ _ (sym (node_content c.args.flow c.args.spaces c.args.depth c.args.text.now c.in_default.ensures))
    c.measure_content.ensures.read

pub measure_node-returns-in_err-rest-clause-read : goal.measure_node-returns-in_err-rest-clause-read
measure_node-returns-in_err-rest-clause-read t c = search (rules, node_nameless)

pub measure_node-returns-in_err-gap-clause-read : goal.measure_node-returns-in_err-gap-clause-read
measure_node-returns-in_err-gap-clause-read t c = search (rules, node_leadless)

pub measure_node-returns-in_err-node-clause-read : goal.measure_node-returns-in_err-node-clause-read
measure_node-returns-in_err-node-clause-read t c = search (rules, node_none)

pub measure_parts-each-init : goal.measure_parts-each-init
measure_parts-each-init t c = record {
  utf8 = search rules;
  within = c.in_ok-first.ensures.shorter;
  mark = search rules;
  so_far = inside c.args.depth (closing_byte c.args.keyed) c.args.text.now c.in_ok-first.first.now c.in_ok-first.ensures.read;
}

pub measure_parts-each-smaller : goal.measure_parts-each-smaller
measure_parts-each-smaller t c =
    let node = c.in_ok-node.node in
    part_shorter c.args.keyed (c.args.depth - 1) c.each.rest.now c.in_ok-value.value.now node.rest.now _ node.anchored node.kind c.in_ok-value.ensures.read c.in_ok-value.ensures.after_key c.in_ok-node.ensures.read
    c.in_ok-node.ensures.shorter c.in_ok-rest.ensures.read c.in_ok-rest.ensures.shorter

pub measure_parts-each-preserved : goal.measure_parts-each-preserved
measure_parts-each-preserved t c = record {
  utf8 = search rules;
  within = omega (arith, c.in_ok-rest.ensures.shorter, c.in_ok-node.ensures.shorter, c.in_ok-value.ensures.shorter, c.each.invariant.within);
  mark = c.each.invariant.mark;
  so_far = parts_on c.args.keyed (c.args.depth - 1) c.each.rest.now c.in_ok-value.value.now _ (measured_view c.in_ok-node.node)
      (rw c.each.invariant.mark at c.in_default.ensures) c.in_ok-value.ensures.read c.in_ok-node.ensures.read c.in_ok-rest.ensures.read
      ∙ c.each.invariant.so_far;
}

pub measure_node-returns-clause-read : goal.measure_node-returns-clause-read
measure_node-returns-clause-read t c =
    node_some c.args.flow c.args.spaces c.args.depth c.args.text.now c.in_ok-rest.field-0-0.now c.in_ok-rest.rest.now c.in_ok-gap.gap.now
    c.in_ok-gap.rest.now c.in_ok-node.node.rest.now c.in_ok-node.node.anchored c.in_ok-node.node.kind c.in-Some.ensures.0
    (ap name_at (sym c.in-Some.ensures.1) ∙ c.in_ok-rest.ensures.read) c.in_ok-gap.ensures.read c.in_ok-node.ensures.read
    (sym c.may_follow.ensures ∙ c.if-not-may_follow.false)

pub measure_node-returns-then-not-may_follow-clause-read : goal.measure_node-returns-then-not-may_follow-clause-read
measure_node-returns-then-not-may_follow-clause-read t c =
    node_apart c.args.flow c.args.spaces c.args.depth c.args.text.now c.in_ok-rest.field-0-0.now c.in_ok-rest.rest.now c.in_ok-gap.gap.now
    c.in_ok-gap.rest.now c.in_ok-node.node.rest.now c.in_ok-node.node.anchored c.in_ok-node.node.kind c.in-Some.ensures.0
    (ap name_at (sym c.in-Some.ensures.1) ∙ c.in_ok-rest.ensures.read) c.in_ok-gap.ensures.read c.in_ok-node.ensures.read
    (sym c.may_follow.ensures ∙ c.if-not-may_follow.true)

pub measure_node-fault-requires-text-rest : goal.measure_node-fault-requires-text-rest
measure_node-fault-requires-text-rest t c κs = search c.requires
