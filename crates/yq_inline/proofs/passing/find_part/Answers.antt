use Rattle.std.proofs.Common.{◌≡◌, ◌-◌, None, Some, arith, false, option_map, refl, sym, true, ap, ◌∙◌}
use Rattle.yq_core.specs.Entries.{tree_step}
use Rattle.yq_inline.specs.Neighbours.{from_read, passed_view, with_index}
use Rattle.yq_inline.proofs.FirstParts.{by_first, from_done, from_further, one_less}
use Rattle.yq_inline.proofs.passing.find_part.Goals as goal

pub each-init : goal.each-init
each-init c = record { keyed = refl; so_far = ap (λ s. from_read s None c.args.parts) c.index_of-left.ensures }

pub returns-then-is_here : goal.returns-then-is_here
returns-then-is_here c = record {
  keyed = c.each.invariant.keyed;
  first = c.leading_key.ensures.first;
  found = sym c.each.invariant.so_far
      ∙ by_first c.each.rest c.leading_key.result c.leading_key.ensures (with_index c.each.left (tree_step c.args.step.now)) (option_map passed_view c.each.before) true (sym c.is_here.ensures ∙ c.if-is_here.true);
}

pub each-preserved : goal.each-preserved
each-preserved c =
    let first = c.leading_key.ensures.first in
    let h = c.pass.ensures first in
    let s = with_index c.each.left (tree_step c.args.step.now) in
    let less : c.saturating_sub-left.result ≡ c.each.left - 1 = omega (arith, c.saturating_sub-left.ensures) in
    record {
      keyed = h.keyed ∙ c.each.invariant.keyed;
      so_far = ap (λ r. from_read r (Some (passed_view c.pass.result.0)) c.pass.result.1) (ap (λ n. with_index n (tree_step c.args.step.now)) less ∙ sym (one_less c.each.left (tree_step c.args.step.now)))
          ∙ (sym (from_further c.each.rest c.leading_key.result.1.now first c.pass.result h s)
          ∙ (sym (by_first c.each.rest c.leading_key.result c.leading_key.ensures s (option_map passed_view c.each.before) false (sym c.is_here.ensures ∙ c.if-is_here.false)) ∙ c.each.invariant.so_far));
    }

pub returns : goal.returns
returns c = sym c.each.invariant.so_far ∙ from_done c.each.rest (sym c.are_none.ensures ∙ c.each-test.false) (with_index c.each.left (tree_step c.args.step.now)) (option_map passed_view c.each.before)
