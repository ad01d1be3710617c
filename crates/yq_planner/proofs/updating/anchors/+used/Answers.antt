use Rattle.std.proofs.Common.{rules, sym, ap, ◌∙◌, arith}
use Rattle.yq_core.specs.Keys.{deepest}
use Rattle.yq_nodes.{specs.Children.left_of, specs.Nodes.{label_of, node_of}}
use Rattle.yq_outline.specs.Counts.{count}
use Rattle.yq_planner.{proofs.ChildDepths.child_depth, proofs.UsedLaws.{used_own, used_inside, used_more, used_here}}
use Rattle.yq_planner.proofs.updating.anchors.+used.Goals as goal

pub is_used_in-returns-then-is_named : goal.is_used_in-returns-then-is_named
is_used_in-returns-then-is_named t c = λ names h. used_own names (node_of c.args.node.now) c.is_named.result (c.is_named.ensures names h) c.if-is_named.true

pub is_used_in-returns-else-is_named : goal.is_used_in-returns-else-is_named
is_used_in-returns-else-is_named t c = λ names h.
    used_inside names (node_of c.args.node.now) c.is_used_inside.result (sym (c.is_named.ensures names h) ∙ c.if-is_named.false) (c.is_used_inside.ensures names h)

pub is_used_inside-returns-then-is_used_in : goal.is_used_inside-returns-then-is_used_in
is_used_inside-returns-then-is_used_in t c = λ names h.
    used_here names (left_of c.each.children) (left_of c.next.new.self) (label_of c.in-Some.child) (node_of c.in-Some.child) _
    c.in-Some.ensures.steps (sym (c.is_used_in.ensures names h) ∙ c.if-is_used_in.true) (c.each.invariant.so_far names h)

pub is_used_inside-each-preserved : goal.is_used_inside-each-preserved
is_used_inside-each-preserved t c =
    let is = c.in-Some.ensures.steps in
    let counted = ap count is in
    let reaches = ap deepest is in
    record {
      counted = omega (arith, counted);
      deep = omega (arith, reaches);
      so_far = λ names h. used_more names (left_of c.each.children) (left_of c.next.new.self) (label_of c.in-Some.child) (node_of c.in-Some.child) _
          is (sym (c.is_used_in.ensures names h) ∙ c.if-is_used_in.false) (c.each.invariant.so_far names h);
    }

pub is_used_inside-is_used_in-requires : goal.is_used_inside-is_used_in-requires
is_used_inside-is_used_in-requires t c =
    let less = child_depth (node_of c.args.node.now) (node_of c.in-Some.child) (label_of c.in-Some.child) (left_of c.each.children) (left_of c.next.new.self) c.in-Some.ensures.steps c.each.invariant.counted c.each.invariant.deep in
    search (rules, less)
