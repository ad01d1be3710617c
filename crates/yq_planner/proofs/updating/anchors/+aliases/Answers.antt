use Rattle.std.proofs.Common.{is_some, sym, ap, ◌∙◌, arith}
use Rattle.yq_core.{specs.Keys.deepest, specs.Tree.alias}
use Rattle.yq_nodes.{specs.Children.left_of, specs.Nodes.{label_of, node_of}}
use Rattle.yq_outline.specs.Counts.{count}
use Rattle.yq_semantics.specs.Changes.{refers_to}
use Rattle.yq_planner.{specs.Indexes.get_text, proofs.ChildDepths.child_depth, proofs.IndexLaws.{put_text, alias_put}}
use Rattle.yq_planner.proofs.UsedLaws.{alias_is, named_more}
use Rattle.yq_planner.proofs.updating.anchors.+aliases.Goals as goal

pub put_aliases-returns-in_ok-insert-in-Alias : goal.put_aliases-returns-in_ok-insert-in-Alias
put_aliases-returns-in_ok-insert-in-Alias t c = λ k.
    let m = c.args.aliases.now in
    let a = c.text.result.now in
    ap is_some (put_text m c.insert.new.self a _ c.in_ok-insert-in-Alias.ensures.updates k)
    ∙ alias_put a k _ (get_text k m) (node_of c.args.node.now) (alias_is (node_of c.args.node.now) (sym c.in-Alias.is ∙ c.kind.ensures) ∙ ap alias (sym c.text.ensures))

pub put_aliases_below-each-preserved : goal.put_aliases_below-each-preserved
put_aliases_below-each-preserved t c =
    let is = c.in-Some.ensures.steps in
    let counted = ap count is in
    let reaches = ap deepest is in
    record {
      counted = omega (arith, counted);
      deep = omega (arith, reaches);
      so_far = λ k. named_more (refers_to k) (left_of c.each.children) (left_of c.next.new.self) (label_of c.in-Some.child) (node_of c.in-Some.child)
          (is_some (get_text k c.each.aliases)) _ _ is (c.in_ok-put_aliases.ensures k) (c.each.invariant.so_far k);
    }

pub put_aliases_below-put_aliases-requires : goal.put_aliases_below-put_aliases-requires
put_aliases_below-put_aliases-requires t c =
    let less = child_depth (node_of c.args.node.now) (node_of c.in-Some.child) (label_of c.in-Some.child) (left_of c.each.children) (left_of c.next.new.self) c.in-Some.ensures.steps c.each.invariant.counted c.each.invariant.deep in
    (omega (arith, less), tt)
