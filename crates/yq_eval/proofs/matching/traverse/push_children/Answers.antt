use Rattle.std.proofs.Common.{◌+◌, ◌++◌, map, sym, ap, ◌∙◌, append-nil, arith}
use Rattle.yq_core.specs.Tree.{Children}
use Rattle.yq_nodes.{specs.Children.left_of, specs.Nodes.{label_of, node_of}}
use Rattle.yq_eval.{specs.PlaceView.{place_of, places_of}, proofs.PlaceLaws.children_more}
use Rattle.yq_semantics.specs.Places.{FoundPlace, child_place, stepped}
use Rattle.yq_eval.proofs.matching.traverse.push_children.Goals as goal

pub each-preserved : goal.each-preserved
each-preserved c =
    let p : FoundPlace = place_of c.args.place.now in
    let place = c.nth_below.ensures p (sym c.each.invariant.path) in
    record {
      path = c.each.invariant.path;
      counted = omega (arith, c.each.invariant.counted, c.in_ok-push.ensures.len, c.each.places.ok.0, c.push.new.self.ok.0);
      so_far =
          ap (λ (is : _). places_of is ++ map (child_place p) (stepped (c.each.before + 1) (left_of c.next.new.self))) (c.in_ok-push.ensures.items)
          ∙ children_more p c.each.before (left_of c.each.children) (left_of c.next.new.self) (label_of c.in-Some.child) (node_of c.in-Some.child)
          c.each.places.items c.nth_below.result _ c.in-Some.ensures.steps place c.each.invariant.so_far;
    }

pub returns : goal.returns
returns c =
    let p : FoundPlace = place_of c.args.place.now in
    sym (append-nil (places_of c.each.places.items))
    ∙ (ap (λ (cs : Children). places_of c.each.places.items ++ map (child_place p) (stepped c.each.before cs)) (sym c.in_default.ensures.steps.0)
    ∙ c.each.invariant.so_far)

pub overflow_add-before : goal.overflow_add-before
overflow_add-before c =
    omega (arith, c.each.invariant.counted, c.in_ok-push.ensures.len, c.each.places.ok.0, c.push.new.self.ok.0, c.push.new.self.ok.1, c.push.new.self.small)
