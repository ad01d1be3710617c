use Rattle.std.{proofs.Common.{ℕ, List, [], ◌∷◌, ◌++◌, map, refl, sym, ap, ◌∙◌, subst, arith}, proofs.lemmas.List.map_push}
use Rattle.yq_core.{specs.Values.{field_of, value_node}, specs.Tree.Node}
use Rattle.yq_nodes.{specs.Children.left_of, specs.Nodes.{label_of, node_of}}
use Rattle.yq_semantics.{specs.Copies.{item_copies, entry_copies}, proofs.ValueMaps.node_of-map}
use Rattle.yq_eval.{specs.PlaceView.put_after, specs.TreeScalars.EachHasScalars}
use Rattle.yq_eval.proofs.CopyLaws.{items_more, entries_more, map_copied, depth_below, items_done, entries_done, fewer, count_within}
use Rattle.yq_eval.proofs.CopyLaws.{deep_within}
use Rattle.yq_eval.proofs.matching.copy.+copy.Goals as goal

pub copy-returns-in_ok-entry_copies-in-Map : goal.copy-returns-in_ok-entry_copies-in-Map
copy-returns-in_ok-entry_copies-in-Map t c =
    map_copied (node_of c.args.node.now) (map field_of c.in_ok-entry_copies-in-Map.field-0.items) (sym c.in-Map.is ∙ c.kind.ensures) c.in_ok-entry_copies-in-Map.ensures ∙ rw node_of-map refl

pub entry_copies-copy-requires : goal.entry_copies-copy-requires
entry_copies-copy-requires t c =
    let is = c.in-Some.ensures.steps in
    let less = depth_below (node_of c.args.node.now) (node_of c.in-Some.entry) (label_of c.in-Some.entry) (left_of c.each.entries) (left_of c.next.new.self) is c.each.invariant.counted c.each.invariant.deep in
    (omega (arith, less), (subst EachHasScalars is c.each.invariant.scalars).0)

pub entry_copies-each-preserved : goal.entry_copies-each-preserved
entry_copies-each-preserved t c =
    let is = c.in-Some.ensures.steps in
    record {
      scalars = (subst EachHasScalars is c.each.invariant.scalars).1;
      counted =
          count_within (left_of c.each.entries) (left_of c.next.new.self) (label_of c.in-Some.entry) (node_of c.in-Some.entry) _ is
          c.each.invariant.counted;
      deep = deep_within (left_of c.each.entries) (left_of c.next.new.self) (label_of c.in-Some.entry) (node_of c.in-Some.entry) _ is c.each.invariant.deep;
      so_far =
          ap (λ (es : List (List ℕ × Node)). put_after es (entry_copies (left_of c.next.new.self))) (ap (map field_of) c.in_ok-push.ensures.items ∙ map_push field_of c.each.copies.items (c.in_ok-key_of.field-0, c.in_ok-value.value))
          ∙ (ap (λ (k : List ℕ). put_after (map field_of c.each.copies.items ++ (k, value_node c.in_ok-value.value) ∷ []) (entry_copies (left_of c.next.new.self))) c.in_ok-key_of.ensures
          ∙ entries_more (map field_of c.each.copies.items) (left_of c.each.entries) (left_of c.next.new.self) (label_of c.in-Some.entry) (node_of c.in-Some.entry) _ _ is c.in_ok-value.ensures c.each.invariant.so_far);
    }

pub item_copies-copy-requires : goal.item_copies-copy-requires
item_copies-copy-requires t c =
    let is = c.in-Some.ensures.steps in
    let less = depth_below (node_of c.args.node.now) (node_of c.in-Some.item) (label_of c.in-Some.item) (left_of c.each.items) (left_of c.next.new.self) is c.each.invariant.counted c.each.invariant.deep in
    (omega (arith, less), (subst EachHasScalars is c.each.invariant.scalars).0)

pub item_copies-each-preserved : goal.item_copies-each-preserved
item_copies-each-preserved t c =
    let is = c.in-Some.ensures.steps in
    record {
      scalars = (subst EachHasScalars is c.each.invariant.scalars).1;
      counted = count_within (left_of c.each.items) (left_of c.next.new.self) (label_of c.in-Some.item) (node_of c.in-Some.item) _ is c.each.invariant.counted;
      deep = deep_within (left_of c.each.items) (left_of c.next.new.self) (label_of c.in-Some.item) (node_of c.in-Some.item) _ is c.each.invariant.deep;
      so_far =
          ap (λ (vs : List Node). put_after vs (item_copies (left_of c.next.new.self))) (ap (map value_node) c.in_ok-push.ensures.items ∙ map_push value_node c.each.copies.items c.in_ok-copy.field-0)
          ∙ items_more (map value_node c.each.copies.items) (left_of c.each.items) (left_of c.next.new.self) (label_of c.in-Some.item) (node_of c.in-Some.item) _ _ is c.in_ok-copy.ensures c.each.invariant.so_far;
    }

pub item_copies-returns : goal.item_copies-returns
item_copies-returns t c = items_done (map value_node c.each.copies.items) (left_of c.each.items) _ c.in_default.ensures.steps.0 c.each.invariant.so_far

pub entry_copies-returns : goal.entry_copies-returns
entry_copies-returns t c = entries_done (map field_of c.each.copies.items) (left_of c.each.entries) _ c.in_default.ensures.steps.0 c.each.invariant.so_far

pub item_copies-each-smaller : goal.item_copies-each-smaller
item_copies-each-smaller t c = fewer (left_of c.each.items) (left_of c.next.new.self) (label_of c.in-Some.item) (node_of c.in-Some.item) c.in-Some.ensures.steps

pub entry_copies-each-smaller : goal.entry_copies-each-smaller
entry_copies-each-smaller t c =
    fewer (left_of c.each.entries) (left_of c.next.new.self) (label_of c.in-Some.entry) (node_of c.in-Some.entry) c.in-Some.ensures.steps
