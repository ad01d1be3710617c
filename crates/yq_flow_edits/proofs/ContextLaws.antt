-- A collection inside a node, exchanged for another one.
use Rattle.std.proofs.Common.{◌≡◌, ℕ, Bool, true, false, List, [], ◌∷◌, ◌++◌, length, Option, Some, refl, sym, ap, ◌∙◌, subst, arith}
use Rattle.std.{proofs.Common.append_assoc, proofs.lemmas.Option.same_Some}
use Rattle.yq_core.{specs.Paths.{Step, change_child, within, changed_at}, specs.Alike.Alike, specs.Gaps.IsInlineGap}
use Rattle.yq_core.specs.Nodes.{FlowNode, coll, anchored, Items, node_text, flow_items_text, opening_bracket, is_empty_node, IsFlowNode}
use Rattle.yq_core.{specs.Nodes.AreFlowItems, specs.Entries.{EntryPieces, item_at, path_inside}}
use Rattle.yq_core.specs.Collections.{CollPieces, coll_text, coll_in, coll_along, put_coll, within_items, change_item, collection_put}
use Rattle.yq_core.{specs.Trees.tree_of, proofs.AlikePieces.gap_alike, proofs.PathLaws.{then_some, items_hold}}
use Rattle.yq_flow_edits.{proofs.ItemPlaces.item_rest, proofs.ItemSwaps.{items_change, in_items, Swapped, InItems, items_swap}}
use Rattle.yq_flow_edits.proofs.CollLaws.{coll_is_there, IsLocatedAt}

-- the collection in which a step finds its item
pub inside_coll : (s : Step) (node : FlowNode) (rest : List ℕ) (y : EntryPieces) → path_inside s node rest ≡ Some y → (c : CollPieces) × (coll_in node rest ≡ Some c) × (item_at c.close s c.items c.rest ≡ Some y)
inside_coll s (coll k g is) rest y h = (record { close = k; gap = g; items = is; rest = rest }, refl, h)
inside_coll s (anchored n g node) rest y h = inside_coll s node rest y h
inside_coll s _ rest y h = cc

within_put : (f : Items → Items) (node : FlowNode) (rest : List ℕ) (c : CollPieces) → coll_in node rest ≡ Some c → within_items f node ≡ put_coll c.gap (f c.items) node
within_put f (coll k g is) rest c h = ap (λ (z : CollPieces). coll k z.gap (f z.items)) (same_Some _ _ h)
within_put f (anchored n g node) rest c h = ap (anchored n g) (within_put f node rest c h)
within_put f _ rest c h = cc

regroup : (a b c d x : List ℕ) → a ++ (b ++ (c ++ (d ++ x))) ≡ ((a ++ b) ++ (c ++ d)) ++ x
regroup a b c d x = ap (λ l. a ++ (b ++ l)) (sym (append_assoc c d x)) ∙ (sym (append_assoc a b ((c ++ d) ++ x)) ∙ sym (append_assoc (a ++ b) (c ++ d) x))

-- one step up
step_up : (flow : Bool) (spaces : Option ℕ) (d : ℕ) (node : FlowNode) (rest : List ℕ) (s : Step) (ss : List Step) (y : EntryPieces) (c : CollPieces)
    (outer : CollPieces) → (item_at outer.close s outer.items outer.rest ≡ Some y) → coll_in node rest ≡ Some outer →
    (o : IsLocatedAt flow spaces d node rest outer 0 (λ g is. put_coll g is node) within) →
    IsLocatedAt true (Some 0) o.inner_depth y.node y.rest c (length ss) (λ g is. collection_put ss g is y.node) (λ h. changed_at ss (within h)) →
    IsLocatedAt flow spaces d node rest c (length (s ∷ ss)) (λ g is. collection_put (s ∷ ss) g is node) (λ h. changed_at (s ∷ ss) (within h))
step_up flow spaces d node rest s ss y c outer at in_ o i = record {
  inner_depth = i.inner_depth;
  depths = omega (arith, o.depths, i.depths);
  closes = i.closes;
  gap = i.gap;
  items = i.items;
  before = (o.before ++ (opening_bracket outer.close ∷ outer.gap)) ++ (found.before ++ i.before);
  text = o.text ∙ wrap (flow_items_text outer.close outer.items outer.rest) (coll_text c.close c.gap c.items c.rest) (found.was ∙ ap (λ l. found.before ++ l) i.text);
  some = o.some;
  longer = omega (arith, o.longer, item_rest outer.close s outer.items outer.rest y at, i.longer);
  new = λ g is gap are. subst (λ (n : FlowNode). IsFlowNode flow spaces d n rest) (sym (same g is))
      (o.new outer.gap (change_item s (collection_put ss g is) outer.items) (gap_alike (Some true) outer.gap _ _ (swapped g is gap are).like o.gap)
      (swapped g is gap are).are);
  new_text = λ g is. ap (λ (n : FlowNode). node_text n rest) (same g is)
      ∙ (o.new_text outer.gap (change_item s (collection_put ss g is) outer.items)
      ∙ wrap _ (coll_text c.close g is c.rest) (found.is_now (collection_put ss g is) ∙ ap (λ l. found.before ++ l) (i.new_text g is)));
  new_some = λ g is. subst (λ (n : FlowNode). is_empty_node n ≡ false) (sym (same g is)) (o.new_some outer.gap (change_item s (collection_put ss g is) outer.items));
  like = λ g is. subst (λ (n : FlowNode). Alike (Some true) (node_text node rest) (node_text n rest)) (sym (same g is)) (o.like outer.gap (change_item s (collection_put ss g is) outer.items));
  new_tree = λ g is h e. ap tree_of (same g is)
      ∙ o.new_tree outer.gap (change_item s (collection_put ss g is) outer.items) (change_child s (changed_at ss (within h)))
      (items_change outer.close s (collection_put ss g is) (changed_at ss (within h)) outer.items outer.rest y at (i.new_tree g is h e));
} where
  found : InItems outer.close s outer.items outer.rest y
  found = in_items outer.close s outer.items outer.rest y at

  same : (g : List ℕ) (is : Items) → within_items (change_item s (collection_put ss g is)) node ≡ put_coll outer.gap (change_item s (collection_put ss g is) outer.items) node
  same g is = within_put (change_item s (collection_put ss g is)) node rest outer in_

  swapped : (g : List ℕ) (is : Items) → IsInlineGap g (flow_items_text c.close is c.rest) → AreFlowItems i.inner_depth c.close is c.rest →
      Swapped o.inner_depth outer.close outer.items (change_item s (collection_put ss g is) outer.items) outer.rest y (collection_put ss g is y.node)
  swapped g is gap are = items_swap o.inner_depth outer.close s (collection_put ss g is) outer.items outer.rest y o.closes o.items at (record { is = i.new g is gap are; like = i.like g is; old_some = i.some; new_some = i.new_some g is })

  wrap : (t x : List ℕ) → t ≡ found.before ++ (i.before ++ x) → o.before ++ (opening_bracket outer.close ∷ (outer.gap ++ t)) ≡ ((o.before ++ (opening_bracket outer.close ∷ outer.gap)) ++ (found.before ++ i.before)) ++ x
  wrap t x e = ap (λ l. o.before ++ (opening_bracket outer.close ∷ (outer.gap ++ l))) e ∙ regroup o.before (opening_bracket outer.close ∷ outer.gap) found.before i.before x

-- the collection to which steps lead, exchanged for another one
pub path_is_there : (flow : Bool) (spaces : Option ℕ) (ss : List Step) (d : ℕ) (node : FlowNode) (rest : List ℕ) (c : CollPieces) →
    IsFlowNode flow spaces d node rest → coll_along ss node rest ≡ Some c →
    IsLocatedAt flow spaces d node rest c (length ss) (λ g is. collection_put ss g is node) (λ h. changed_at ss (within h))
path_is_there flow spaces [] d node rest c x h = coll_is_there flow spaces d node rest c x h
path_is_there flow spaces (s ∷ ss) d node rest c x h =
    let y = then_some (path_inside s node rest) h in
    let outer = inside_coll s node rest y.0 y.1 in
    let o = coll_is_there flow spaces d node rest outer.0 x outer.1 in
    let there = items_hold o.inner_depth outer.0.close s outer.0.items outer.0.rest y.0 o.items outer.2 in
    step_up flow spaces d node rest s ss y.0 c outer.0 outer.2 outer.1 o (path_is_there true (Some 0) ss o.inner_depth y.0.node y.0.rest c there y.2)
