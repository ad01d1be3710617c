-- The end of a collection stays as it is where a content before it is another one, or a collection before it or itself has one more item or entry; so do the parts
-- that come after such a collection.
use Rattle.std.proofs.Common.{rules, ◌≡◌, ℕ, ◌<◌, ◌≤◌, Bool, true, false, cond, List, [], ◌∷◌, ◌++◌, length, Some, option_and_then, refl}
use Rattle.std.{proofs.Common.{sym, ap, ◌∙◌, subst, arith, length-append}, proofs.lemmas.Bool.false≢true}
use Rattle.std.{proofs.lemmas.Option.{none-some, same_Some}, specs.Prelude.⊤}
use Rattle.yq_core.specs.Paths.{Step, is_here, further}
use Rattle.yq_core.specs.Collections.{CollPieces, change_item, coll_along, coll_in, collection_put, put_coll, within_items}
use Rattle.yq_core.specs.Entries.{EntryPieces, entry_pieces_at, path_inside, item_at}
use Rattle.yq_core.specs.Nodes.{Key, FlowNode, coll, anchored, Items, none, item, Sep, flow_items_text, node_text, sep_text, without_anchor}
use Rattle.yq_core.{specs.Trees.key_content, specs.Tree.key_label, proofs.NodeAgain.{key_longer, node_longer, sep_longer}}
use Rattle.yq_core.proofs.PathLaws.{then_some}
use Rattle.yq_flow_edits.specs.FlowEdits.{add_item, after_appended, after_last, is_none, put_item}
use Rattle.yq_edit_laws.specs.PartPuts.{EndsAfter, EndsAs}
use Rattle.yq_edit_laws.proofs.LaterParts.{Leads, content_within, inside_within, later, leads_part, node_put, part_leads, part_stays}
use Rattle.yq_edit_laws.proofs.LaterParts.{with_node}

-- ---- items and entries with the same text after each

abbrev EndAlike : Items → Items → Type 0
EndAlike none none = ⊤
EndAlike none (item key n sep is) = ⊥
EndAlike (item key n sep is) none = ⊥
EndAlike (item key n sep is) (item key2 n2 sep2 js) = (sep ≡ sep2) × EndAlike is js

alike_same : (is : Items) → EndAlike is is
alike_same none = tt
alike_same (item key n sep is) = (refl, alike_same is)

alike_put : (s : Step) (m : FlowNode) (is : Items) → EndAlike is (put_item s m is)
alike_put s m none = tt
alike_put s m (item key n sep is) = search (rules, alike_same, alike_put (further s) m is)

alike_changed : (s : Step) (f : FlowNode → FlowNode) (is : Items) → EndAlike is (change_item s f is)
alike_changed s f none = tt
alike_changed s f (item key n sep is) = search (rules, alike_same, alike_changed (further s) f is)

alike_none : (is js : Items) → EndAlike is js → is_none js ≡ is_none is
alike_none is js h = search rules

alike_after : (k : ℕ) (gap : List ℕ) (is js : Items) (rest : List ℕ) → EndAlike is js → after_last k gap js rest ≡ after_last k gap is rest
alike_after k gap (item key n sep (item key3 n3 sep3 is)) (item key2 n2 sep2 (item key4 n4 sep4 js)) rest h = alike_after k gap (item key3 n3 sep3 is) (item key4 n4 sep4 js) rest h.1
alike_after k gap is js rest h = search rules

-- ---- one more

added_some : (key : Key) (m : FlowNode) (gap : List ℕ) (is : Items) → is_none (add_item key m gap is) ≡ false
added_some key m gap none = refl
added_some key m gap (item j n sep none) = refl
added_some key m gap (item j n sep (item j2 n2 sep2 is)) = refl

after_more : (k : ℕ) (gap : List ℕ) (key : Key) (n : FlowNode) (sep : Sep) (is : Items) (rest : List ℕ) → is_none is ≡ false → after_last k gap (item key n sep is) rest ≡ after_last k gap is rest
after_more k gap key n sep none rest some = absurd (false≢true (sym some))
after_more k gap key n sep (item key2 n2 sep2 is) rest some = refl

added_after : (k : ℕ) (g gap : List ℕ) (key : Key) (m : FlowNode) (is : Items) (rest : List ℕ) → is_none is ≡ false → after_last k g (add_item key m gap is) rest ≡ after_last k gap is rest
added_after k g gap key m none rest some = absurd (false≢true (sym some))
added_after k g gap key m (item j n sep none) rest some = refl
added_after k g gap key m (item j n sep (item j2 n2 sep2 is)) rest some =
    after_more k g j n sep (add_item key m gap (item j2 n2 sep2 is)) rest (added_some key m gap (item j2 n2 sep2 is)) ∙ added_after k g gap key m (item j2 n2 sep2 is) rest refl

-- ---- where a collection ends

pub items_end : (k : ℕ) (gap : List ℕ) (is : Items) (rest : List ℕ) → is_none is ≡ false → length (after_last k gap is rest) ≤ length (flow_items_text k is rest)
unfolding flow_items_text
items_end k gap none rest some = absurd (false≢true (sym some))
items_end k gap (item key n sep none) rest some = omega (arith, key_longer key (node_text n (sep_text sep (k ∷ rest))), node_longer n (sep_text sep (k ∷ rest)))
items_end k gap (item key n sep (item key2 n2 sep2 is)) rest some =
    search (rules, arith, sep_longer, node_longer, key_longer, items_end k gap (item key2 n2 sep2 is) rest refl)

-- no item or entry ends after the last one
pub item_end : (k : ℕ) (gap : List ℕ) (s : Step) (is : Items) (rest : List ℕ) (y : EntryPieces) → item_at k s is rest ≡ Some y → length (after_last k gap is rest) ≤ length y.rest
unfolding flow_items_text
item_end k gap s none rest y e = absurd (none-some _ e)
item_end k gap s (item key n sep none) rest y e = search (rules, arith, same_Some, none-some)
item_end k gap s (item key n sep (item key2 n2 sep2 is)) rest y e = go (is_here s (key_label (key_content key))) e (item_end k gap (further s) (item key2 n2 sep2 is) rest y)
  where
    others : Items
    others = item key2 n2 sep2 is

    go : (b : Bool) → cond b (Some (record { key = key; node = n; rest = sep_text sep (flow_items_text k others rest) })) (item_at k (further s) others rest) ≡ Some y →
        (item_at k (further s) others rest ≡ Some y → length (after_last k gap others rest) ≤ length y.rest) → length (after_last k gap others rest) ≤ length y.rest
    go true e again = omega (arith, ap (λ (z : EntryPieces). length z.rest) (same_Some _ _ e), items_end k gap others rest refl, sep_longer sep (flow_items_text k others rest))
    go false e again = again e

pub node_end : (s : Step) (node : FlowNode) (rest : List ℕ) (w : CollPieces) (y : EntryPieces) → coll_in node rest ≡ Some w → path_inside s node rest ≡ Some y → length (after_appended w) ≤ length y.rest
node_end s (anchored n gap node) rest w y e at = node_end s node rest w y e at
node_end s node rest w y e at = search (rules, arith, none-some, item_end, same_Some)

pub coll_end : (k : ℕ) (gap : List ℕ) (is : Items) (rest : List ℕ) → length (after_last k gap is rest) ≤ length (gap ++ flow_items_text k is rest)
unfolding flow_items_text
coll_end k gap none rest = omega arith
coll_end k gap (item key n sep is) rest = omega (arith, items_end k gap (item key n sep is) rest refl, length-append gap (flow_items_text k (item key n sep is) rest))

pub own_end : (node : FlowNode) (rest : List ℕ) (w : CollPieces) → coll_in node rest ≡ Some w → length (after_appended w) < length (node_text (without_anchor node) rest)
unfolding node_text
own_end (anchored n gap node) rest w e = omega (arith, own_end node rest w e, content_within node rest)
own_end node rest w e = search (rules, arith, none-some, coll_end, same_Some)

-- a collection ends inside each node that holds it
end_within : (p : List Step) (u : EntryPieces) (w : CollPieces) → coll_along p u.node u.rest ≡ Some w → length (after_appended w) < length (node_text (without_anchor u.node) u.rest)
end_within [] u w e = own_end u.node u.rest w e
end_within (t ∷ p) u w e =
    let v = then_some (path_inside t u.node u.rest) e in
    omega (arith, end_within p v.0 w v.2, content_within v.0.node v.0.rest, (inside_within t u.node u.rest v.0 v.1).0)

-- the text after a collection is that after its node
pub rest_in : (node : FlowNode) (rest : List ℕ) (w : CollPieces) → coll_in node rest ≡ Some w → w.rest ≡ rest
rest_in (anchored n gap node) rest w e = rest_in node rest w e
rest_in node rest w e = search (rules, none-some, same_Some)

pub last_longer : (k : ℕ) (gap : List ℕ) (is : Items) (rest : List ℕ) → length rest < length (after_last k gap is rest)
last_longer k gap none rest = omega (arith, length-append gap (k ∷ rest))
last_longer k gap (item j n sep none) rest = omega (arith, sep_longer sep (k ∷ rest))
last_longer k gap (item j n sep (item j2 n2 sep2 is)) rest = last_longer k gap (item j2 n2 sep2 is) rest

-- ---- a collection with other items or entries

coll_put : (gap : List ℕ) (is : Items) (node : FlowNode) (rest : List ℕ) (w : CollPieces) → coll_in node rest ≡ Some w → coll_in (put_coll gap is node) rest ≡ Some (record w { gap = gap; items = is })
coll_put gap is (coll k g others) rest w e = ap (λ (v : CollPieces). Some (record v { gap = gap; items = is })) (same_Some _ _ e)
coll_put gap is (anchored n g node) rest w e = coll_put gap is node rest w e
coll_put gap is _ rest w e = absurd (none-some _ e)

coll_changed : (f : Items → Items) (node : FlowNode) (rest : List ℕ) (w : CollPieces) → coll_in node rest ≡ Some w → coll_in (within_items f node) rest ≡ Some (record w { items = f w.items })
coll_changed f (coll k g others) rest w e = ap (λ (v : CollPieces). Some (record v { items = f v.items })) (same_Some _ _ e)
coll_changed f (anchored n g node) rest w e = coll_changed f node rest w e
coll_changed f _ rest w e = absurd (none-some _ e)

-- ---- one that ends as another

pub ends_same : (w : CollPieces) → EndsAs w w
ends_same w = record { close = refl; none = refl; after = refl }

pub ends_on : (w z v : CollPieces) → EndsAs w z → EndsAs z v → EndsAs w v
ends_on w z v h g = record { close = g.close ∙ h.close; none = g.none ∙ h.none; after = g.after ∙ h.after }

alike_ends : (w z : CollPieces) (is : Items) → EndsAs w z → EndAlike z.items is → EndsAs w (record z { items = is })
alike_ends w z is h alike = ends_on w z (record z { items = is }) h (record { close = refl; none = alike_none z.items is alike; after = alike_after z.close z.gap z.items is z.rest alike })

abbrev EndsSo : CollPieces → EntryPieces → Type 0
EndsSo w u = (z : CollPieces) × (coll_in u.node u.rest ≡ Some z) × EndsAs w z

ends_before : (w : CollPieces) (u : EntryPieces) → EndsSo w u → length u.rest < length (after_appended w)
ends_before w u h = omega (arith, last_longer h.0.close h.0.gap h.0.items h.0.rest, ap length (rest_in u.node u.rest h.0 h.1), ap length h.2.after)

end_leads : (q : List Step) (x : EntryPieces) (w : CollPieces) → coll_along q x.node x.rest ≡ Some w → Leads q (EndsSo w) x
end_leads [] x w e = (w, e, ends_same w)
end_leads (r ∷ q) x w e = let u = then_some (path_inside r x.node x.rest) e in (u.0, u.1, end_leads q u.0 w u.2)

-- the collection to which steps lead in a node ends as this one
abbrev pub EndsThere : CollPieces → List Step → FlowNode → List ℕ → Type 0
EndsThere w q node rest = (z : CollPieces) × (coll_along q node rest ≡ Some z) × EndsAs w z

leads_end : (q : List Step) (x : EntryPieces) (w : CollPieces) → Leads q (EndsSo w) x → EndsThere w q x.node x.rest
leads_end [] x w h = h
leads_end (r ∷ q) x w h = let z = leads_end q h.0 w h.2 in (z.0, ap (option_and_then (λ (y : EntryPieces). coll_along q y.node y.rest)) h.1 ∙ z.1, z.2)

-- a change inside an item or entry of it
ends_around : (w : CollPieces) (t : Step) (f : FlowNode → FlowNode) (u : EntryPieces) → EndsSo w u → EndsSo w (with_node (within_items (change_item t f) u.node) u)
ends_around w t f u h = (record h.0 { items = change_item t f h.0.items }, coll_changed (change_item t f) u.node u.rest h.0 h.1, alike_ends w h.0 (change_item t f h.0.items) h.2 (alike_changed t f h.0.items))

-- ---- after a content that is another one

module _ (s : Step) (m : FlowNode) (w : CollPieces) (y : EntryPieces) (here : item_at w.close s w.items w.rest ≡ Some y) where
  put_ends : (z : CollPieces) (p : List Step) (u : EntryPieces) → coll_along p u.node u.rest ≡ Some w → EndsSo z u → EndsSo z (with_node (collection_put p w.gap (put_item s m w.items) u.node) u)
  put_ends z [] u e h =
      let is : Items = put_item s m w.items in
      let own : EndsAs z w = subst (EndsAs z) (same_Some _ _ (sym h.1 ∙ e)) h.2 in
      (record w { items = is }, coll_put w.gap is u.node u.rest w e, alike_ends z w is own (alike_put s m w.items))
  put_ends z (t ∷ p) u e h = ends_around z t (collection_put p w.gap (put_item s m w.items)) u h

  pub later_end : (p q : List Step) (x : EntryPieces) (z : CollPieces) → coll_along p x.node x.rest ≡ Some w → coll_along q x.node x.rest ≡ Some z → length (after_appended z) ≤ length y.rest →
      EndsThere z q (collection_put p w.gap (put_item s m w.items) x.node) x.rest
  later_end p q x z e there following =
      leads_end q _ z (later (EndsSo z) w w.gap (put_item s m w.items) (length y.rest)
      (λ u h. omega (arith, following, ends_before z u h))
      (λ p u at. omega (arith, part_stays p s w y u here at, content_within u.node u.rest))
      (put_ends z)
      (λ r u v at inside less. node_put s r m u.node u.rest w y v at here inside less) p q x e (end_leads q x z there))

-- ---- after a collection with one more item or entry

module _ (key : Key) (m : FlowNode) (gap : List ℕ) (w : CollPieces) where
  abbrev more : Items
  more = add_item key m w.gap w.items

  within_more : (p : List Step) (u : EntryPieces) → coll_along p u.node u.rest ≡ Some w → length (after_appended w) ≤ length (node_text u.node u.rest)
  within_more p u e = omega (arith, end_within p u w e, content_within u.node u.rest)

  more_inside : (r : Step) (u v : EntryPieces) → coll_in u.node u.rest ≡ Some w → path_inside r u.node u.rest ≡ Some v → length v.rest < length (after_appended w) → path_inside r (put_coll gap more u.node) u.rest ≡ Some v
  more_inside r u v e at less = absurd (omega (arith, less, node_end r u.node u.rest w v e at))

  more_ends : (z : CollPieces) → EndsAfter (length (after_appended w)) z → (p : List Step) (u : EntryPieces) → coll_along p u.node u.rest ≡ Some w → EndsSo z u → EndsSo z (with_node (collection_put p gap more u.node) u)
  more_ends z after [] u e h = (record w { gap = gap; items = more }, coll_put gap more u.node u.rest w e, go (is_none w.items) refl)
    where
      own : EndsAs z w
      own = subst (EndsAs z) (same_Some _ _ (sym h.1 ∙ e)) h.2

      go : (b : Bool) → is_none w.items ≡ b → EndsAs z (record w { gap = gap; items = more })
      go true nothing = absurd (omega (arith, after.1 (sym own.none ∙ nothing), ap length own.after))
      go false some = ends_on z w (record w { gap = gap; items = more }) own (record { close = refl; none = added_some key m w.gap w.items ∙ sym some; after = added_after w.close gap w.gap key m w.items w.rest some })
  more_ends z after (t ∷ p) u e h = ends_around z t (collection_put p gap more) u h

  pub end_after_more : (p q : List Step) (x : EntryPieces) (z : CollPieces) → coll_along p x.node x.rest ≡ Some w → coll_along q x.node x.rest ≡ Some z → EndsAfter (length (after_appended w)) z →
      EndsThere z q (collection_put p gap more x.node) x.rest
  end_after_more p q x z e there after =
      leads_end q _ z (later (EndsSo z) w gap more (length (after_appended w)) (λ u h. omega (arith, after.0, ends_before z u h)) within_more (more_ends z after) more_inside p q x e (end_leads q x z there))

  pub part_after_more : (p q : List Step) (x z : EntryPieces) → coll_along p x.node x.rest ≡ Some w → entry_pieces_at q x ≡ Some z → length z.rest < length (after_appended w) →
      length (node_text (without_anchor z.node) z.rest) ≤ length (after_appended w) → entry_pieces_at q (with_node (collection_put p gap more x.node) x) ≡ Some z
  part_after_more p q x z e there less begins =
      leads_part q _ z (later (λ u. u ≡ z) w gap more (length (after_appended w)) (λ u is. omega (arith, less, ap (λ (v : EntryPieces). length v.rest) is)) within_more
      (λ p u at is. absurd (omega (arith, begins, end_within p u w at, ap (λ (v : EntryPieces). length (node_text (without_anchor v.node) v.rest)) is)))
      more_inside p q x e (part_leads q x z there))
