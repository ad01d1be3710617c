-- A part of a node that ends before a place at which one of its collections changes is there after that, before another text; and so is a collection that does.
use Rattle.std.proofs.lemmas.Grind.{common_steps}
use Rattle.std.proofs.Common.{rules, ◌≡◌, ◌⊎◌, inl, inr, ℕ, ◌<◌, ◌≤◌, Bool, true, false, cond, List, [], ◌∷◌, ◌++◌, length, Option, Some}
use Rattle.std.proofs.Common.{None, drop, option_map, option_and_then, refl, sym, ap, ◌∙◌, subst, arith, append_assoc, length-append}
use Rattle.std.{proofs.Math.Seq.drop-append_seam, proofs.lemmas.List.drop-append-le, proofs.lemmas.Option.{none-some, same_Some}}
use Rattle.yq_edit_rules.proofs.FlowLocationLaws.{coll_entry}
use Rattle.yq_core.specs.Paths.{Step, is_here, further}
use Rattle.yq_core.specs.Collections.{CollAt, CollPieces, IsCollAt, change_item, coll_along, coll_in, collection_put, put_coll}
use Rattle.yq_core.{specs.Collections.within_items, specs.Entries.{EntryPieces, entry_pieces_at, path_inside, item_at}}
use Rattle.yq_core.specs.Nodes.{Key, FlowNode, coll, anchored, Items, none, item, Sep, last, comma, flow_items_text, key_text, node_text}
use Rattle.yq_core.{specs.Nodes.{opening_bracket, sep_text, without_anchor}, specs.Trees.key_content, specs.Tree.key_label}
use Rattle.yq_core.{proofs.NodeAgain.{node_longer, sep_longer}, proofs.NodesWrittenLaws.{key_append, sep_append}, proofs.PathLaws.then_some}
use Rattle.yq_flow_edits.specs.FlowEdits.{FlowEdit, IsFlowEdited, add_item, after_appended, after_last, put_content, put_item}
use Rattle.yq_flow_edits.{proofs.EditLaws.around_is, proofs.ItemSwaps.{item_cut, text_cut}}
use Rattle.yq_places.proofs.FlowNodeLaws.{entry_more, item_more}
use Rattle.yq_edit_laws.proofs.LaterEnds.{items_end, node_end, own_end, rest_in}
use Rattle.yq_edit_laws.proofs.LaterParts.{content_within, inside_within, node_in_items, with_node}
use Rattle.yq_core.specs.Tree as tree

-- ---- before another text

inside_more : (s : Step) (node : FlowNode) (rest more : List ℕ) → path_inside s node (rest ++ more) ≡ option_map (entry_more more) (path_inside s node rest)
inside_more s (coll k gap is) rest more = item_more k s is rest more
inside_more s (anchored n gap node) rest more = inside_more s node rest more
inside_more s _ rest more = refl

parts_more : (q : List Step) (x : EntryPieces) (more : List ℕ) → entry_pieces_at q (entry_more more x) ≡ option_map (entry_more more) (entry_pieces_at q x)
parts_more [] x more = refl
parts_more (s ∷ q) x more = search (rules, inside_more, entry_more, parts_more q)

-- ---- an item or entry before one that changes

-- An item or entry comes before a text, and before another one where that takes its place.
abbrev pub ComesBefore : List ℕ → List ℕ → EntryPieces → Option EntryPieces → Type 0
ComesBefore t t2 u o = (m : List ℕ) × (u.rest ≡ m ++ t) × (o ≡ Some (record u { rest = m ++ t2 }))

-- a node is a text before another one, and with that one's place taken is another node
abbrev pub Turns : List ℕ → List ℕ → List ℕ → List ℕ → Type 0
Turns old new t t2 = (m : List ℕ) × (old ≡ m ++ t) × (new ≡ m ++ t2)

-- the same text before both
pub front_turn : (f : List ℕ) {old new t t2 : List ℕ} → Turns old new t t2 → Turns (f ++ old) (f ++ new) t t2
front_turn f {t = t} {t2 = t2} h =
    (f ++ h.0, ap (λ (l : List ℕ). f ++ l) h.1 ∙ sym (append_assoc f h.0 t), ap (λ (l : List ℕ). f ++ l) h.2 ∙ sym (append_assoc f h.0 t2))

-- texts that are those
pub turn_as : {old new old2 new2 t t2 : List ℕ} → old2 ≡ old → new2 ≡ new → Turns old new t t2 → Turns old2 new2 t t2
turn_as a b h = (h.0, a ∙ h.1, b ∙ h.2)

sep_turn : (sep : Sep) {old new t t2 : List ℕ} → Turns old new t t2 → Turns (sep_text sep old) (sep_text sep new) t t2
sep_turn (last b) h = front_turn b h
sep_turn (comma b g) h = front_turn b (front_turn (44 ∷ g) h)

-- An item or entry after which one text comes and then another, or one after it.
pub item_before : (key : Key) (n : FlowNode) {old new : List ℕ} {u : EntryPieces} {t t2 : List ℕ} {o o2 : Option EntryPieces} (b : Bool) →
    cond b (Some (record { key = key; node = n; rest = old })) o ≡ Some u →
    Turns old new t t2 → (o ≡ Some u → ComesBefore t t2 u o2) → ComesBefore t t2 u (cond b (Some (record { key = key; node = n; rest = new })) o2)
item_before key n b there w later = grind (arith, common_steps, same_Some)

items_turn : (k : ℕ) (s : Step) (f : FlowNode → FlowNode) (is : Items) (rest : List ℕ) (y : EntryPieces) (t t2 : List ℕ) → item_at k s is rest ≡ Some y → Turns (node_text y.node y.rest) (node_text (f y.node) y.rest) t t2 →
    Turns (flow_items_text k is rest) (flow_items_text k (change_item s f is) rest) t t2
unfolding flow_items_text
items_turn k s f none rest y t t2 here h = absurd (none-some _ here)
items_turn k s f (item key n sep is) rest y t t2 here h = go (is_here s (key_label (key_content key))) here (λ here. items_turn k (further s) f is rest y t t2 here h)
  where
    go : (b : Bool) → cond b (Some (record { key = key; node = n; rest = sep_text sep (flow_items_text k is rest) })) (item_at k (further s) is rest) ≡ Some y →
        (item_at k (further s) is rest ≡ Some y → Turns (flow_items_text k is rest) (flow_items_text k (change_item (further s) f is) rest) t t2) →
        Turns (key_text key (node_text n (sep_text sep (flow_items_text k is rest)))) (flow_items_text k (cond b (item key (f n) sep is) (item key n sep (change_item (further s) f is))) rest) t t2
    go true here again =
        let w = subst (λ (z : EntryPieces). Turns (node_text z.node z.rest) (node_text (f z.node) z.rest) t t2) (sym (same_Some _ _ here)) h in
        (key_text key w.0, ap (key_text key) w.1 ∙ key_append key w.0 t, ap (key_text key) w.2 ∙ key_append key w.0 t2)
    go false here again = turn_as (item_cut key n sep _) (item_cut key n sep _) (front_turn (key_text key (node_text n (sep_text sep []))) (again here))

front_item : (k : ℕ) (s r : Step) (f : FlowNode → FlowNode) (is : Items) (rest : List ℕ) (y u : EntryPieces) (t t2 : List ℕ) →
    item_at k s is rest ≡ Some y → item_at k r is rest ≡ Some u → Turns (node_text y.node y.rest) (node_text (f y.node) y.rest) t t2 →
    length y.rest ≤ length t → length t < length (node_text u.node u.rest) → ((u ≡ y) × (item_at k r (change_item s f is) rest ≡ Some (with_node (f y.node) y))) ⊎ ComesBefore t t2 u (item_at k r (change_item s f is) rest)
front_item k s r f none rest y u t t2 here there h short long = absurd (none-some _ here)
front_item k s r f (item key n sep is) rest y u t t2 here there h short long =
    go (is_here s (key_label (key_content key))) (is_here r (key_label (key_content key))) refl here there (λ here there. front_item k (further s) (further r) f is rest y u t t2 here there h short long)
  where
    own : FlowNode → EntryPieces
    own m = record { key = key; node = m; rest = sep_text sep (flow_items_text k is rest) }

    Out : Bool → Type 0
    Out a =
        ((u ≡ y) × (item_at k r (cond a (item key (f n) sep is) (item key n sep (change_item (further s) f is))) rest ≡ Some (with_node (f y.node) y)))
        ⊎ ComesBefore t t2 u (item_at k r (cond a (item key (f n) sep is) (item key n sep (change_item (further s) f is))) rest)

    go : (a b : Bool) → is_here r (key_label (key_content key)) ≡ b → cond a (Some (own n)) (item_at k (further s) is rest) ≡ Some y → cond b (Some (own n)) (item_at k (further r) is rest) ≡ Some u →
        (item_at k (further s) is rest ≡ Some y → item_at k (further r) is rest ≡ Some u →
        ((u ≡ y) × (item_at k (further r) (change_item (further s) f is) rest ≡ Some (with_node (f y.node) y))) ⊎ ComesBefore t t2 u (item_at k (further r) (change_item (further s) f is) rest)) → Out a
    go true true is_r here there again = search (rules, same_Some, with_node)
    go true false is_r here there again = search (rules, arith, node_in_items, sep_longer, same_Some)
    go false true is_r here there again =
        let w = items_turn k (further s) f is rest y t t2 here h in
        search (rules, own, same_Some, sep_append)
    go false false is_r here there again = search (rules, with_node)

-- the item or entry to which steps lead from one that comes before another text then
other_part : (q : List Step) (u z : EntryPieces) (m t t2 : List ℕ) → u.rest ≡ m ++ t → entry_pieces_at q u ≡ Some z → ComesBefore t t2 z (entry_pieces_at q (record u { rest = m ++ t2 }))
other_part q u z m t t2 is e =
    go (entry_pieces_at q base) (parts_more q base (m ++ t2)) (sym (parts_more q base (m ++ t)) ∙ (sym (ap (λ (l : List ℕ). entry_pieces_at q (record u { rest = l })) is) ∙ e))
  where
    base : EntryPieces
    base = record u { rest = [] }

    go : (o : Option EntryPieces) → entry_pieces_at q (record u { rest = m ++ t2 }) ≡ option_map (entry_more (m ++ t2)) o → option_map (entry_more (m ++ t)) o ≡ Some z → ComesBefore t t2 z (entry_pieces_at q (record u { rest = m ++ t2 }))
    go None there e = absurd (none-some _ e)
    go (Some w) there e =
        let same : entry_more (m ++ t) w ≡ z = same_Some _ _ e in (
          w.rest ++ m,
          ap (λ (v : EntryPieces). v.rest) (sym same) ∙ sym (append_assoc w.rest m t),
          there ∙ (ap (λ (l : List ℕ). Some (record w { rest = l })) (sym (append_assoc w.rest m t2)) ∙ ap (λ (v : EntryPieces). Some (record v { rest = (w.rest ++ m) ++ t2 })) same),
        )

-- a text without its front, and the other one
pub turn_tail : (f a b t t2 : List ℕ) → Turns (f ++ a) (f ++ b) t t2 → length t ≤ length a → Turns a b t t2
turn_tail f a b t t2 h short =
    let long : length f ≤ length h.0 = omega (arith, short, ap length h.1, length-append f a, length-append h.0 t) in (
      drop (length f) h.0,
      sym (drop-append_seam f a) ∙ (ap (drop (length f)) h.1 ∙ drop-append-le (length f) h.0 t long),
      sym (drop-append_seam f b) ∙ (ap (drop (length f)) h.2 ∙ drop-append-le (length f) h.0 t2 long),
    )

-- a content to which steps lead from a node is no longer than that one's
part_in : (q : List Step) (v z : EntryPieces) → entry_pieces_at q v ≡ Some z → length (node_text (without_anchor z.node) z.rest) ≤ length (node_text (without_anchor v.node) v.rest)
part_in [] v z e = omega (arith, ap (λ (x : EntryPieces). length (node_text (without_anchor x.node) x.rest)) (same_Some _ _ e))
part_in (r ∷ q) v z e =
    let u = then_some (path_inside r v.node v.rest) e in
    omega (arith, part_in q u.0 z u.2, content_within u.0.node u.0.rest, (inside_within r v.node v.rest u.0 u.1).0)

part_coll : (q : List Step) (x u : EntryPieces) → entry_pieces_at q x ≡ Some u → coll_along q x.node x.rest ≡ coll_in u.node u.rest
part_coll [] x u e = ap (λ (v : EntryPieces). coll_in v.node v.rest) (same_Some _ _ e)
part_coll (r ∷ q) x u e =
    let v = then_some (path_inside r x.node x.rest) e in
    ap (option_and_then (λ (y : EntryPieces). coll_along q y.node y.rest)) v.1 ∙ part_coll q v.0 u v.2

in_rest : (node : FlowNode) (rest rest2 : List ℕ) (z : CollPieces) → coll_in node rest ≡ Some z → coll_in node rest2 ≡ Some (record z { rest = rest2 })
in_rest (coll k gap is) rest rest2 z e = ap (λ (v : CollPieces). Some (record v { rest = rest2 })) (same_Some _ _ e)
in_rest (anchored n gap node) rest rest2 z e = in_rest node rest rest2 z e
in_rest _ rest rest2 z e = absurd (none-some _ e)

-- ---- in whichever collections

node_turn : (s : Step) (f : FlowNode → FlowNode) (node : FlowNode) (rest : List ℕ) (y : EntryPieces) (t t2 : List ℕ) → path_inside s node rest ≡ Some y → Turns (node_text y.node y.rest) (node_text (f y.node) y.rest) t t2 →
    Turns (node_text node rest) (node_text (within_items (change_item s f) node) rest) t t2
unfolding node_text
node_turn s f (coll k gap is) rest y t t2 here h = front_turn (opening_bracket k ∷ []) (front_turn gap (items_turn k s f is rest y t t2 here h))
node_turn s f (anchored n gap node) rest y t t2 here h = front_turn (38 ∷ n) (front_turn gap (node_turn s f node rest y t t2 here h))
node_turn s f _ rest y t t2 here h = absurd (none-some _ here)

front_node : (s r : Step) (f : FlowNode → FlowNode) (node : FlowNode) (rest : List ℕ) (y u : EntryPieces) (t t2 : List ℕ) →
    path_inside s node rest ≡ Some y → path_inside r node rest ≡ Some u → Turns (node_text y.node y.rest) (node_text (f y.node) y.rest) t t2 →
    length y.rest ≤ length t → length t < length (node_text u.node u.rest) →
    ((u ≡ y) × (path_inside r (within_items (change_item s f) node) rest ≡ Some (with_node (f y.node) y))) ⊎ ComesBefore t t2 u (path_inside r (within_items (change_item s f) node) rest)
front_node s r f (coll k gap is) rest y u t t2 here there h short long = front_item k s r f is rest y u t t2 here there h short long
front_node s r f (anchored n gap node) rest y u t t2 here there h short long = front_node s r f node rest y u t t2 here there h short long
front_node s r f _ rest y u t t2 here there h short long = absurd (none-some _ here)

-- steps lead to no less text after a collection than that after the node that holds it
pub rest_within : (p : List Step) (x : EntryPieces) (w : CollPieces) → coll_along p x.node x.rest ≡ Some w → length x.rest ≤ length w.rest
rest_within [] x w at = omega (arith, ap length (rest_in x.node x.rest w at))
rest_within (t ∷ p) x w at = let u = then_some (path_inside t x.node x.rest) at in omega (arith, rest_within p u.0 w u.2, (inside_within t x.node x.rest u.0 u.1).1)

-- ---- before a collection that changes

-- what is known of the parts of a collection that come before a place
abbrev pub PartsBefore : List ℕ → List ℕ → CollPieces → Items → Type 0
PartsBefore t t2 w is =
    (r : Step) (u : EntryPieces) → item_at w.close r w.items w.rest ≡ Some u → length t < length (node_text (without_anchor u.node) u.rest) → ComesBefore t t2 u (item_at w.close r is w.rest)

-- A collection gets another gap and other items, by which the text from a place on changes.
module _ (w : CollPieces) (gap : List ℕ) (is : Items) (t t2 : List ℕ) (short : length w.rest < length t)
    (turns : Turns (w.gap ++ flow_items_text w.close w.items w.rest) (gap ++ flow_items_text w.close is w.rest) t t2) (before : PartsBefore t t2 w is) where
  own_turn : (node : FlowNode) (rest : List ℕ) → coll_in node rest ≡ Some w → Turns (node_text node rest) (node_text (put_coll gap is node) rest) t t2
  unfolding node_text
  own_turn (coll k g items) rest e =
      front_turn (opening_bracket k ∷ [])
      (subst (λ (v : CollPieces). Turns (v.gap ++ flow_items_text v.close v.items v.rest) (gap ++ flow_items_text v.close is v.rest) t t2)
      (sym (same_Some _ _ e)) turns)
  own_turn (anchored n g node) rest e = front_turn (38 ∷ n) (front_turn g (own_turn node rest e))
  own_turn _ rest e = absurd (none-some _ e)

  turned : (p : List Step) (x : EntryPieces) → coll_along p x.node x.rest ≡ Some w → Turns (node_text x.node x.rest) (node_text (collection_put p gap is x.node) x.rest) t t2
  turned [] x at = own_turn x.node x.rest at
  turned (s ∷ p) x at =
      let u = then_some (path_inside s x.node x.rest) at in
      node_turn s (collection_put p gap is) x.node x.rest u.0 t t2 u.1 (turned p u.0 u.2)

  own_before : (r : Step) (node : FlowNode) (rest : List ℕ) (u : EntryPieces) → coll_in node rest ≡ Some w → path_inside r node rest ≡ Some u →
      length t < length (node_text (without_anchor u.node) u.rest) → ComesBefore t t2 u (path_inside r (put_coll gap is node) rest)
  own_before r (coll k g items) rest u e there long = search (rules, same_Some _ _ e)
  own_before r (anchored n g node) rest u e there long = own_before r node rest u e there long
  own_before r _ rest u e there long = absurd (none-some _ e)

  -- a part of an item or entry that comes before
  by_before : (r : Step) (q : List Step) (u z x : EntryPieces) → entry_pieces_at q u ≡ Some z → ComesBefore t t2 u (path_inside r x.node x.rest) → ComesBefore t t2 z (entry_pieces_at (r ∷ q) x)
  by_before r q u z x there b = search (rules, other_part q u z b.0 t t2 b.1 there)

  -- a part that isn't one which the collection is in
  pub earlier_part : (p q : List Step) (x z : EntryPieces) → coll_along p x.node x.rest ≡ Some w → entry_pieces_at q x ≡ Some z →
      ((o : List Step) → coll_along o z.node z.rest ≡ Some w → ⊥) → length t < length (node_text (without_anchor z.node) z.rest) →
      ComesBefore t t2 z (entry_pieces_at q (with_node (collection_put p gap is x.node) x))
  earlier_part p [] x z at there apart long = absurd (apart p (subst (λ (v : EntryPieces). coll_along p v.node v.rest ≡ Some w) (same_Some _ _ there) at))
  earlier_part [] (r ∷ q) x z at there apart long =
      let v = then_some (path_inside r x.node x.rest) there in
      by_before r q v.0 z (with_node (put_coll gap is x.node) x) v.2 (own_before r x.node x.rest v.0 at v.1 (omega (arith, long, part_in q v.0 z v.2)))
  earlier_part (s ∷ p) (r ∷ q) x z at there apart long =
      let y = then_some (path_inside s x.node x.rest) at in
      let v = then_some (path_inside r x.node x.rest) there in
      let small : length y.0.rest ≤ length t = omega (arith, short, rest_within p y.0 w y.2) in
      let large : length t < length (node_text v.0.node v.0.rest) = omega (arith, long, part_in q v.0 z v.2, content_within v.0.node v.0.rest) in
      go y.0 v.0 v.2 (λ there. earlier_part p q y.0 z y.2 there apart long) (front_node s r (collection_put p gap is) x.node x.rest y.0 v.0 t t2 y.1 v.1 (turned p y.0 y.2) small large)
    where
      f : FlowNode → FlowNode
      f = collection_put p gap is

      new : EntryPieces
      new = with_node (within_items (change_item s f) x.node) x

      go : (y u : EntryPieces) → entry_pieces_at q u ≡ Some z → (entry_pieces_at q y ≡ Some z → ComesBefore t t2 z (entry_pieces_at q (with_node (f y.node) y))) →
          ((u ≡ y) × (path_inside r new.node new.rest ≡ Some (with_node (f y.node) y))) ⊎ ComesBefore t t2 u (path_inside r new.node new.rest) → ComesBefore t t2 z (entry_pieces_at (r ∷ q) new)
      go y u there again (inl h) = let c = again (sym (ap (entry_pieces_at q) h.0) ∙ there) in (c.0, c.1, ap (option_and_then (entry_pieces_at q)) h.1 ∙ c.2)
      go y u there again (inr b) = by_before r q u z new there b

  -- a part that ends before the place
  pub part_earlier : (p q : List Step) (x z : EntryPieces) → coll_along p x.node x.rest ≡ Some w → entry_pieces_at q x ≡ Some z → length t ≤ length z.rest → length t < length (node_text (without_anchor z.node) z.rest) →
      ComesBefore t t2 z (entry_pieces_at q (with_node (collection_put p gap is x.node) x))
  part_earlier p q x z at there ends long = earlier_part p q x z at there (λ o e. omega (arith, short, ends, rest_within o z w e)) long

  -- a collection in whose node the one that changes is not
  pub earlier_coll : (p q : List Step) (x : EntryPieces) (z : CollPieces) → coll_along p x.node x.rest ≡ Some w → coll_along q x.node x.rest ≡ Some z →
      ((u : EntryPieces) (o : List Step) → coll_in u.node u.rest ≡ Some z → coll_along o u.node u.rest ≡ Some w → ⊥) → length t < length (after_appended z) →
      (m : List ℕ) × (z.rest ≡ m ++ t) × (coll_along q (collection_put p gap is x.node) x.rest ≡ Some (record z { rest = m ++ t2 }))
  earlier_coll p q x z at there apart long =
      let u = coll_entry q x z there in
      let b = earlier_part p q x u.0 at u.1 (λ o e. apart u.0 o u.2 e) (omega (arith, long, own_end u.0.node u.0.rest z u.2)) in
      (b.0, rest_in u.0.node u.0.rest z u.2 ∙ b.1, part_coll q (with_node (collection_put p gap is x.node) x) (record u.0 { rest = b.0 ++ t2 }) b.2 ∙ in_rest u.0.node u.0.rest (b.0 ++ t2) z u.2)

  -- one whose end is before the place, where that of the one that changes is not
  pub end_earlier : (p q : List Step) (x : EntryPieces) (z : CollPieces) → coll_along p x.node x.rest ≡ Some w → coll_along q x.node x.rest ≡ Some z → length (after_appended w) ≤ length t → length t < length (after_appended z) →
      (m : List ℕ) × (z.rest ≡ m ++ t) × (coll_along q (collection_put p gap is x.node) x.rest ≡ Some (record z { rest = m ++ t2 }))
  end_earlier p q x z at there own long = earlier_coll p q x z at there apart long
    where
      apart : (u : EntryPieces) (o : List Step) → coll_in u.node u.rest ≡ Some z → coll_along o u.node u.rest ≡ Some w → ⊥
      apart u [] is e = omega (arith, own, long, ap (λ (v : CollPieces). length (after_appended v)) (same_Some _ _ (sym is ∙ e)))
      apart u (s ∷ o) is e =
          let y = then_some (path_inside s u.node u.rest) e in
          omega (arith, short, long, node_end s u.node u.rest z y.0 is y.1, rest_within o y.0 w y.2)

-- ---- the text of a collection in which one is edited

pub coll_turn : (x : CollAt) (e : FlowEdit) (changed : tree.Node → tree.Node) → IsCollAt x → IsFlowEdited x e changed → length (e.old ++ e.after) ≤ length (x.coll.gap ++ flow_items_text x.coll.close x.coll.items x.coll.rest) →
    Turns (x.coll.gap ++ flow_items_text x.coll.close x.coll.items x.coll.rest) (e.gap ++ flow_items_text x.coll.close e.items x.coll.rest) (e.old ++ e.after) ((e.lead ++ e.written) ++ e.after)
coll_turn x e changed is_located edited short =
    let i = around_is x is_located in
    let front : List ℕ = i.before ++ (opening_bracket x.coll.close ∷ []) in
    turn_tail front _ _ (e.old ++ e.after) ((e.lead ++ e.written) ++ e.after)
    (edited.text.before, append_assoc i.before (opening_bracket x.coll.close ∷ []) _ ∙ (sym i.text ∙ edited.text.was), append_assoc i.before (opening_bracket x.coll.close ∷ []) _ ∙ (sym (i.new_text e.gap e.items) ∙ edited.text.is)) short

-- ---- before a content that is another one

pub put_before : (k : ℕ) (s r : Step) (m : FlowNode) (is : Items) (rest : List ℕ) (y u : EntryPieces) (t t2 : List ℕ) →
    item_at k s is rest ≡ Some y → item_at k r is rest ≡ Some u → Turns (flow_items_text k is rest) (flow_items_text k (put_item s m is) rest) t t2 →
    length t ≡ length (node_text (without_anchor y.node) y.rest) → length t < length (node_text (without_anchor u.node) u.rest) → ComesBefore t t2 u (item_at k r (put_item s m is) rest)
unfolding flow_items_text
put_before k s r m none rest y u t t2 here there turns size long = absurd (none-some _ here)
put_before k s r m (item key n sep is) rest y u t t2 here there turns size long =
    go (is_here s (key_label (key_content key))) here turns (λ here w there. put_before k (further s) (further r) m is rest y u t t2 here there w size long)
  where
    own : Option EntryPieces
    own = Some (record { key = key; node = n; rest = sep_text sep (flow_items_text k is rest) })

    changed : Bool → Items
    changed a = cond a (item (put_content m key n).0 (put_content m key n).1 sep is) (item key n sep (put_item (further s) m is))

    first : (b : Bool) → own ≡ Some y → cond b own (item_at k (further r) is rest) ≡ Some u → ⊥
    first true here there = search (rules, arith, same_Some)
    first false here there = search (rules, arith, content_within, node_in_items, sep_longer, same_Some, node_longer)

    go : (a : Bool) → cond a own (item_at k (further s) is rest) ≡ Some y →
        Turns (key_text key (node_text n (sep_text sep (flow_items_text k is rest)))) (flow_items_text k (changed a) rest) t t2 →
        (item_at k (further s) is rest ≡ Some y → Turns (flow_items_text k is rest) (flow_items_text k (put_item (further s) m is) rest) t t2 →
        item_at k (further r) is rest ≡ Some u → ComesBefore t t2 u (item_at k (further r) (put_item (further s) m is) rest)) →
        ComesBefore t t2 u (item_at k r (changed a) rest)
    go true here turns again = absurd (first (is_here r (key_label (key_content key))) here there)
    go false here turns again =
        let w = turn_tail (key_text key (node_text n (sep_text sep []))) _ _ t t2 (turn_as (sym (item_cut key n sep _)) (sym (item_cut key n sep _)) turns)
        (omega (arith, size, content_within y.node y.rest, node_in_items k (further s) is rest y here)) in
        item_before key n (is_here r (key_label (key_content key))) there (sep_turn sep w) (again here w)

-- ---- before one more item or entry

pub more_before : (k : ℕ) (r : Step) (key : Key) (m : FlowNode) (gap : List ℕ) (is : Items) (rest : List ℕ) (u : EntryPieces) (t t2 : List ℕ) →
    item_at k r is rest ≡ Some u → Turns (flow_items_text k is rest) (flow_items_text k (add_item key m gap is) rest) t t2 →
    length t ≡ length (after_last k gap is rest) → ComesBefore t t2 u (item_at k r (add_item key m gap is) rest)
unfolding flow_items_text
more_before k r key m gap none rest u t t2 there turns size = absurd (none-some _ there)
more_before k r key m gap (item j n sep none) rest u t t2 there turns size =
    item_before j n (is_here r (key_label (key_content j))) there
    (turn_tail (key_text j (node_text n [])) _ _ t t2 (turn_as (sym (text_cut j n _)) (sym (text_cut j n _)) turns) (omega (arith, size)))
    (λ there. absurd (none-some _ there))
more_before k r key m gap (item j n sep (item j2 n2 sep2 is)) rest u t t2 there turns size =
    let others : Items = item j2 n2 sep2 is in
    let w = turn_tail (key_text j (node_text n (sep_text sep []))) _ _ t t2 (turn_as (sym (item_cut j n sep _)) (sym (item_cut j n sep _)) turns)
    (omega (arith, size, items_end k gap others rest refl)) in
    item_before j n (is_here r (key_label (key_content j))) there (sep_turn sep w)
    (λ there. more_before k (further r) key m gap (item j2 n2 sep2 is) rest u t t2 there w size)
