-- A part of a node that comes after one whose content were replaced by another stays as it is, in whichever collections the two are.
use Rattle.std.proofs.Common.{rules, ◌≡◌, ℕ, ◌<◌, ◌≤◌, Bool, true, false, cond, List, [], ◌∷◌, length, Option, Some, option_and_then, refl}
use Rattle.std.{proofs.Common.{ap, ◌∙◌, arith, length-append}, proofs.lemmas.Option.{none-some, same_Some}}
use Rattle.yq_core.specs.Paths.{Step, is_here, further}
use Rattle.yq_core.specs.Collections.{CollPieces, change_item, coll_along, coll_in, collection_put, put_coll, within_items}
use Rattle.yq_core.specs.Entries.{EntryPieces, entry_pieces_at, path_inside, item_at}
use Rattle.yq_core.specs.Nodes.{Key, FlowNode, coll, anchored, Items, none, item, flow_items_text, node_text, sep_text, without_anchor}
use Rattle.yq_core.{specs.Trees.key_content, specs.Tree.key_label, proofs.NodeAgain.{key_longer, node_longer, sep_longer}}
use Rattle.yq_core.proofs.PathLaws.{then_some}
use Rattle.yq_flow_edits.{specs.FlowEdits.{put_content, put_item, spaced_key}, proofs.ItemPlaces.item_rest}
use Rattle.yq_edit_laws.proofs.FlowPlacements.{coll_entry}

-- ---- where parts are

-- an item or entry is no longer than all
pub node_in_items : (k : ℕ) (s : Step) (is : Items) (rest : List ℕ) (y : EntryPieces) → item_at k s is rest ≡ Some y → length (node_text y.node y.rest) ≤ length (flow_items_text k is rest)
unfolding flow_items_text
node_in_items k s none rest y e = absurd (none-some _ e)
node_in_items k s (item key n sep is) rest y e = search (rules, arith, key_longer, same_Some, sep_longer, node_longer, node_in_items k (further s) is rest y)

-- a content is no longer than its node
pub content_within : (node : FlowNode) (rest : List ℕ) → length (node_text (without_anchor node) rest) ≤ length (node_text node rest)
unfolding node_text
content_within node rest = search (rules, arith, length-append)

-- an item or entry is shorter than the content that holds it
pub inside_within : (s : Step) (node : FlowNode) (rest : List ℕ) (y : EntryPieces) → path_inside s node rest ≡ Some y → (length (node_text y.node y.rest) < length (node_text (without_anchor node) rest)) × (length rest ≤ length y.rest)
unfolding node_text
inside_within s (anchored n gap node) rest y e = let within = inside_within s node rest y e in (omega (arith, within.0, content_within node rest), within.1)
inside_within s node rest y e = search (rules, arith, none-some, node_in_items, length-append, item_rest)

part_within : (p : List Step) (s : Step) (x : EntryPieces) (w : CollPieces) (y : EntryPieces) → coll_along p x.node x.rest ≡ Some w →
    item_at w.close s w.items w.rest ≡ Some y → length (node_text y.node y.rest) < length (node_text (without_anchor x.node) x.rest)
part_within [] s x w y e at = (inside_within s x.node x.rest y (coll_entry s x.node x.rest w e ∙ at)).0
part_within (t ∷ p) s x w y e at =
    let u = then_some (path_inside t x.node x.rest) e in
    omega (arith, part_within p s u.0 w y u.2 at, content_within u.0.node u.0.rest, (inside_within t x.node x.rest u.0 u.1).0)

-- ---- in one collection

-- a key's content stays
spaced_content : (key : Key) → key_content (spaced_key key) ≡ key_content key
spaced_content key = search rules

put_key : (m : FlowNode) (key : Key) (n : FlowNode) → key_content (put_content m key n).0 ≡ key_content key
put_key m key n = search (rules, spaced_content)

later_item : (k : ℕ) (s r : Step) (m : FlowNode) (is : Items) (rest : List ℕ) (y z : EntryPieces) → item_at k s is rest ≡ Some y → item_at k r is rest ≡ Some z → length z.rest < length y.rest → item_at k r (put_item s m is) rest ≡ Some z
later_item k s r m none rest y z here there less = absurd (none-some _ here)
later_item k s r m (item key n sep is) rest y z here there less =
    go (is_here s (key_label (key_content key))) (is_here r (key_label (key_content key))) refl here there (λ here there. later_item k (further s) (further r) m is rest y z here there less)
  where
    own : Option EntryPieces
    own = Some (record { key = key; node = n; rest = sep_text sep (flow_items_text k is rest) })

    go : (a b : Bool) → is_here r (key_label (key_content key)) ≡ b → cond a own (item_at k (further s) is rest) ≡ Some y → cond b own (item_at k (further r) is rest) ≡ Some z →
        (item_at k (further s) is rest ≡ Some y → item_at k (further r) is rest ≡ Some z → item_at k (further r) (put_item (further s) m is) rest ≡ Some z) →
        item_at k r (cond a (item (put_content m key n).0 (put_content m key n).1 sep is) (item key n sep (put_item (further s) m is))) rest ≡ Some z
    go true true is_r here there again = absurd (omega (arith, less, ap (λ (x : EntryPieces). length x.rest) (same_Some _ _ here), ap (λ (x : EntryPieces). length x.rest) (same_Some _ _ there)))
    go true false is_r here there again = search (rules, ap (λ (c : Option (List ℕ)). is_here r (key_label c)) (put_key m key n) ∙ is_r)
    go false true is_r here there again =
        absurd (omega (arith, less, node_in_items k (further s) is rest y here, node_longer y.node y.rest, sep_longer sep (flow_items_text k is rest), ap (λ (x : EntryPieces). length x.rest) (same_Some _ _ there)))
    go false false is_r here there again = search rules

pub node_put : (s r : Step) (m node : FlowNode) (rest : List ℕ) (w : CollPieces) (y z : EntryPieces) → coll_in node rest ≡ Some w →
    item_at w.close s w.items w.rest ≡ Some y → path_inside r node rest ≡ Some z → length z.rest < length y.rest →
    path_inside r (put_coll w.gap (put_item s m w.items) node) rest ≡ Some z
node_put s r m (coll k gap is) rest w y z e here there less = search (rules, same_Some _ _ e, later_item)
node_put s r m (anchored n gap node) rest w y z e here there less = node_put s r m node rest w y z e here there less
node_put s r m _ rest w y z e here there less = absurd (none-some _ e)

-- ---- in nested ones

-- an item or entry that has another node
abbrev pub with_node : FlowNode → EntryPieces → EntryPieces
with_node m x = record x { node = m }

-- something holds of an item or entry, if there is one
abbrev pub HoldsOf : (EntryPieces → Type 0) → Option EntryPieces → Type 0
HoldsOf Q o = (u : EntryPieces) × (o ≡ Some u) × Q u

-- something holds of the item or entry to which steps lead from one
abbrev pub Leads : List Step → (EntryPieces → Type 0) → EntryPieces → Type 0
Leads [] Q x = Q x
Leads (r ∷ q) Q x = HoldsOf (Leads q Q) (path_inside r x.node x.rest)

item_changed : (k : ℕ) (s r : Step) (f : FlowNode → FlowNode) (Q : EntryPieces → Type 0) (is : Items) (rest : List ℕ) (y : EntryPieces) → item_at k s is rest ≡ Some y → HoldsOf Q (item_at k r is rest) →
    ((u : EntryPieces) → Q u → length u.rest < length (node_text y.node y.rest)) → (Q y → Q (with_node (f y.node) y)) → HoldsOf Q (item_at k r (change_item s f is) rest)
item_changed k s r f Q none rest y here there less own_stays = absurd (none-some _ here)
item_changed k s r f Q (item key n sep is) rest y here there less own_stays =
    go (is_here s (key_label (key_content key))) (is_here r (key_label (key_content key))) refl here there.1 (λ here at. item_changed k (further s) (further r) f Q is rest y here (there.0, at, there.2) less own_stays)
  where
    own : FlowNode → EntryPieces
    own m = record { key = key; node = m; rest = sep_text sep (flow_items_text k is rest) }

    go : (a b : Bool) → is_here r (key_label (key_content key)) ≡ b → cond a (Some (own n)) (item_at k (further s) is rest) ≡ Some y → cond b (Some (own n)) (item_at k (further r) is rest) ≡ Some there.0 →
        (item_at k (further s) is rest ≡ Some y → item_at k (further r) is rest ≡ Some there.0 → HoldsOf Q (item_at k (further r) (change_item (further s) f is) rest)) →
        HoldsOf Q (item_at k r (cond a (item key (f n) sep is) (item key n sep (change_item (further s) f is))) rest)
    go a b is_r here at again = search (rules, arith, same_Some, node_in_items, sep_longer)

node_changed : (s r : Step) (f : FlowNode → FlowNode) (Q : EntryPieces → Type 0) (node : FlowNode) (rest : List ℕ) (y : EntryPieces) → path_inside s node rest ≡ Some y → HoldsOf Q (path_inside r node rest) →
    ((u : EntryPieces) → Q u → length u.rest < length (node_text y.node y.rest)) → (Q y → Q (with_node (f y.node) y)) → HoldsOf Q (path_inside r (within_items (change_item s f) node) rest)
node_changed s r f Q (coll k gap is) rest y here there less own_stays = item_changed k s r f Q is rest y here there less own_stays
node_changed s r f Q (anchored n gap node) rest y here there less own_stays = node_changed s r f Q node rest y here there less own_stays
node_changed s r f Q _ rest y here there less own_stays = absurd (none-some _ here)

-- The items of a collection are others, and a number of bytes at the end of the text stay: what holds of items or entries that end there holds after it, if it
-- does where that collection is inside them, and where they are inside it.
module _ (Q : EntryPieces → Type 0) (w : CollPieces) (gap : List ℕ) (is : Items) (stay : ℕ) (ends : (u : EntryPieces) → Q u → length u.rest < stay)
    (within : (p : List Step) (u : EntryPieces) → coll_along p u.node u.rest ≡ Some w → stay ≤ length (node_text u.node u.rest))
    (own : (p : List Step) (u : EntryPieces) → coll_along p u.node u.rest ≡ Some w → Q u → Q (with_node (collection_put p gap is u.node) u))
    (inside : (r : Step) (u v : EntryPieces) → coll_in u.node u.rest ≡ Some w → path_inside r u.node u.rest ≡ Some v → length v.rest < stay → path_inside r (put_coll gap is u.node) u.rest ≡ Some v) where
  leads_end : (q : List Step) (u : EntryPieces) → Leads q Q u → length u.rest < stay
  leads_end [] u h = ends u h
  leads_end (r ∷ q) u h = omega (arith, leads_end q h.0 h.2, (inside_within r u.node u.rest h.0 h.1).1)

  pub later : (p q : List Step) (x : EntryPieces) → coll_along p x.node x.rest ≡ Some w → Leads q Q x → Leads q Q (with_node (collection_put p gap is x.node) x)
  later p [] x e h = own p x e h
  later [] (r ∷ q) x e h = (h.0, inside r x h.0 e h.1 (leads_end q h.0 h.2), h.2)
  later (t ∷ p) (r ∷ q) x e h =
      let u = then_some (path_inside t x.node x.rest) e in
      node_changed t r (collection_put p gap is) (Leads q Q) x.node x.rest u.0 u.1 h (λ v at. omega (arith, leads_end q v at, within p u.0 u.2)) (λ at. later p q u.0 u.2 at)

-- ---- parts

-- steps lead to an item or entry
pub part_leads : (q : List Step) (x z : EntryPieces) → entry_pieces_at q x ≡ Some z → Leads q (λ u. u ≡ z) x
part_leads [] x z e = same_Some _ _ e
part_leads (r ∷ q) x z e = let u = then_some (path_inside r x.node x.rest) e in (u.0, u.1, part_leads q u.0 z u.2)

pub leads_part : (q : List Step) (x z : EntryPieces) → Leads q (λ u. u ≡ z) x → entry_pieces_at q x ≡ Some z
leads_part [] x z h = ap Some h
leads_part (r ∷ q) x z h = ap (option_and_then (entry_pieces_at q)) h.1 ∙ leads_part q h.0 z h.2

-- what comes after an item or entry is shorter than each content that holds it
pub part_stays : (p : List Step) (s : Step) (w : CollPieces) (y u : EntryPieces) → item_at w.close s w.items w.rest ≡ Some y → coll_along p u.node u.rest ≡ Some w → length y.rest < length (node_text (without_anchor u.node) u.rest)
part_stays p s w y u here e = omega (arith, node_longer y.node y.rest, part_within p s u w y e here)

pub later_part : (p q : List Step) (s : Step) (m : FlowNode) (x : EntryPieces) (w : CollPieces) (y z : EntryPieces) → coll_along p x.node x.rest ≡ Some w → item_at w.close s w.items w.rest ≡ Some y → entry_pieces_at q x ≡ Some z →
    length z.rest < length y.rest → length (node_text (without_anchor z.node) z.rest) ≤ length y.rest → entry_pieces_at q (record x { node = collection_put p w.gap (put_item s m w.items) x.node }) ≡ Some z
later_part p q s m x w y z e here there less begins =
    leads_part q _ z (later (λ u. u ≡ z) w w.gap (put_item s m w.items) (length y.rest)
    (λ u is. omega (arith, less, ap (λ (v : EntryPieces). length v.rest) is))
    (λ p u at. omega (arith, part_stays p s w y u here at, content_within u.node u.rest))
    (λ p u at is. absurd (omega (arith, begins, part_stays p s w y u here at, ap (λ (v : EntryPieces). length (node_text (without_anchor v.node) v.rest)) is)))
    (λ r u v at inside less. node_put s r m u.node u.rest w y v at here inside less) p q x e (part_leads q x z there))
