-- The node of an item, exchanged for one that begins like it.
use Rattle.std.proofs.Common.{rules, ◌≡◌, ℕ, Bool, true, false, not, ◌||◌, cond, List, [], ◌++◌, Some, refl, sym, ap, ◌∙◌, subst}
use Rattle.std.{proofs.Common.append_assoc, proofs.lemmas.Option.same_Some}
use Rattle.yq_core.{specs.Paths.{Step, is_here, further, change_child}, specs.Alike.Alike}
use Rattle.yq_core.specs.Nodes.{Key, bare, keyed, Sep, FlowNode, Items, none, item, key_text, sep_text, node_text, flow_items_text}
use Rattle.yq_core.specs.Nodes.{is_close, IsInlineKey, IsSep, is_empty_node, IsFlowNode, AreFlowItems}
use Rattle.yq_core.{specs.Entries.{EntryPieces, item_at}, specs.Collections.change_item, specs.Trees.{key_content, tree_of, items_tree}}
use Rattle.yq_core.{proofs.AlikePieces.gap_alike, proofs.KeepLaws.{keeps_alike, some_begins}}
use Rattle.yq_core.proofs.KeyKeeps.{lead_gap, key_front, key_keeps}
use Rattle.yq_core.proofs.NodeKeeps.{node_keeps, sep_ends, sep_alike, sep_text_alike, key_text_alike, node_text_alike}
use Rattle.yq_core.{proofs.NodesWrittenLaws.{key_append, sep_append, node_append, node_then}, specs.Tree.key_label}
use Rattle.yq_core.specs.Tree as tree

-- an item before others that begin alike
pub record ItemBefore (d k : ℕ) (key : Key) (n : FlowNode) (s : Sep) (u : List ℕ) : Type 0 where
  pub key_is : IsInlineKey k key (node_text n (sep_text s u))
  pub node_is : IsFlowNode true (Some 0) d n (sep_text s u)
  pub sep_is : IsSep k s u

pub item_kept : (d k : ℕ) (key : Key) (n : FlowNode) (s : Sep) (t u : List ℕ) → is_close k ≡ true → Alike (Some true) (sep_text s t) (sep_text s u) →
    IsSep k s u → IsInlineKey k key (node_text n (sep_text s t)) → IsFlowNode true (Some 0) d n (sep_text s t) → IsSep k s t →
    ItemBefore d k key n s u
item_kept d k key n s t u c like sep x y z =
    let old : List ℕ = sep_text s t in
    let new : List ℕ = sep_text s u in
    let e = sep_ends k s t z in
    let h = sep_ends k s u sep in
    let node = node_keeps k n d false old new c e h (keeps_alike (Some true) false (node_text n []) old new like) y in
    record { key_is = key_keeps k d false key n old new c e h (keeps_alike (Some true) false (key_text key (node_text n [])) old new like) y node x; node_is = node; sep_is = sep }

-- a node in the place of another one that begins like it
pub record Swaps (d : ℕ) (old new : FlowNode) (rest : List ℕ) : Type 0 where
  pub is : IsFlowNode true (Some 0) d new rest
  pub like : Alike (Some true) (node_text old rest) (node_text new rest)
  pub old_some : is_empty_node old ≡ false
  pub new_some : is_empty_node new ≡ false

pub record Swapped (d k : ℕ) (is new : Items) (rest : List ℕ) (y : EntryPieces) (to : FlowNode) : Type 0 where
  pub are : AreFlowItems d k new rest
  pub like : Alike (Some true) (flow_items_text k is rest) (flow_items_text k new rest)

key_like : (k d : ℕ) (key : Key) (n m : FlowNode) (r : List ℕ) → IsFlowNode true (Some 0) d n r → Swaps d n m r → IsInlineKey k key (node_text n r) → IsInlineKey k key (node_text m r)
key_like k d bare n m r x s h = h
key_like k d (keyed p b g) n m r x s h = search (rules, some_begins, key_front, gap_alike, lead_gap)

some_or : (a b : Bool) → b ≡ false → (a || not b) ≡ true
some_or a b h = search rules

pub items_swap : (d k : ℕ) (s : Step) (f : FlowNode → FlowNode) (is : Items) (rest : List ℕ) (y : EntryPieces) → is_close k ≡ true →
    AreFlowItems d k is rest → item_at k s is rest ≡ Some y → Swaps d y.node (f y.node) y.rest → Swapped d k is (change_item s f is) rest y (f y.node)
unfolding flow_items_text AreFlowItems
items_swap d k s f none rest y c a h w = cc
items_swap d k s f (item key n sep is) rest y c a h w = go (is_here s (key_label (key_content key))) (items_swap d k (further s) f is rest y c a.4) h where
  tail : List ℕ
  tail = flow_items_text k is rest

  here : EntryPieces
  here = record { key = key; node = n; rest = sep_text sep tail }

  go : (b : Bool) → (item_at k (further s) is rest ≡ Some y → Swaps d y.node (f y.node) y.rest → Swapped d k is (change_item (further s) f is) rest y (f y.node)) → cond b (Some here) (item_at k (further s) is rest) ≡ Some y →
      Swapped d k (item key n sep is) (cond b (item key (f n) sep is) (item key n sep (change_item (further s) f is))) rest y (f y.node)
  go true again e = search (rules, tail, same_Some, key_like, some_or, key_text_alike)
  go false again e =
      let more = again e w in
      let new : List ℕ = flow_items_text k (change_item (further s) f is) rest in
      let like = sep_text_alike sep tail new more.like in
      let kept = item_kept d k key n sep tail new c like (sep_alike k sep tail new more.like a.3) a.0 a.2 a.3 in
      search (rules, key_text_alike, tail, node_text_alike)

pub text_cut : (key : Key) (n : FlowNode) (t : List ℕ) → key_text key (node_text n t) ≡ key_text key (node_text n []) ++ t
text_cut key n t = ap (key_text key) (node_then n t) ∙ key_append key (node_text n []) t

pub item_cut : (key : Key) (n : FlowNode) (sep : Sep) (t : List ℕ) → key_text key (node_text n (sep_text sep t)) ≡ key_text key (node_text n (sep_text sep [])) ++ t
item_cut key n sep t = ap (λ l. key_text key (node_text n l)) (sep_append sep [] t) ∙ (ap (key_text key) (node_append n (sep_text sep []) t) ∙ key_append key (node_text n (sep_text sep [])) t)

-- the text before the node of an item
pub record InItems (k : ℕ) (s : Step) (is : Items) (rest : List ℕ) (y : EntryPieces) : Type 0 where
  pub before : List ℕ
  pub was : flow_items_text k is rest ≡ before ++ node_text y.node y.rest
  pub is_now : (f : FlowNode → FlowNode) → flow_items_text k (change_item s f is) rest ≡ before ++ node_text (f y.node) y.rest

pub in_items : (k : ℕ) (s : Step) (is : Items) (rest : List ℕ) (y : EntryPieces) → item_at k s is rest ≡ Some y → InItems k s is rest y
unfolding flow_items_text
in_items k s none rest y h = cc
in_items k s (item key n sep is) rest y h = go (is_here s (key_label (key_content key))) refl (in_items k (further s) is rest y) h where
  tail : List ℕ
  tail = flow_items_text k is rest

  here : EntryPieces
  here = record { key = key; node = n; rest = sep_text sep tail }

  front : List ℕ
  front = key_text key (node_text n (sep_text sep []))

  go : (b : Bool) → is_here s (key_label (key_content key)) ≡ b → (item_at k (further s) is rest ≡ Some y → InItems k (further s) is rest y) →
      cond b (Some here) (item_at k (further s) is rest) ≡ Some y → InItems k s (item key n sep is) rest y
  go true q again e = subst (λ (z : EntryPieces). InItems k s (item key n sep is) rest z) (same_Some _ _ e) (record {
    before = key_text key [];
    was = key_append key [] (node_text n (sep_text sep tail));
    is_now = λ f. rw q (key_append key [] (node_text (f n) (sep_text sep tail)));
  })
  go false q again e =
      let more = again e in
      record {
        before = front ++ more.before;
        was = item_cut key n sep tail ∙ (ap (λ l. front ++ l) more.was ∙ sym (append_assoc front more.before (node_text y.node y.rest)));
        is_now = λ f. rw q (item_cut key n sep (flow_items_text k (change_item (further s) f is) rest) ∙ (ap (λ l. front ++ l) (more.is_now f) ∙ sym (append_assoc front more.before (node_text (f y.node) y.rest))));
      }

-- its tree
pub items_change : (k : ℕ) (s : Step) (f : FlowNode → FlowNode) (g : tree.Node → tree.Node) (is : Items) (rest : List ℕ) (y : EntryPieces) →
    item_at k s is rest ≡ Some y → tree_of (f y.node) ≡ g (tree_of y.node) → items_tree (change_item s f is) ≡ change_child s g (items_tree is)
unfolding items_tree
items_change k s f g none rest y h e = cc
items_change k s f g (item key n sep is) rest y h e = search (rules, same_Some, items_change k (further s) f g is rest y)
