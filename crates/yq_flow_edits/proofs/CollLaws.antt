-- The collection of a node, exchanged for another one.
use Rattle.std.proofs.Common.{◌≡◌, ℕ, zero, suc, ◌+◌, ◌≤◌, Bool, true, false, not, eqb, cond, List, [], ◌∷◌, ◌++◌, length, Option, Some}
use Rattle.std.{proofs.Common.{None, refl, sym, ap, ◌∙◌, subst, arith, append_assoc, rules}, proofs.lemmas.Bool.{false≢true, cond_both}}
use Rattle.std.proofs.lemmas.Option.{same_Some}
use Rattle.yq_core.{specs.Paths.within, specs.Text.{is_empty, is_white}, specs.Alike.{ends_lookahead, Alike, stop}, specs.Gaps.IsInlineGap}
use Rattle.yq_core.specs.Nodes.{FlowNode, empty, alias, scalar, coll, anchored, Items, node_text, flow_items_text, opening_bracket}
use Rattle.yq_core.specs.Nodes.{begins_content, is_close, IsApart, IsLead, IsName, is_empty_node, IsFlowNode, AreFlowItems}
use Rattle.yq_core.specs.Collections.{CollPieces, coll_text, coll_in, put_coll}
use Rattle.yq_core.{specs.Trees.{tree_collection, with_name, tree_of, items_tree}, proofs.AlikePieces.{gap_alike, none_unless, name_by}}
use Rattle.yq_core.specs.Tree as tree

pub open_stop : (k : ℕ) → ends_lookahead (opening_bracket k) ≡ true
open_stop k = elim (eqb k 125) as (λ c. ends_lookahead (cond c 123 91) ≡ true) [ true ↦ refl | false ↦ refl ]

open_begins : (flow : Bool) (k : ℕ) (t : List ℕ) → begins_content flow (opening_bracket k ∷ t) ≡ true
open_begins flow k t = cond_both (eqb k 125) 123 91 (λ (b : ℕ). begins_content flow (b ∷ t) ≡ true) (λ _. refl) (λ _. refl)

-- What is known of a collection in a node, and of the node with another one in its place.
pub record IsLocatedAt (flow : Bool) (spaces : Option ℕ) (d : ℕ) (node : FlowNode) (rest : List ℕ) (c : CollPieces) (deep : ℕ)
    (put : List ℕ → Items → FlowNode) (changed : (tree.Children → tree.Children) → tree.Node → tree.Node) : Type 0 where
  pub inner_depth : ℕ
  pub depths : d ≡ suc (deep + inner_depth)
  pub closes : is_close c.close ≡ true
  pub gap : IsInlineGap c.gap (flow_items_text c.close c.items c.rest)
  pub items : AreFlowItems inner_depth c.close c.items c.rest
  pub before : List ℕ
  pub text : node_text node rest ≡ before ++ coll_text c.close c.gap c.items c.rest
  pub some : is_empty_node node ≡ false
  pub longer : length rest ≤ length c.rest
  pub new : (g : List ℕ) (is : Items) → IsInlineGap g (flow_items_text c.close is c.rest) → AreFlowItems inner_depth c.close is c.rest → IsFlowNode flow spaces d (put g is) rest
  pub new_text : (g : List ℕ) (is : Items) → node_text (put g is) rest ≡ before ++ coll_text c.close g is c.rest
  pub new_some : (g : List ℕ) (is : Items) → is_empty_node (put g is) ≡ false
  pub like : (g : List ℕ) (is : Items) → Alike (Some true) (node_text node rest) (node_text (put g is) rest)
  pub new_tree : (g : List ℕ) (is : Items) (h : tree.Children → tree.Children) → items_tree is ≡ h (items_tree c.items) → tree_of (put g is) ≡ changed h (tree_of node)

-- trees
collection_within : (k : ℕ) (h : tree.Children → tree.Children) (cs ds : tree.Children) → ds ≡ h cs → tree_collection k ds ≡ within h (tree_collection k cs)
collection_within k h cs ds e = elim (eqb k 125) as (λ c. cond c (tree.map None ds) (tree.list None ds) ≡ within h (cond c (tree.map None cs) (tree.list None cs))) [ true ↦ ap (tree.map None) e | false ↦ ap (tree.list None) e ]

named_within : (n : List ℕ) (h : tree.Children → tree.Children) (v : tree.Node) → with_name n (within h v) ≡ within h (with_name n v)
named_within n h v = search rules

-- after an anchor
name_open : (n g : List ℕ) (k : ℕ) (t u : List ℕ) → IsName n (g ++ (opening_bracket k ∷ t)) → IsName n (g ++ (opening_bracket k ∷ u))
name_open n [] k t u h = name_by n (opening_bracket k ∷ t) (opening_bracket k ∷ u) h.ends h
name_open n (b ∷ g) k t u h = name_by n (b ∷ (g ++ (opening_bracket k ∷ t))) (b ∷ (g ++ (opening_bracket k ∷ u))) h.ends h

apart_open : (flow : Bool) (g : List ℕ) (k : ℕ) (t u : List ℕ) → IsApart flow g (opening_bracket k ∷ t) → IsApart flow g (opening_bracket k ∷ u)
apart_open true g k t u h = gap_alike (Some true) g (opening_bracket k ∷ t) (opening_bracket k ∷ u) (stop (open_stop k)) h
apart_open false g k t u h = (none_unless is_white g (opening_bracket k ∷ t) (opening_bracket k ∷ u) h.0, h.1)

lead_open : (flow : Bool) (g : List ℕ) (k : ℕ) (t u : List ℕ) → not (is_empty g) ≡ true → IsLead flow (begins_content flow) g (opening_bracket k ∷ t) → IsLead flow (begins_content flow) g (opening_bracket k ∷ u)
lead_open flow g k t u some h = search (rules, apart_open, open_begins, false≢true)

-- the collection of a node
pub coll_is_there : (flow : Bool) (spaces : Option ℕ) (d : ℕ) (node : FlowNode) (rest : List ℕ) (c : CollPieces) → IsFlowNode flow spaces d node rest →
    coll_in node rest ≡ Some c → IsLocatedAt flow spaces d node rest c 0 (λ g is. put_coll g is node) within
unfolding node_text IsFlowNode tree_of
coll_is_there flow spaces d empty rest c x h = cc
coll_is_there flow spaces d (alias n) rest c x h = cc
coll_is_there flow spaces d (scalar p) rest c x h = cc
coll_is_there flow spaces zero (coll k g is) rest c x h = absurd x.2
coll_is_there flow spaces (suc d) (coll k g is) rest c x h = subst (λ (c : CollPieces). IsLocatedAt flow spaces (suc d) (coll k g is) rest c 0 (λ g2 is2. coll k g2 is2) within) (same_Some _ _ h) (record {
  inner_depth = d;
  depths = omega arith;
  closes = x.0;
  gap = x.1;
  items = x.2;
  before = [];
  text = refl;
  some = refl;
  longer = omega arith;
  new = λ g2 is2 gap are. (x.0, gap, are);
  new_text = λ g2 is2. refl;
  new_some = λ g2 is2. refl;
  like = λ g2 is2. stop (open_stop k);
  new_tree = λ g2 is2 f e. collection_within k f (items_tree is) (items_tree is2) e;
})
coll_is_there flow spaces d (anchored n g empty) rest c x h = cc
coll_is_there flow spaces d (anchored n g (alias m)) rest c x h = cc
coll_is_there flow spaces d (anchored n g (scalar p)) rest c x h = cc
coll_is_there flow spaces d (anchored n g (anchored m q node)) rest c x h = absurd (false≢true x.3)
coll_is_there flow spaces zero (anchored n g (coll k q is)) rest c x h = absurd x.4.2
coll_is_there flow spaces (suc d) (anchored n g (coll k q is)) rest c x h =
    subst (λ (c : CollPieces). IsLocatedAt flow spaces (suc d) (anchored n g (coll k q is)) rest c 0 (λ g2 is2. anchored n g (coll k g2 is2)) within)
    (same_Some _ _ h) (record {
      inner_depth = d;
      depths = omega arith;
      closes = x.4.0;
      gap = x.4.1;
      items = x.4.2;
      before = 38 ∷ (n ++ g);
      text = ap (λ l. 38 ∷ l) (sym (append_assoc n g (coll_text k q is rest)));
      some = refl;
      longer = omega arith;
      new = λ g2 is2 gap are. search (rules, name_open, lead_open);
      new_text = λ g2 is2. ap (λ l. 38 ∷ l) (sym (append_assoc n g (coll_text k g2 is2 rest)));
      new_some = λ g2 is2. refl;
      like = λ g2 is2. stop refl;
      new_tree = λ g2 is2 f e. ap (with_name n) (collection_within k f (items_tree is) (items_tree is2) e) ∙ named_within n f (tree_collection k (items_tree is));
    })
