-- What is known of a flow collection with one item or entry, by what is next to that and by the step that leads to it.
use Rattle.std.proofs.Common.{arith, rules, ◌≡◌, ℕ, zero, suc, Bool, true, false, cond, eqb, List, Some, None, refl, sym, ap, ◌∙◌}
use Rattle.std.{proofs.lemmas.Bool.false≢true, proofs.lemmas.Grind.common_steps, proofs.lemmas.Option.{none-some, same_Some}}
use Rattle.std.specs.Prelude.{nat_lt}
use Rattle.yq_edit_rules.proofs.FlowLocationLaws.{coll_entry}
use Rattle.yq_core.{specs.Answers.◌>>=◌, specs.Collections.{CollPieces, coll_along, coll_in}, specs.Paths.{Nth, Step, To, further, is_here}}
use Rattle.yq_core.specs.Entries.{EntryPieces, entry_pieces_at}
use Rattle.yq_core.specs.Nodes.{FlowNode, Key, bare, keyed, Items, none, item, coll, anchored, AreFlowItems, IsInlineKey}
use Rattle.yq_core.{proofs.NodeLaws.all_takes, specs.Tree.key_label, specs.Trees.{items_tree, key_content, tree_of, with_name}}
use Rattle.yq_core.{proofs.Bools.bind_some, proofs.TreeLaws.node_tree}
use Rattle.yq_flow_edits.proofs.ContextLaws.{path_is_there}
use Rattle.yq_inline.specs.Along.{as_item, front_read}
use Rattle.yq_inline.specs.Neighbours.{PartTexts, PartsAround, around_part, coll_around, coll_read, first_ends, first_text}
use Rattle.yq_inline.specs.declared.before_offset.LeadingNode.{LeadingNode}
use Rattle.yq_outline.specs.Counts.{count}
use Rattle.yq_places.specs.NodesAt.{NodeAt, node_summary}
use Rattle.yq_lookup.specs.RowFronts.{summary_along}
use Rattle.yq_edit_laws.specs.FlowRemovals.{sole_kind}
use Rattle.yq_core.specs.Tree as tree
use Rattle.yq_places.specs.NodesAt as nodes

-- ---- what a collection is

abbrev kind_of : Bool → Bool → NodeAt
kind_of by_key several = cond by_key (nodes.map several) (nodes.list several)

named_kind : (a : List ℕ) (n : tree.Node) → node_summary (with_name a n) ≡ node_summary n
named_kind a n = search rules

coll_kind : (node : FlowNode) (rest : List ℕ) (w : CollPieces) → coll_in node rest ≡ Some w → node_summary (tree_of node) ≡ kind_of (eqb w.close 125) (nat_lt 1 (count (items_tree w.items)))
unfolding tree_of
coll_kind (coll k gap is) rest w e = search (rules, same_Some)
coll_kind (anchored n gap node) rest w e = named_kind n (tree_of node) ∙ coll_kind node rest w e
coll_kind _ rest w e = absurd (none-some _ e)

-- ---- a sole item or entry

one_before : (k : ℕ) (s : Step) (p : PartTexts) (is : Items) (rest : List ℕ) (x : PartsAround) → around_part k s (Some p) is rest ≡ Some x → x.before ≡ None → ⊥
one_before k s p none rest x e first = none-some _ e
one_before k s p (item key n sep is) rest x e first = search (rules, none-some, same_Some, one_before k (further s) (first_ends k key n sep is rest) is rest x)

one_left : (k : ℕ) (s : Step) (is : Items) (rest : List ℕ) (x : PartsAround) → around_part k s None is rest ≡ Some x → x.before ≡ None → x.next ≡ None → nat_lt 1 (count (items_tree is)) ≡ false
unfolding items_tree
one_left k s none rest x e first last = refl
one_left k s (item key n sep none) rest x e first last = refl
one_left k s (item key n sep (item key2 n2 sep2 is)) rest x e first last = grind (arith, common_steps, none-some, same_Some, one_before)

-- ---- the step to it

-- entries alone have keys
key_kind : (k : ℕ) (s : Step) (key : Key) (rest : List ℕ) → IsInlineKey k key rest → is_here s (key_label (key_content key)) ≡ true → kind_of (eqb k 125) false ≡ sole_kind s
key_kind k (To j) bare rest valid e = absurd (false≢true e)
key_kind k (To j) (keyed p b g) rest valid e = ap (λ (b : Bool). kind_of b false) valid.0
key_kind k (Nth zero) bare rest valid e = ap (λ (b : Bool). kind_of b false) valid
key_kind k (Nth zero) (keyed p b g) rest valid e = absurd (false≢true e)
key_kind k (Nth (suc n)) key rest valid e = absurd (false≢true e)

first_kind : (d k : ℕ) (s : Step) (is : Items) (rest : List ℕ) (x : PartsAround) → AreFlowItems d k is rest → around_part k s None is rest ≡ Some x → x.before ≡ None → kind_of (eqb k 125) false ≡ sole_kind s
unfolding AreFlowItems
first_kind d k s none rest x are e first = absurd (none-some _ e)
first_kind d k s (item key n sep is) rest x are e first = go (is_here s (key_label (key_content key))) refl e
  where
    go : (b : Bool) → is_here s (key_label (key_content key)) ≡ b →
        cond b (Some (record { before = None; here = first_ends k key n sep is rest; next = first_text k is rest }))
        (around_part k (further s) (Some (first_ends k key n sep is rest)) is rest) ≡ Some x →
        kind_of (eqb k 125) false ≡ sole_kind s
    go true here there = key_kind k s key _ are.0 here
    go false here there = absurd (one_before k (further s) (first_ends k key n sep is rest) is rest x there first)

-- ---- in a node in front of a text

module _ (ss : List Step) (n : LeadingNode) (s : Step) (y : PartsAround) (is : Some y ≡ (coll_read ss (front_read n) >>= coll_around s)) (first : y.before ≡ None) (last : y.next ≡ None) where
  abbrev w : (w : CollPieces) × (coll_read ss (front_read n) ≡ Some w) × (coll_around s w ≡ Some y)
  w = bind_some (coll_read ss (front_read n)) (sym is)

  abbrev x : (x : FlowNode × List ℕ) × (front_read n ≡ Some x) × (coll_along ss x.0 x.1 ≡ Some w.0)
  x = bind_some (front_read n) w.1

  abbrev there : (z : EntryPieces) × (entry_pieces_at ss (as_item x.0) ≡ Some z) × (coll_in z.node z.rest ≡ Some w.0)
  there = coll_entry ss (as_item x.0) w.0 x.2

  few : nat_lt 1 (count (items_tree w.0.items)) ≡ false
  few = one_left w.0.close s w.0.items w.0.rest y w.2 first last

  kind : kind_of (eqb w.0.close 125) false ≡ sole_kind s
  kind =
      let valid = (all_takes n.flow n.spaces n.depth n.text.now x.0 x.1).1 in
      let at = path_is_there n.flow n.spaces ss n.depth x.0.0 x.0.1 w.0 valid x.2 in
      first_kind at.inner_depth w.0.close s w.0.items w.0.rest y at.items w.2 first

  known : summary_along ss n ≡ Some (kind_of (eqb w.0.close 125) false)
  known = search (rules, same_Some, w.1, node_tree, there.0, x.1, there.1, coll_kind, w.0, there.2, few)

  pub sole_known : summary_along ss n ≡ Some (sole_kind s)
  sole_known = known ∙ ap Some kind
