-- A collection in another one, in the head of a row, that has no more than one item or entry: it is an item or entry there, which an empty collection replaces.
use Rattle.std.proofs.lemmas.Grind.{common_steps}
use Rattle.std.proofs.Common.{arith, rules, ◌≡◌, ℕ, suc, ◌+◌, length, length-append, Bool, true, false, cond, eqb, List, [], ◌∷◌, ◌++◌}
use Rattle.std.{proofs.Common.{Option, Some, refl, sym, ap, ◌∙◌, append_assoc}, proofs.lemmas.Bool.false≢true}
use Rattle.std.{proofs.lemmas.Option.{none-some, same_Some}, specs.Prelude.nat_lt}
use Rattle.yq_core.{specs.Paths.Step, specs.Collections.{CollPieces, coll_along, coll_in}, specs.Entries.{EntryPieces, item_at}}
use Rattle.yq_core.specs.Nodes.{FlowNode, IsFlowNode, Items, anchored, coll, flow_items_text, node_text, without_anchor}
use Rattle.yq_core.{specs.NodesWritten.flow_of, specs.Tree.Node, specs.Trees.{items_tree, tree_collection, tree_of, with_name}}
use Rattle.yq_core.{proofs.Bools.bind_some, proofs.PathLaws.{items_hold, then_some}}
use Rattle.yq_flow_edits.{specs.FlowEdits.FlowEdit, proofs.EditLaws.around_is}
use Rattle.yq_outline.specs.Counts.{count}
use Rattle.yq_row_table.specs.Rows.{Cut, cut_text}
use Rattle.yq_documents.specs.Reading.{read_at}
use Rattle.yq_places.{specs.FlowNodes.flow_collection, specs.FlowViews.LeadsToHead, specs.RemovalPlaces.has_several}
use Rattle.yq_places.specs.Placements.{last_step}
use Rattle.yq_edit_rules.{specs.Edits.empty_collection, specs.FlowRows.{FlowAt, text_after_node}, specs.Replacing.keeps_scalar}
use Rattle.yq_lookup.proofs.RowParts.{node_entry}
use Rattle.yq_edit_laws.{proofs.LaterEnds.rest_in, proofs.FlowSoundLaws.last_is, proofs.FlowPlacements.EntryAt}
use Rattle.yq_edit_laws.proofs.SoleParts.{IsEmptiedBy, last_of, named_children}
use Rattle.yq_core.specs.Tree as tree
use Rattle.yq_edit_laws.proofs.FlowPutLaws as put
use Rattle.yq_edit_laws.proofs.FlowPlacements as placement
use Rattle.yq_edit_rules.proofs.FlowStayLaws as stay

-- ---- the item or entry that a collection is

-- The collection at the end of steps is in an item or entry of the one at the end of those before the last one.
record IsInner (init : List Step) (s : Step) (node : FlowNode) (rest : List ℕ) (z : CollPieces) : Type 0 where
  outer : CollPieces
  found : coll_along init node rest ≡ Some outer
  entry : EntryPieces
  at : item_at outer.close s outer.items outer.rest ≡ Some entry
  inside : coll_in entry.node entry.rest ≡ Some z

inner_along : (init : List Step) (s : Step) (node : FlowNode) (rest : List ℕ) (z : CollPieces) → coll_along (init ++ (s ∷ [])) node rest ≡ Some z → IsInner init s node rest z
inner_along [] s node rest z e =
    let y = then_some _ e in
    let w = bind_some (coll_in node rest) (node_entry s node rest ∙ y.1) in
    record { outer = w.0; found = w.1; entry = y.0; at = w.2; inside = y.2 }
inner_along (t ∷ ss) s node rest z e =
    let y = then_some _ e in
    let h = inner_along ss s y.0.node y.0.rest z y.2 in
    record { outer = h.outer; found = ap (λ (o : Option EntryPieces). Rattle.std.specs.Prelude.option_and_then (λ (u : EntryPieces). coll_along ss u.node u.rest) o) y.1 ∙ h.found; entry = h.entry; at = h.at; inside = h.inside }

-- A collection in another one of a head is an item or entry of that.
pub record InnerEntry (c : Cut) (n : ℕ) (stem left : List Step) (own : List Step × Step) (z : CollPieces) : Type 0 where
  pub entry : EntryAt c n (stem ++ left)
  pub init : entry.init ≡ stem ++ own.0
  pub inside : coll_in entry.item.node entry.item.rest ≡ Some z

pub inner_entry : (c : Cut) (n : ℕ) (stem left : List Step) (own : List Step × Step) (z : CollPieces) → read_at (cut_text c) ≡ Some c → LeadsToHead c n stem → last_step left ≡ Some own → flow_collection n (stem ++ left) c ≡ Some z →
    InnerEntry c n stem left own z
inner_entry c n stem left own z read h last found =
    let at : FlowAt c n (stem ++ left) z = placement.at c n (stem ++ left) z read found in
    let before = stay.collection_before c n (stem ++ left) z at z.gap z.items stem left refl h in
    let is : left ≡ own.0 ++ (own.1 ∷ []) = last_is left own.0 own.1 last in
    let x = inner_along own.0 own.1 at.row.node (text_after_node c n at.part at.row) z (ap (λ (ss : List Step). coll_along ss at.row.node (text_after_node c n at.part at.row)) (sym is) ∙ (sym (before left) ∙ found)) in
    record {
      entry = record {
        init = stem ++ own.0;
        step = own.1;
        last = ap (λ (ss : List Step). last_step (stem ++ ss)) is ∙ (ap last_step (sym (append_assoc stem own.0 (own.1 ∷ []))) ∙ last_of (stem ++ own.0) own.1);
        coll = x.outer;
        found = before own.0 ∙ x.found;
        item = x.entry;
        at = x.at;
      };
      init = refl;
      inside = x.inside;
    }

-- ---- its node

abbrev pub empty_tree : ℕ → Node
empty_tree k = tree_collection k tree.none

-- an empty collection with such a closing bracket
abbrev pub empty_bytes : ℕ → List ℕ
empty_bytes k = cond (eqb k 125) (123 ∷ (125 ∷ [])) (91 ∷ (93 ∷ []))

named_empty : (a : List ℕ) (n : Node) → empty_collection (with_name a n) ≡ empty_collection n
named_empty a (tree.alias name) = refl
named_empty a _ = refl

named_several : (a : List ℕ) (n : Node) → has_several (Some (with_name a n)) ≡ has_several (Some n)
named_several a n = ap (λ (cs : tree.Children). nat_lt 1 (count cs)) (named_children a n)

collection_emptied : (k : ℕ) (cs : tree.Children) → nat_lt 1 (count cs) ≡ false → IsEmptiedBy (empty_tree k) (tree_collection k cs)
collection_emptied k cs few = grind (arith, common_steps)

pub node_emptied : (node : FlowNode) (rest : List ℕ) (z : CollPieces) → coll_in node rest ≡ Some z → nat_lt 1 (count (items_tree z.items)) ≡ false → IsEmptiedBy (empty_tree z.close) (tree_of node)
unfolding tree_of
node_emptied (coll k gap is) rest z e few = search (rules, same_Some, e, collection_emptied, few)
node_emptied (anchored n gap node) rest z e few =
    let h = node_emptied node rest z e few in
    (named_empty n (tree_of node) ∙ h.0, named_several n (tree_of node) ∙ h.1)
node_emptied _ rest z e few = absurd (none-some _ e)

-- after its anchor it is the collection
only_coll : (flow : Bool) (spaces : Option ℕ) (d : ℕ) (node : FlowNode) (rest : List ℕ) (z : CollPieces) → IsFlowNode flow spaces d node rest → coll_in node rest ≡ Some z → without_anchor node ≡ coll z.close z.gap z.items
unfolding IsFlowNode
only_coll flow spaces d node rest z h e = grind (arith, common_steps, none-some, same_Some, false≢true)

no_scalar : (old : Option Node) (k : ℕ) → keeps_scalar old (empty_tree k) ≡ false
no_scalar old k = search rules depth 9

written_empty : (old : List ℕ) (k : ℕ) → node_text (Rattle.yq_edit_rules.specs.FlowParts.flow_value old (empty_tree k)) [] ≡ empty_bytes k
unfolding node_text flow_of
written_empty old k = grind (arith, common_steps)

-- how long its text is
pub coll_size : (k : ℕ) (gap : List ℕ) (is : Items) (rest : List ℕ) → length (node_text (coll k gap is) rest) ≡ suc (length gap + length (flow_items_text k is rest))
unfolding node_text
coll_size k gap is rest = ap suc (length-append gap (flow_items_text k is rest))

-- ---- the edit that puts an empty one there

module _ (c : Cut) (n : ℕ) (path : List Step) (z : CollPieces) (read : read_at (cut_text c) ≡ Some c) (a : EntryAt c n path) (inside : coll_in a.item.node a.item.rest ≡ Some z) where
  abbrev pub v : Node
  v = empty_tree z.close

  abbrev pub g : FlowEdit
  g = put.e c n path v read a

  node_is : without_anchor a.item.node ≡ coll z.close z.gap z.items
  node_is =
      let i = around_is (put.x c n path v read a) (put.is_located c n path v read a) in
      only_coll true (Some 0) _ a.item.node a.item.rest z (items_hold i.inner_depth a.coll.close a.step a.coll.items a.coll.rest a.item i.items a.at) inside

  pub sole_old : g.old ≡ node_text (coll z.close z.gap z.items) []
  sole_old = ap (λ (m : FlowNode). node_text m []) node_is

  pub sole_after : g.after ≡ z.rest
  sole_after = sym (rest_in a.item.node a.item.rest z inside)

  pub sole_written : g.lead ++ g.written ≡ empty_bytes z.close
  sole_written = (λ i. Rattle.yq_flow_edits.specs.FlowEdits.space_for (node_is i) ++ g.written) ∙ written_empty (Rattle.yq_edit_rules.specs.FlowParts.content_written a.item.node) z.close

  pub sole_other : keeps_scalar (Some (tree_of a.item.node)) v ≡ false
  sole_other = no_scalar (Some (tree_of a.item.node)) z.close
