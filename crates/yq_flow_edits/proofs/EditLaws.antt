-- Edits of a collection inside an inline node: a node replaced, an item or entry appended.
use Rattle.std.proofs.Common.{rules, ◌≡◌, ℕ, ◌-◌, true, List, [], ◌∷◌, ◌++◌, length, Some, refl, subst, arith}
use Rattle.yq_core.{specs.Paths.{Step, change_child, append_child, within, changed_at}, specs.Piece.further_spaces, specs.Writable.in_flow}
use Rattle.yq_core.{specs.Gaps.IsInlineGap, specs.Inline.depth_limit}
use Rattle.yq_core.specs.Nodes.{Key, FlowNode, Items, none, item, key_text, node_text, flow_items_text, opening_bracket, is_close}
use Rattle.yq_core.{specs.Nodes.AreFlowItems, specs.Collections.{coll_text, collection_put, room_in, CollAt, item_in, IsCollAt}}
use Rattle.yq_core.{specs.Entries.EntryPieces, specs.Trees.{key_content, tree_of, items_tree}}
use Rattle.yq_core.{proofs.NodesWrittenLaws.{node_then, key_append}, specs.Tree.key_label}
use Rattle.yq_flow_edits.specs.FlowEdits.{Becomes, put_value, FitsNode, after_last, FitsItem, replacing, appending, IsFlowEdited, FlowEdit}
use Rattle.yq_flow_edits.{specs.FlowEdits.after_appended, proofs.CollLaws.IsLocatedAt, proofs.ContextLaws.path_is_there}
use Rattle.yq_flow_edits.{proofs.ItemLaws.{put_local, put_before, becomes_same, add_local, item_begins}, proofs.LocalLaws.no_gap_before}
use Rattle.yq_core.specs.Tree as tree

-- what is known of the collection, and of the node with another one there
abbrev pub Around : CollAt → Type 0
Around x = IsLocatedAt (in_flow x.place) (further_spaces x.place x.indent) (depth_limit - x.around) x.node x.rest x.coll (length x.steps) (λ g is. collection_put x.steps g is x.node) (λ h. changed_at x.steps (within h))

pub around_is : (x : CollAt) → IsCollAt x → Around x
around_is x h = path_is_there (in_flow x.place) (further_spaces x.place x.indent) x.steps (depth_limit - x.around) x.node x.rest x.coll h.inline.valid h.found

pub room_is : (x : CollAt) (s : Around x) → room_in x ≡ s.inner_depth
room_is x s = omega (arith, s.depths)

-- its edit is one of the node
pub edited : (x : CollAt) (e : FlowEdit) (h : tree.Children → tree.Children) → (s : Around x) →
    IsInlineGap e.gap (flow_items_text x.coll.close e.items x.coll.rest) → AreFlowItems s.inner_depth x.coll.close e.items x.coll.rest →
    items_tree e.items ≡ h (items_tree x.coll.items) →
    Becomes (coll_text x.coll.close x.coll.gap x.coll.items x.coll.rest) (coll_text x.coll.close e.gap e.items x.coll.rest) e.old (e.lead ++ e.written) e.after → IsFlowEdited x e (changed_at x.steps (within h))
edited x e h s gap are same text =
    search (rules, becomes_same, put_before, s.new, s.new_some, s.new_text, s.new_tree, s.text)

-- after the opening bracket
pub opened : (k : ℕ) (g h : List ℕ) (is new : Items) (rest old fresh_ after : List ℕ) →
    Becomes (g ++ flow_items_text k is rest) (h ++ flow_items_text k new rest) old fresh_ after →
    Becomes (coll_text k g is rest) (coll_text k h new rest) old fresh_ after
opened k g h is new rest old fresh_ after t = put_before (opening_bracket k ∷ []) _ _ old fresh_ after t

-- after the gap too
pub following_gap : (k : ℕ) (g : List ℕ) (is new : Items) (rest old fresh_ after : List ℕ) →
    Becomes (flow_items_text k is rest) (flow_items_text k new rest) old fresh_ after →
    Becomes (coll_text k g is rest) (coll_text k g new rest) old fresh_ after
following_gap k g is new rest old fresh_ after t = opened k g g is new rest old fresh_ after (put_before g _ _ old fresh_ after t)

-- a node replaced
pub replaced : (x : CollAt) (s : Step) (y : EntryPieces) (m : FlowNode) → IsCollAt x → item_in s x ≡ Some y → FitsNode (room_in x) m y.rest →
    IsFlowEdited x (replacing s y m x.coll) (changed_at x.steps (within (change_child s (put_value (tree_of m)))))
replaced x s y m h found fits =
    let c = x.coll in
    let i = around_is x h in
    let f : FitsNode i.inner_depth m y.rest = subst (λ (e : ℕ). FitsNode e m y.rest) (room_is x i) fits in
    let l = put_local i.inner_depth c.close s m c.items c.rest y i.closes i.items found f in
    search (rules, edited, following_gap, l.front)

-- What is known of a collection with one more item or entry.
record Added (d k : ℕ) (key : Key) (m : FlowNode) (gap : List ℕ) (is : Items) (rest : List ℕ) (e : FlowEdit) : Type 0 where
  front : IsInlineGap e.gap (flow_items_text k e.items rest)
  are : AreFlowItems d k e.items rest
  tree : items_tree e.items ≡ append_child (key_label (key_content key)) (tree_of m) (items_tree is)
  text : Becomes (gap ++ flow_items_text k is rest) (e.gap ++ flow_items_text k e.items rest) e.old (e.lead ++ e.written) e.after

added : (d k : ℕ) (key : Key) (m : FlowNode) (gap : List ℕ) (is : Items) (rest : List ℕ) → is_close k ≡ true → IsInlineGap gap (flow_items_text k is rest) → AreFlowItems d k is rest → FitsItem d k key m (after_last k gap is rest) →
    Added d k key m gap is rest (appending key m (record { close = k; gap = gap; items = is; rest = rest }))
unfolding flow_items_text AreFlowItems items_tree
added d k key m gap none rest c front a f = search (rules, no_gap_before, item_begins, node_then, key_append)
added d k key m gap (item j n sep is) rest c front a f =
    let l = add_local d k key m gap (item j n sep is) rest c refl a f in
    record { front = l.front gap front; are = l.are; tree = l.tree; text = put_before gap _ _ [] (44 ∷ (32 ∷ key_text key (node_text m []))) (after_last k gap (item j n sep is) rest) l.text }

-- an item or entry more
pub appended : (x : CollAt) (key : Key) (m : FlowNode) → IsCollAt x → FitsItem (room_in x) x.coll.close key m (after_appended x.coll) →
    IsFlowEdited x (appending key m x.coll) (changed_at x.steps (within (append_child (key_label (key_content key)) (tree_of m))))
appended x key m h fits =
    let c = x.coll in
    let i = around_is x h in
    let e = appending key m c in
    let l = added i.inner_depth c.close key m c.gap c.items c.rest i.closes i.gap i.items (subst (λ (d : ℕ). FitsItem d c.close key m (after_appended c)) (room_is x i) fits) in
    edited x e (append_child (key_label (key_content key)) (tree_of m)) i l.front l.are l.tree (opened c.close c.gap e.gap c.items e.items c.rest [] (e.lead ++ e.written) e.after l.text)
