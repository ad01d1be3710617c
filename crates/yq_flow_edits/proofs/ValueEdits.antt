-- Values put into a flow collection.
use Rattle.std.proofs.Common.{◌≡◌, ℕ, ◌≤◌, true, eqb, List, [], ◌∷◌, ◌++◌, Some, refl, ap, ◌∙◌, subst, eq-eqb}
use Rattle.std.proofs.lemmas.Bool.{or_right}
use Rattle.yq_core.{specs.declared.style.Style.Style, specs.Keys.depth, specs.Paths.{Step, change_child, append_child, within, changed_at}}
use Rattle.yq_core.{specs.Scalar.ScalarText, specs.Writable.can_write, specs.Written.written_scalar, specs.Alike.EndsItem}
use Rattle.yq_core.{specs.Gaps.IsInlineGap, specs.Entries.EntryPieces}
use Rattle.yq_core.specs.Nodes.{FlowNode, scalar, Items, none, item, flow_items_text, AreFlowItems}
use Rattle.yq_core.{specs.Trees.{scalar_node, key_content, tree_of}, specs.NodesWritten.{flow_key, flow_of}}
use Rattle.yq_core.{specs.Collections.{room_in, CollAt, item_in, IsCollAt}, specs.Tree.key_label}
use Rattle.yq_flow_edits.specs.FlowEdits.{put_value, after_last, replacing, appending, IsFlowEdited, FlowEdit, after_appended}
use Rattle.yq_flow_edits.{specs.Valued.{IsValid, IsLabel, IsValueTree}, proofs.EditLaws.{appended, replaced, Around, around_is}}
use Rattle.yq_flow_edits.{proofs.ItemPlaces.{item_after, following_last}, proofs.SpelledLaws.written_tree}
use Rattle.yq_flow_edits.proofs.ValueFits.{value_fits, item_fits, fit_of, scalar_fits, scalar_same}
use Rattle.yq_core.specs.declared.style.Place.TheVariants as places
use Rattle.yq_core.specs.Tree as tree
use Rattle.yq_core.specs.Written as scalars

-- a change at the last of more steps
pub change_last : (ss : List Step) (s : Step) (f : tree.Node → tree.Node) → changed_at ss (within (change_child s f)) ≡ changed_at (ss ++ (s ∷ [])) f
change_last [] s f = refl
change_last (r ∷ ss) s f = ap (λ (g : tree.Node → tree.Node). λ n. within (change_child r g) n) (change_last ss s f)

-- an edit that leads to the same tree in other words
edited_same : (x : CollAt) (e : FlowEdit) (f g : tree.Node → tree.Node) → f ≡ g → IsFlowEdited x e f → IsFlowEdited x e g
edited_same x e f g same h = record { inline = h.inline; text = h.text; tree = h.tree ∙ ap (λ (k : tree.Node → tree.Node). k (tree_of x.node)) same }

-- a node that means a tree, in the place of another one
put_same : (x : CollAt) (s : Step) (m : FlowNode) (v : tree.Node) → tree_of m ≡ v → changed_at x.steps (within (change_child s (put_value (tree_of m)))) ≡ changed_at (x.steps ++ (s ∷ [])) (put_value v)
put_same x s m v e = ap (λ (w : tree.Node). changed_at x.steps (within (change_child s (put_value w)))) e ∙ change_last x.steps s (put_value v)

-- a value in the place of a node
pub value_replaced : (x : CollAt) (s : Step) (y : EntryPieces) (v : tree.Node) → IsCollAt x → item_in s x ≡ Some y → IsValueTree v →
    depth v ≤ room_in x → IsFlowEdited x (replacing s y (flow_of v) x.coll) (changed_at (x.steps ++ (s ∷ [])) (put_value v))
value_replaced x s y v h found is deep =
    let c = x.coll in
    let i = around_is x h in
    let fits = value_fits c.close (room_in x) v y.rest i.closes (item_after i.inner_depth c.close s c.items c.rest y i.items found).ends is deep in
    edited_same x (replacing s y (flow_of v) x.coll) _ _ (put_same x s (flow_of v) v (written_tree v is)) (replaced x s y (flow_of v) h found fits)

-- a scalar in the place of a node, in a style that can write it
pub scalar_replaced : (x : CollAt) (s : Step) (y : EntryPieces) (v : ScalarText) (style : Style) → IsCollAt x → item_in s x ≡ Some y → IsValid v → scalars.IsOneLine style → can_write v style places.Flow ≡ true →
    IsFlowEdited x (replacing s y (scalar (written_scalar style v.text)) x.coll) (changed_at (x.steps ++ (s ∷ [])) (put_value (scalar_node v)))
scalar_replaced x s y v style h found is i can =
    let c = x.coll in
    let j = around_is x h in
    let m : FlowNode = scalar (written_scalar style v.text) in
    let fits = scalar_fits c.close (room_in x) v style y.rest j.closes (item_after j.inner_depth c.close s c.items c.rest y j.items found).ends is i can in
    edited_same x (replacing s y m x.coll) _ _ (put_same x s m (scalar_node v) (scalar_same v style is i can)) (replaced x s y m h found fits)

-- what comes after an appended item ends one
last_ends : (d k : ℕ) (gap : List ℕ) (is : Items) (rest : List ℕ) → IsInlineGap gap (flow_items_text k is rest) → AreFlowItems d k is rest → EndsItem k (after_last k gap is rest)
unfolding flow_items_text
last_ends d k gap none rest h a = record { gap = gap; close = k; rest = rest; spelled = refl; is_gap = h; ends = or_right (eqb k 44) (eqb k k) (eq-eqb k k refl) }
last_ends d k gap (item key n sep is) rest h a = let y = following_last d k gap (item key n sep is) rest refl a in subst (EndsItem k) y.1 y.2.ends

pub appended_ends : (x : CollAt) → (i : Around x) → EndsItem x.coll.close (after_appended x.coll)
appended_ends x i = last_ends i.inner_depth x.coll.close x.coll.gap x.coll.items x.coll.rest i.gap i.items

-- a value as one more item or entry
pub value_appended : (x : CollAt) (label : tree.Label) (v : tree.Node) → IsCollAt x → IsLabel (eqb x.coll.close 125) label → IsValueTree v →
    depth v ≤ room_in x → IsFlowEdited x (appending (flow_key label.key) (flow_of v) x.coll) (changed_at x.steps (within (append_child label v)))
value_appended x label v h is value deep =
    let i = around_is x h in
    let fits = item_fits x.coll.close (room_in x) label v (after_appended x.coll) i.closes (appended_ends x i) is value deep in
    let same : changed_at x.steps (within (append_child (key_label (key_content (flow_key label.key))) (tree_of (flow_of v)))) ≡ changed_at x.steps
    (within (append_child label v)) =
    λ j. changed_at x.steps (within (append_child ((fit_of x.coll.close i.closes).same label is j) (written_tree v value j))) in
    edited_same x (appending (flow_key label.key) (flow_of v) x.coll) _ _ same (appended x (flow_key label.key) (flow_of v) h fits)
