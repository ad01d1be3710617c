-- What the code finds in the head of a row, and what of that the text has.
use Rattle.std.proofs.lemmas.Grind.{common_steps}
use Rattle.std.proofs.Common.{rules, ◌≡◌, ℕ, ◌+◌, ◌≤◌, true, List, [], ◌++◌, length, Option, Some, None, option_map, refl, sym, ap, ◌∙◌}
use Rattle.std.{proofs.Common.{arith, ◌∷◌, append_assoc, length-append}, proofs.lemmas.Option.{none-some, same_Some}}
use Rattle.yq_core.{proofs.NodeLaws.after, specs.Paths.{Step, further}, specs.Collections.{CollAt, CollPieces, IsCollAt}}
use Rattle.yq_core.specs.Entries.{EntryPieces, item_at}
use Rattle.yq_core.specs.Nodes.{Key, FlowNode, coll, node_text, flow_items_text, IsFlowNode, Items, Sep, item, none}
use Rattle.yq_core.{specs.Places.{Placed, locate}, proofs.PathLaws.items_hold, proofs.NodesWrittenLaws.{items_append, sep_append}}
use Rattle.yq_flow_edits.specs.FlowEdits.{FlowEdit, appending, replacing, after_last}
use Rattle.yq_flow_edits.specs.FlowPlaces.{append_place, place_edit, remove_place, replace_place}
use Rattle.yq_flow_edits.specs.Removals.{removing, before_next, edit_from_item, gap_of, last_out, removing_from}
use Rattle.yq_flow_edits.{proofs.EditLaws.{Around, around_is}, proofs.PlacedEdits.{append_placed, replace_placed}}
use Rattle.yq_flow_edits.{proofs.RemovePlaces.{remove_placed, or_mapped}, proofs.RemoveTexts.removed_text}
use Rattle.yq_places.proofs.FlowNodeLaws.{item_more, entry_more, with_more}
use Rattle.yq_places.specs.FlowViews.{IsHeadOfSteps, FlowAgrees, following_anchor, collection_view, placed_collection}
use Rattle.yq_places.specs.declared.places.flow_node.FlowHead.{FlowHead}
use Rattle.yq_edit_laws.{specs.EditPlaces.moved_on, proofs.FlowWholeLaws.{IsPlacedBefore, appended_is_there, replaced_is_there}}

-- ---- edits of a flow collection in a part of a text, as edits of the text

-- ---- the same edit before a longer rest

-- the edit before a longer rest
abbrev pub edit_more : List ℕ → FlowEdit → FlowEdit
edit_more more e = record { gap = e.gap; items = e.items; old = e.old; lead = e.lead; written = e.written; after = e.after ++ more }

pub place_moved : (front u more : List ℕ) (f : FlowEdit) → length (f.old ++ f.after) ≤ length u → place_edit (length (front ++ (u ++ more))) (edit_more more f) ≡ moved_on (length front) (place_edit (length u) f)
place_moved front u more f within = search (rules, arith, length-append)

-- ---- what is put into a collection

last_more : (k : ℕ) (gap : List ℕ) (is : Items) (rest more : List ℕ) → after_last k gap is (rest ++ more) ≡ after_last k gap is rest ++ more
last_more k gap none rest more = sym (append_assoc gap (k ∷ rest) more)
last_more k gap (item key n sep none) rest more = sep_append sep (k ∷ rest) more
last_more k gap (item key n sep (item key2 n2 sep2 is)) rest more = last_more k gap (item key2 n2 sep2 is) rest more

pub appending_more : (key : Key) (m : FlowNode) (more : List ℕ) (w : CollPieces) → appending key m (with_more more w) ≡ edit_more more (appending key m w)
appending_more key m more w = ap (λ (l : List ℕ). record (appending key m w) { after = l }) (last_more w.close w.gap w.items w.rest more)

-- ---- what is taken out of a collection

next_more : (k : ℕ) (g : List ℕ) (key : Key) (n : FlowNode) (sep : Sep) (is : Items) (rest more : List ℕ) → before_next k (rest ++ more) g key n sep is ≡ option_map (edit_more more) (before_next k rest g key n sep is)
next_more k g key n sep is rest more = search (rules, items_append)

out_more : (k : ℕ) (s : Step) (g : List ℕ) (key : Key) (n : FlowNode) (sep : Sep) (is : Items) (rest more : List ℕ) → last_out k (rest ++ more) s g key n sep is ≡ option_map (edit_more more) (last_out k rest s g key n sep is)
out_more k s g key n sep is rest more = grind (arith, common_steps, append_assoc)

after_more : (g : List ℕ) (key : Key) (n : FlowNode) (sep : Sep) (more : List ℕ) (o : Option FlowEdit) →
    option_map (edit_from_item g key n sep) (option_map (edit_more more) o) ≡ option_map (edit_more more) (option_map (edit_from_item g key n sep) o)
after_more g key n sep more o = search rules

pub removing_more : (k : ℕ) (s : Step) (g : List ℕ) (is : Items) (rest more : List ℕ) → removing_from k (rest ++ more) s g is ≡ option_map (edit_more more) (removing_from k rest s g is)
removing_more k s g none rest more = refl
removing_more k s g (item key n sep is) rest more =
    let t : Step = further s in
    search (rules, after_more, next_more, out_more, or_mapped, removing_more k t (gap_of sep) is rest more)

-- ---- lengths

within_text : (t all : List ℕ) → IsPlacedBefore t all → length all ≤ length t
within_text t all h = after t h.before all h.text

-- ---- a collection in the node of a row alone

module _ (z : CollAt) (is : IsCollAt z) where
  abbrev w : CollPieces
  w = z.coll

  abbrev around : Around z
  around = around_is z is

  abbrev t : List ℕ
  t = node_text z.node z.rest

  whole : t ≡ around.before ++ node_text (coll w.close w.gap w.items) w.rest
  unfolding node_text
  whole = around.text

  valid : IsFlowNode true (Some 0) (Rattle.std.proofs.Common.suc around.inner_depth) (coll w.close w.gap w.items) w.rest
  unfolding IsFlowNode
  valid = (around.closes, around.gap, around.items)

  pub appended_within : (key : Key) (m : FlowNode) → length ((appending key m w).old ++ (appending key m w).after) ≤ length t
  appended_within key m = within_text t _ (appended_is_there z [] is)

  pub replaced_within : (s : Step) (y : EntryPieces) (m : FlowNode) → item_at w.close s w.items w.rest ≡ Some y → length ((replacing s y m w).old ++ (replacing s y m w).after) ≤ length t
  replaced_within s y m at = within_text t _ (replaced_is_there z [] is s y at)

  pub append_found : (key : Key) (m : FlowNode) → append_place (placed_collection (length t) w) ≡ Some (place_edit (length t) (appending key m w))
  append_found key m = append_placed (length t) (coll w.close w.gap w.items) w.rest w key m (after t around.before _ whole) refl

  pub replace_found : (s : Step) (y : EntryPieces) (m : FlowNode) → item_at w.close s w.items w.rest ≡ Some y → replace_place (locate (length t) y.node y.rest) ≡ place_edit (length t) (replacing s y m w)
  replace_found s y m at = replace_placed true (Some 0) around.inner_depth (length t) s y m w (items_hold around.inner_depth w.close s w.items w.rest y around.items at)

  pub remove_found : (s : Step) → remove_place t s (placed_collection (length t) w) ≡ option_map (place_edit (length t)) (removing s w)
  remove_found s = remove_placed true (Some 0) _ t around.before (coll w.close w.gap w.items) w.rest w s valid refl whole

  pub removed_within : (s : Step) (e : FlowEdit) → removing s w ≡ Some e → length (e.old ++ e.after) ≤ length t
  removed_within s e at =
      let h = (removed_text w.close w.rest s w.gap w.items e at).text in
      omega (arith, after (w.gap ++ flow_items_text w.close w.items w.rest) h.before (e.old ++ e.after) h.was, after t around.before _ around.text)

-- ---- the collection in the text

-- Its place in the text of an edit that has one in the row alone.
module _ (t : List ℕ) (w : CollPieces) (x : FlowHead) (h : IsHeadOfSteps t w x) where
  abbrev pub row : List ℕ
  row = x.text.now

  abbrev pub own : CollPieces
  own = h.at.coll

  pub whole_is : w ≡ with_more h.after own
  whole_is = (λ i. record { close = w.close; gap = w.gap; items = w.items; rest = h.rest_is i }) ∙ ap (with_more h.after) (sym h.coll_is)

  agrees_is : collection_view x ≡ Some (placed_collection (length row) own)
  agrees_is = h.found ∙ ap (λ v. Some (placed_collection (length row) v)) (sym h.coll_is)

  -- an edit in the text
  pub in_text : (e f : FlowEdit) → e ≡ edit_more h.after f → length (f.old ++ f.after) ≤ length (node_text h.at.node h.at.rest) → place_edit (length t) e ≡ moved_on x.before (place_edit (length row) f)
  in_text e f same within = search (rules, place_moved)

  -- an item or entry in the row alone, and in the text
  pub item_whole : (s : Step) → item_at w.close s w.items w.rest ≡ option_map (entry_more h.after) (item_at own.close s own.items own.rest)
  item_whole s = ap (λ (v : CollPieces). item_at v.close s v.items v.rest) whole_is ∙ item_more own.close s own.items own.rest h.after

-- what the code tells with a node is a collection of the text
pub agrees_there : (t : List ℕ) (o : Option CollPieces) (x : FlowHead) (q : Placed) → FlowAgrees t o (Some x) → Some (following_anchor q) ≡ collection_view x →
    (w : CollPieces) × (o ≡ Some w) × (h : IsHeadOfSteps t w x) × (following_anchor q ≡ placed_collection (length x.text.now) h.at.coll)
agrees_there t None x q agrees node = absurd (none-some _ (sym (node ∙ agrees)))
agrees_there t (Some w) x q agrees node = (w, refl, agrees, same_Some _ _ (node ∙ agrees_is t w x agrees))
