-- The collection of a head from which an item or entry was taken out, or into which one was put, in the cut after that.
use Rattle.std.proofs.Common.{◌≡◌, ℕ, Bool, true, false, cond, List, [], ◌∷◌, ◌++◌, Option, Some, option_map, refl, sym, ap, ◌∙◌}
use Rattle.std.{proofs.lemmas.Bool.false≢true, proofs.lemmas.Option.{none-some, same_Some}, specs.Prelude.option_and_then}
use Rattle.yq_core.{specs.Paths.{Step, is_here, further}, specs.Collections.{CollPieces, change_item, coll_along, collection_put}}
use Rattle.yq_core.{specs.Tree.{Node, key_label}, specs.Entries.{EntryPieces, item_at}}
use Rattle.yq_core.specs.Nodes.{FlowNode, Key, empty, alias, scalar, coll, anchored, Items, none, item, flow_items_text, sep_text}
use Rattle.yq_core.{specs.Trees.key_content, proofs.PathLaws.then_some}
use Rattle.yq_flow_edits.{specs.FlowEdits.{FlowEdit, add_item, after_last, is_none}, specs.Removals.removing}
use Rattle.yq_row_table.specs.Rows.{Cut, cut_text, Part}
use Rattle.yq_documents.specs.Reading.{read_at}
use Rattle.yq_outline.specs.Lines.{lines_of_rows}
use Rattle.yq_places.{specs.FlowNodes.flow_collection, specs.FlowViews.LeadsToHead, specs.NodeReading.head_line_of}
use Rattle.yq_places.{specs.Placements.last_step, proofs.FlowViewLaws.{head_found, numbered}}
use Rattle.yq_edit_rules.specs.FlowRows.{FlowAt, text_after_node}
use Rattle.yq_edit_laws.{proofs.FlowRemoveLaws.next, proofs.FlowPlacements.at, specs.PartPuts.more_edit}
use Rattle.yq_edit_laws.proofs.FlowAppendLaws as append
use Rattle.yq_edit_rules.proofs.FlowStayLaws as stay

-- ---- in a node

abbrev pub with_items : List ℕ → Items → CollPieces → CollPieces
with_items g is w = record { close = w.close; gap = g; items = is; rest = w.rest }

item_changed : (k : ℕ) (s : Step) (f : FlowNode → FlowNode) (is : Items) (rest : List ℕ) (y : EntryPieces) → item_at k s is rest ≡ Some y → item_at k s (change_item s f is) rest ≡ Some (record y { node = f y.node })
unfolding flow_items_text
item_changed k s f none rest y e = absurd (none-some _ e)
item_changed k s f (item key n sep is) rest y e = go (is_here s (key_label (key_content key))) refl e (λ h. item_changed k (further s) f is rest y h)
  where
    own : FlowNode → EntryPieces
    own m = record { key = key; node = m; rest = sep_text sep (flow_items_text k is rest) }

    go : (b : Bool) → is_here s (key_label (key_content key)) ≡ b → cond b (Some (own n)) (item_at k (further s) is rest) ≡ Some y →
        (item_at k (further s) is rest ≡ Some y → item_at k (further s) (change_item (further s) f is) rest ≡ Some (record y { node = f y.node })) →
        item_at k s (cond b (item key (f n) sep is) (item key n sep (change_item (further s) f is))) rest ≡ Some (record y { node = f y.node })
    go true here e again =
        ap (λ (b : Bool). cond b (Some (own (f n))) (item_at k (further s) is rest)) here
        ∙ ap (λ (z : EntryPieces). Some (record z { node = f z.node })) (same_Some _ _ e)
    go false here e again =
        ap (λ (b : Bool). cond b (Some (record { key = key; node = n; rest = sep_text sep (flow_items_text k (change_item (further s) f is) rest) })) (item_at k (further s) (change_item (further s) f is) rest)) here
        ∙ again e

put_along : (p : List Step) (node : FlowNode) (rest : List ℕ) (w : CollPieces) (g : List ℕ) (is : Items) → coll_along p node rest ≡ Some w → coll_along p (collection_put p g is node) rest ≡ Some (with_items g is w)
put_along [] empty rest w g is e = absurd (none-some _ e)
put_along [] (alias n) rest w g is e = absurd (none-some _ e)
put_along [] (scalar b) rest w g is e = absurd (none-some _ e)
put_along [] (coll k gap os) rest w g is e = ap (λ (v : CollPieces). Some (with_items g is v)) (same_Some _ _ e)
put_along [] (anchored n gap node) rest w g is e = put_along [] node rest w g is e
put_along (s ∷ p) empty rest w g is e = absurd (none-some _ e)
put_along (s ∷ p) (alias n) rest w g is e = absurd (none-some _ e)
put_along (s ∷ p) (scalar b) rest w g is e = absurd (none-some _ e)
put_along (s ∷ p) (coll k gap os) rest w g is e =
    let y = then_some (item_at k s os rest) e in
    ap (option_and_then (λ (u : EntryPieces). coll_along p u.node u.rest)) (item_changed k s (collection_put p g is) os rest y.0 y.1) ∙ put_along p y.0.node y.0.rest w g is y.2
put_along (s ∷ p) (anchored n gap node) rest w g is e = put_along (s ∷ p) node rest w g is e

-- ---- one more

-- a collection with one more item or entry has some
pub has_some : (key : Key) (m : FlowNode) (gap : List ℕ) (is : Items) → is_none (add_item key m gap is) ≡ false
has_some key m gap none = refl
has_some key m gap (item j n sep none) = refl
has_some key m gap (item j n sep (item j2 n2 sep2 is)) = refl

-- what comes after the first one
pub after_first : (k : ℕ) (g gap : List ℕ) (key : Key) (m : FlowNode) (is : Items) (rest : List ℕ) → is_none is ≡ true → after_last k g (add_item key m gap is) rest ≡ after_last k gap is rest
after_first k g gap key m none rest h = refl
after_first k g gap key m (item j n sep is) rest h = absurd (false≢true h)

-- ---- in a cut

module _ (c : Cut) (n : ℕ) (stem left : List Step) (w : CollPieces) (read : read_at (cut_text c) ≡ Some c) (found : flow_collection n (stem ++ left) c ≡ Some w) (h : LeadsToHead c n stem) where
  abbrev a : FlowAt c n (stem ++ left) w
  a = at c n (stem ++ left) w read found

  leads : (ss : List Step) → head_line_of (stem ++ ss) (lines_of_rows a.part.rows) ≡ Some (h.number, ss)
  leads ss = ap (λ (p : Part). head_line_of (stem ++ ss) (lines_of_rows p.rows)) (same_Some _ _ (sym a.there ∙ h.there)) ∙ h.leads ss

  rest_is : left ≡ a.rest
  rest_is =
      ap (λ (x : ℕ × List Step). x.1)
      (same_Some _ _ (sym (leads left) ∙ (sym (head_found (lines_of_rows a.part.rows) (stem ++ left)) ∙ ap (option_map numbered) a.at.found)))

  -- with another gap and other items in its head
  put_there : (g : List ℕ) (is : Items) → coll_along left (collection_put a.rest g is a.row.node) (text_after_node c n a.part a.row) ≡ Some (with_items g is w)
  put_there g is =
      ap (λ (ss : List Step). coll_along ss (collection_put a.rest g is a.row.node) (text_after_node c n a.part a.row)) rest_is
      ∙ put_along a.rest a.row.node (text_after_node c n a.part a.row) w g is a.at.along

  -- the collection after an item or entry was taken out
  pub left_there : (path : List Step) (s : Step) (e : FlowEdit) (last : last_step path ≡ Some (stem ++ left, s)) (gone : removing s w ≡ Some e) →
      flow_collection n (stem ++ left) (next c n path (stem ++ left) s w e read last found gone stem left refl h) ≡ Some (with_items e.gap e.items w)
  left_there path s e last gone = stay.collection_after c n (stem ++ left) w a e.gap e.items stem left refl h left ∙ put_there e.gap e.items

  -- and after one more was put into it
  pub more_there : (key : Option (List ℕ)) (v : Node) → flow_collection n (stem ++ left) (append.next c n (stem ++ left) key v w read found stem left refl h) ≡ Some (with_items (more_edit key v w).gap (more_edit key v w).items w)
  more_there key v = stay.collection_after c n (stem ++ left) w a (more_edit key v w).gap (more_edit key v w).items stem left refl h left ∙ put_there (more_edit key v w).gap (more_edit key v w).items
