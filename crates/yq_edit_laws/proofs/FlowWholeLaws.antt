-- Where something is written in a flow collection, no CR comes before an LF.
use Rattle.std.proofs.Common.{rules, ◌≡◌, ℕ, Bool, true, false, not, cond, eqb, List, [], ◌∷◌, ◌++◌, Some, refl, sym, ap, ◌∙◌, subst}
use Rattle.std.{proofs.Common.append_assoc, proofs.lemmas.Bool.false≢true}
use Rattle.yq_core.{specs.Paths.Step, specs.Text.{front, is_feed}, specs.Collections.{CollAt, IsCollAt, item_in}}
use Rattle.yq_core.specs.Entries.{EntryPieces, pieces_text}
use Rattle.yq_core.specs.Nodes.{bare, FlowNode, anchored, Items, none, item, key_text, node_text, flow_items_text, AreFlowItems, is_close}
use Rattle.yq_core.specs.Nodes.{is_empty_node, IsFlowNode, opening_bracket, without_anchor}
use Rattle.yq_core.proofs.NodesWrittenLaws.{key_append, node_then}
use Rattle.yq_flow_edits.{specs.FlowEdits.{after_appended, after_last}, specs.Removals.ends_return, proofs.EditLaws.{Around, around_is}}
use Rattle.yq_flow_edits.{proofs.ItemLaws.{item_begins, item_some}, proofs.ItemPlaces.{IsItemIn, further_after, item_after, following_last}}
use Rattle.yq_flow_edits.{proofs.LocalLaws.node_no_feed, proofs.ReturnLaws.{Whole, item_return, return_some, whole_by, whole_front}}

-- After a text is another one, and no CR before an LF.
pub record IsPlacedBefore (t after : List ℕ) : Type 0 where
  pub before : List ℕ
  pub text : t ≡ before ++ after
  pub whole : Whole before after

-- what comes after an item or entry
rest_is_there : (d k : ℕ) (t : List ℕ) (y : EntryPieces) → is_close k ≡ true → IsItemIn d k t y → IsPlacedBefore t y.rest
rest_is_there d k t y c h =
    let own : List ℕ = key_text y.key (node_text y.node []) in
    let cut : pieces_text y ≡ own ++ y.rest = ap (key_text y.key) (node_then y.node y.rest) ∙ key_append y.key (node_text y.node []) y.rest in
    let ends : ends_return (h.before ++ own) ≡ ends_return own = return_some h.before own (item_some d k y.key y.node y.rest h.fits.key_is h.fits.some h.fits.is) in
    search (rules, own, cut, append_assoc, ends, item_return, y.key, c, h.ends, h.fits.key_is, h.fits.is)

-- its content, with what comes after it
pub content_split : (n : FlowNode) (rest : List ℕ) → (p : List ℕ) × (node_text n rest ≡ p ++ node_text (without_anchor n) rest)
unfolding node_text
content_split (anchored m gap node) rest = (38 ∷ (m ++ gap), ap (λ (l : List ℕ). 38 ∷ l) (sym (append_assoc m gap (node_text node rest))))
content_split _ rest = ([], refl)

-- before a content
content_no_feed : (d : ℕ) (n : FlowNode) (rest : List ℕ) → IsFlowNode true (Some 0) d n rest → is_empty_node (without_anchor n) ≡ false → front is_feed (node_text (without_anchor n) [] ++ rest) ≡ false
unfolding IsFlowNode
content_no_feed d n rest h some = ap (front is_feed) (sym (node_then (without_anchor n) rest)) ∙ go n h some
  where
    begins : (m : FlowNode) → IsFlowNode true (Some 0) d m rest → is_empty_node m ≡ false → front is_feed (node_text m rest) ≡ false
    begins m h some = node_no_feed (node_text m rest) (item_begins d 93 bare m rest refl (ap not some) h)

    go : (n : FlowNode) → IsFlowNode true (Some 0) d n rest → is_empty_node (without_anchor n) ≡ false → front is_feed (node_text (without_anchor n) rest) ≡ false
    go n h some = search (rules, false≢true, begins)

bare_written : (n : FlowNode) → is_empty_node n ≡ true → node_text n [] ≡ []
unfolding node_text
bare_written n e = search (rules, false≢true)

open_return : (k : ℕ) → ends_return (opening_bracket k ∷ []) ≡ false
open_return k = elim (eqb k 125) as (λ c. ends_return (cond c 123 91 ∷ []) ≡ false) [ true ↦ refl | false ↦ refl ]

-- what comes after the last item or entry, or after the opening bracket
last_is_there : (d k : ℕ) (a gap : List ℕ) (is : Items) (rest : List ℕ) → is_close k ≡ true → AreFlowItems d k is rest → IsPlacedBefore (a ++ (opening_bracket k ∷ (gap ++ flow_items_text k is rest))) (after_last k gap is rest)
unfolding flow_items_text
last_is_there d k a gap none rest c h = record {
  before = a ++ (opening_bracket k ∷ []);
  text = sym (append_assoc a (opening_bracket k ∷ []) (gap ++ (k ∷ rest)));
  whole = whole_by (a ++ (opening_bracket k ∷ [])) (gap ++ (k ∷ rest)) (return_some a (opening_bracket k ∷ []) (opening_bracket k, ([], refl)) ∙ open_return k);
}
last_is_there d k a gap (item key n sep is) rest c h =
    let items : List ℕ = flow_items_text k (item key n sep is) rest in
    let t : List ℕ = a ++ (opening_bracket k ∷ (gap ++ items)) in
    let y = following_last d k gap (item key n sep is) rest refl h in
    subst (IsPlacedBefore t) y.1 (rest_is_there d k t y.0 c (further_after d k t items (a ++ (opening_bracket k ∷ gap)) y.0 (sym (append_assoc a (opening_bracket k ∷ gap) items)) y.2))

-- what is from its content on
content_is_there : (d k : ℕ) (t : List ℕ) (y : EntryPieces) → is_close k ≡ true → IsItemIn d k t y → IsPlacedBefore t (node_text (without_anchor y.node) [] ++ y.rest)
content_is_there d k t y c h = go (is_empty_node (without_anchor y.node)) refl
  where
    content : List ℕ
    content = node_text (without_anchor y.node) [] ++ y.rest

    go : (b : Bool) → is_empty_node (without_anchor y.node) ≡ b → IsPlacedBefore t content
    go true e = subst (IsPlacedBefore t) (sym (ap (λ (l : List ℕ). l ++ y.rest) (bare_written (without_anchor y.node) e))) (rest_is_there d k t y c h)
    go false e =
        let x = content_split y.node y.rest in
        let pieces : pieces_text y ≡ key_text y.key x.0 ++ content = search (rules, node_then, key_append) in
        record {
          before = h.before ++ key_text y.key x.0;
          text = h.text ∙ (ap (λ (l : List ℕ). h.before ++ l) pieces ∙ sym (append_assoc h.before (key_text y.key x.0) content));
          whole = whole_front (h.before ++ key_text y.key x.0) content (content_no_feed d y.node y.rest h.fits.is e);
        }

module _ (x : CollAt) (text : List ℕ) (h : IsCollAt x) where
  abbrev pub t : List ℕ
  t = text ++ node_text x.node x.rest

  abbrev around : Around x
  around = around_is x h

  abbrev opened : List ℕ
  opened = text ++ (around.before ++ (opening_bracket x.coll.close ∷ x.coll.gap))

  split : t ≡ opened ++ flow_items_text x.coll.close x.coll.items x.coll.rest
  split = search (rules, append_assoc)

  in_text : (y : EntryPieces) → IsItemIn around.inner_depth x.coll.close (flow_items_text x.coll.close x.coll.items x.coll.rest) y → IsItemIn around.inner_depth x.coll.close t y
  in_text y b = further_after around.inner_depth x.coll.close t (flow_items_text x.coll.close x.coll.items x.coll.rest) opened y split b

  -- the content of an item or entry
  pub replaced_is_there : (s : Step) (y : EntryPieces) → item_in s x ≡ Some y → IsPlacedBefore t (node_text (without_anchor y.node) [] ++ y.rest)
  replaced_is_there s y found = content_is_there around.inner_depth x.coll.close t y around.closes (in_text y (item_after around.inner_depth x.coll.close s x.coll.items x.coll.rest y around.items found))

  -- what comes after one more item or entry
  pub appended_is_there : IsPlacedBefore t (after_appended x.coll)
  appended_is_there =
      let c = x.coll in
      let all : t ≡ (text ++ around.before) ++ (opening_bracket c.close ∷ (c.gap ++ flow_items_text c.close c.items c.rest)) =
      ap (λ (l : List ℕ). text ++ l) around.text ∙ sym (append_assoc text around.before (opening_bracket c.close ∷ (c.gap ++ flow_items_text c.close c.items c.rest))) in
      subst (λ (l : List ℕ). IsPlacedBefore l (after_appended c)) (sym all) (last_is_there around.inner_depth c.close (text ++ around.before) c.gap c.items c.rest around.closes around.items)
