-- A collection that ends before one from which an item or entry is taken out is there after that, before another text.
use Rattle.std.proofs.Common.{◌≡◌, ◌⊎◌, inl, inr, ℕ, ◌<◌, ◌≤◌, Bool, true, false, cond, List, [], ◌∷◌, ◌++◌, length, Some, None, option_map}
use Rattle.std.proofs.Common.{refl, sym, ap, ◌∙◌, subst, arith, append_assoc, append-nil, length-append}
use Rattle.std.{proofs.lemmas.List.append_cancel_right, proofs.lemmas.Option.{none-some, same_Some}, specs.Option.option_or}
use Rattle.yq_core.{specs.Paths.{Step, is_here, further}, specs.Alike.fresh}
use Rattle.yq_core.{specs.Collections.{CollPieces, coll_along, coll_in, collection_put}, specs.Entries.{EntryPieces, item_at}}
use Rattle.yq_core.specs.Nodes.{Key, FlowNode, Items, none, item, Sep, last, comma, flow_items_text, key_text, node_text, sep_text}
use Rattle.yq_core.{specs.Trees.key_content, specs.Tree.key_label, proofs.NodeAgain.{items_longer, sep_longer}}
use Rattle.yq_flow_edits.specs.FlowEdits.{Becomes, FlowEdit}
use Rattle.yq_flow_edits.specs.Removals.{before_next, comma_left, edit_from_item, ends_marked, gap_of, last_gone, last_out, last_removed}
use Rattle.yq_flow_edits.specs.Removals.{removing, removing_from, with_gap}
use Rattle.yq_flow_edits.proofs.RemoveTexts.{LastBytes, comma_new_bytes, comma_old_bytes, either, gone_bytes, option_some, removed_text}
use Rattle.yq_flow_edits.proofs.ItemSwaps.{item_cut}
use Rattle.yq_edit_laws.proofs.EarlierParts.{ComesBefore, PartsBefore, Turns, earlier_coll, front_turn, item_before, rest_within, turn_as}
use Rattle.yq_edit_laws.{proofs.LaterEnds.{last_longer, rest_in}, proofs.LaterParts.{content_within, node_in_items}}

-- ---- before an item or entry that is taken out

abbrev gone_text : FlowEdit → List ℕ
gone_text e = e.old ++ e.after

abbrev left_text : FlowEdit → List ℕ
left_text e = (e.lead ++ e.written) ++ e.after

-- what is known of items from which one is taken out: how long the text after it is, and the items that come before it
record Outs (k : ℕ) (rest : List ℕ) (is : Items) (e : FlowEdit) : Type 0 where
  longer : length rest < length e.after
  before : (r : Step) (u : EntryPieces) → item_at k r is rest ≡ Some u → length (gone_text e) < length (node_text u.node u.rest) → ComesBefore (gone_text e) (left_text e) u (item_at k r e.items rest)

-- up to the next one
next_outs : (k : ℕ) (rest g : List ℕ) (key : Key) (n : FlowNode) (sep : Sep) (is : Items) (e : FlowEdit) → before_next k rest g key n sep is ≡ Some e → Outs k rest (item key n sep is) e
unfolding flow_items_text
next_outs k rest g key n sep none e at = absurd (none-some _ at)
next_outs k rest g key n sep (item key2 n2 sep2 is) e at =
    let others : Items = item key2 n2 sep2 is in
    let all : flow_items_text k (item key n sep others) rest ≡ gone_text e = item_cut key n sep (flow_items_text k others rest) ∙ ap gone_text (same_Some _ _ at) in
    record {
      longer = omega (arith, items_longer k others rest, ap (λ (z : FlowEdit). length z.after) (same_Some _ _ at));
      before = λ r u there long. absurd (omega (arith, long, node_in_items k r (item key n sep others) rest u there, ap length all));
    }

-- the last one
last_outs : (k : ℕ) (rest g : List ℕ) (key : Key) (n : FlowNode) (sep : Sep) (key2 : Key) (n2 : FlowNode) (sep2 left : Sep) (old lead after : List ℕ) → LastBytes k rest sep key2 n2 sep2 left old lead after → length rest < length after →
    Outs k rest (item key n sep (item key2 n2 sep2 none)) (record { gap = g; items = item key n left none; old = old; lead = lead; written = []; after = after })
unfolding flow_items_text
last_outs k rest g key n sep key2 n2 sep2 left old lead after h longer = record {
  longer = longer;
  before = λ r u there long. item_before key n (is_here r (key_label (key_content key))) there
      ([], sym h.was, sym (h.is) ∙ ap (λ (l : List ℕ). l ++ after) (sym (append-nil lead)))
      (λ there. absurd (omega (
        arith,
        long,
        node_in_items k (further r) (item key2 n2 sep2 none) rest u there,
        sep_longer sep (key_text key2 (node_text n2 (sep_text sep2 (k ∷ rest)))),
        ap length h.was,
      )));
}

-- another gap after the comma of an item
gap_turn : (h : List ℕ) (sep : Sep) (old new : List ℕ) {t t2 : List ℕ} → Turns (gap_of sep ++ old) (h ++ new) t t2 →
    Turns (sep_text sep old) (sep_text (with_gap h sep) new) t t2
gap_turn h (last b) old new w = turn_as refl (append_assoc b h new) (front_turn b w)
gap_turn h (comma b g) old new w = front_turn b (front_turn (44 ∷ []) w)

ended_outs : (k : ℕ) (rest : List ℕ) (s : Step) (g : List ℕ) (key : Key) (n : FlowNode) (sep : Sep) (is : Items) (e : FlowEdit) → last_out k rest s g key n sep is ≡ Some e → Outs k rest (item key n sep is) e
ended_outs k rest s g key n sep none e at = absurd (none-some _ at)
ended_outs k rest s g key n sep (item key2 n2 sep2 (item key3 n3 sep3 is)) e at = absurd (none-some _ at)
ended_outs k rest s g key n sep (item key2 n2 sep2 none) e at = go (is_here s (key_label (key_content key2))) at
  where
    commas : (sep2 : Sep) → Outs k rest (item key n sep (item key2 n2 sep2 none)) (comma_left k rest g key n sep key2 n2 sep2)
    commas (last b) = last_outs k rest g key n sep key2 n2 (last b) (comma [] b) _ _ _ (comma_new_bytes k rest sep key2 n2 b) (omega (arith, length-append b (k ∷ rest)))
    commas (comma b h) = last_outs k rest g key n sep key2 n2 (comma b h) (comma [] h) _ _ _ (comma_old_bytes k rest sep key2 n2 b h) (omega (arith, length-append h (k ∷ rest)))

    known : (b : Bool) → Outs k rest (item key n sep (item key2 n2 sep2 none)) (cond b (comma_left k rest g key n sep key2 n2 sep2) (last_gone k rest g key n sep key2 n2 sep2))
    known true = commas sep2
    known false = last_outs k rest g key n sep key2 n2 sep2 sep2 _ _ _ (gone_bytes k rest sep key2 n2 sep2) (omega (arith, sep_longer sep2 (k ∷ rest)))

    go : (b : Bool) → cond b (Some (last_removed k rest g key n sep key2 n2 sep2)) None ≡ Some e → Outs k rest (item key n sep (item key2 n2 sep2 none)) e
    go true at = subst (Outs k rest (item key n sep (item key2 n2 sep2 none))) (same_Some _ _ at) (known (ends_marked (fresh false g) (key_text key (node_text n []))))
    go false at = absurd (none-some _ at)

-- one after the first one
later_outs : (k : ℕ) (rest : List ℕ) (s : Step) (g : List ℕ) (key : Key) (n : FlowNode) (sep : Sep) (is : Items) (e : FlowEdit) →
    removing_from k rest s (gap_of sep) is ≡ Some e → Outs k rest is e → Outs k rest (item key n sep is) (edit_from_item g key n sep e)
later_outs k rest s g key n sep is e at h =
    let b = (removed_text k rest s (gap_of sep) is e at).text in
    record {
      longer = h.longer;
      before =
          λ r u there long. item_before key n (is_here r (key_label (key_content key))) there (gap_turn e.gap sep _ _ (b.before, b.was, b.is))
          (λ there. h.before (further r) u there long);
    }

outs : (k : ℕ) (rest : List ℕ) (s : Step) (g : List ℕ) (is : Items) (e : FlowEdit) → removing_from k rest s g is ≡ Some e → Outs k rest is e
outs k rest s g none e at = absurd (none-some _ at)
outs k rest s g (item key n sep is) e at = go (is_here s (key_label (key_content key))) (λ x. outs k rest (further s) (gap_of sep) is x) at
  where
    after : ((x : FlowEdit) → removing_from k rest (further s) (gap_of sep) is ≡ Some x → Outs k rest is x) →
        (last_out k rest (further s) g key n sep is ≡ Some e) ⊎ (option_map (edit_from_item g key n sep) (removing_from k rest (further s) (gap_of sep) is) ≡ Some e) → Outs k rest (item key n sep is) e
    after again (inl at) = ended_outs k rest (further s) g key n sep is e at
    after again (inr at) =
        let x = option_some (edit_from_item g key n sep) (removing_from k rest (further s) (gap_of sep) is) e at in
        subst (Outs k rest (item key n sep is)) x.2 (later_outs k rest (further s) g key n sep is x.0 x.1 (again x.0 x.1))

    go : (b : Bool) → ((x : FlowEdit) → removing_from k rest (further s) (gap_of sep) is ≡ Some x → Outs k rest is x) →
        cond b (before_next k rest g key n sep is)
        (option_or (last_out k rest (further s) g key n sep is)
        (option_map (edit_from_item g key n sep) (removing_from k rest (further s) (gap_of sep) is))) ≡ Some e → Outs k rest (item key n sep is) e
    go true again at = next_outs k rest g key n sep is e at
    go false again at = after again (either _ _ at)

-- a collection that ends before the one from which an item or entry is taken out
module _ (s : Step) (w : CollPieces) (e : FlowEdit) (gone : removing s w ≡ Some e) where
  known : Outs w.close w.rest w.items e
  known = outs w.close w.rest s w.gap w.items e gone

  text : Becomes (w.gap ++ flow_items_text w.close w.items w.rest) (e.gap ++ flow_items_text w.close e.items w.rest) e.old (e.lead ++ e.written) e.after
  text = (removed_text w.close w.rest s w.gap w.items e gone).text

  short : length w.rest < length (gone_text e)
  short = omega (arith, known.longer, length-append e.old e.after)

  before : PartsBefore (gone_text e) (left_text e) w e.items
  before r u there long = known.before r u there (omega (arith, long, content_within u.node u.rest))

  pub earlier : (p q : List Step) (x : EntryPieces) (z : CollPieces) (mid : List ℕ) → coll_along p x.node x.rest ≡ Some w → coll_along q x.node x.rest ≡ Some z → z.rest ≡ mid ++ gone_text e →
      coll_along q (collection_put p e.gap e.items x.node) x.rest ≡ Some (record z { rest = mid ++ left_text e })
  earlier p q x z mid at there is =
      let b = earlier_coll w e.gap e.items (gone_text e) (left_text e) short (text.before, text.was, text.is) before p q x z at there apart (omega (arith, size, last_longer z.close z.gap z.items z.rest)) in
      b.2 ∙ ap (λ (l : List ℕ). Some (record z { rest = l ++ left_text e })) (append_cancel_right b.0 mid (gone_text e) (sym b.1 ∙ is))
    where
      size : length (gone_text e) ≤ length z.rest
      size = omega (arith, ap length is, length-append mid (gone_text e))

      apart : (u : EntryPieces) (o : List Step) → coll_in u.node u.rest ≡ Some z → coll_along o u.node u.rest ≡ Some w → ⊥
      apart u o own e = omega (arith, short, size, rest_within o u w e, ap length (rest_in u.node u.rest z own))
