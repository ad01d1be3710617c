-- Edits of a collection inside an inline node: an item or entry taken out.
use Rattle.std.proofs.Common.{◌≡◌, ◌⊎◌, inl, inr, ℕ, Bool, true, false, ◌&&◌, cond, List, [], ◌∷◌, ◌++◌, Some, None, option_map, refl, sym}
use Rattle.std.{proofs.Common.{ap, ◌∙◌, subst, append_assoc, append-nil, rules}, proofs.lemmas.Bool.{false≢true, and_parts}}
use Rattle.std.{proofs.lemmas.List.append_cancel_right, proofs.lemmas.Option.{none-some, same_Some}, specs.Option.option_or}
use Rattle.yq_core.{specs.Characters.pairs_returns, specs.Paths.{Step, is_here, further, remove_child, within, changed_at}}
use Rattle.yq_core.{specs.PlainText.begins_marker, specs.Text.is_marker, specs.declared.gap.GapPlace.GapPlace}
use Rattle.yq_core.{specs.declared.gap.GapPlace.TheVariants.{Token, White, Break}, specs.Alike.{stop, fresh}}
use Rattle.yq_core.specs.Collections.{CollAt, IsCollAt}
use Rattle.yq_core.specs.Gaps.{goes, next_gap_place, gap_place_after, at_line_start as at_break, AllGo, IsInlineGap}
use Rattle.yq_core.specs.Nodes.{Key, Sep, last, comma, FlowNode, Items, none, item, key_text, sep_text, node_text, flow_items_text}
use Rattle.yq_core.specs.Nodes.{opening_bracket, begins_node, is_close, IsSep, AreFlowItems}
use Rattle.yq_core.{specs.Trees.{key_content, tree_of, items_tree}, proofs.AlikePieces.gap_alike, proofs.GapLaws.none_gap}
use Rattle.yq_core.{proofs.KeepLaws.{after_fresh, keeps_alike, go_front}, proofs.NodeAgain.item_front}
use Rattle.yq_core.{proofs.NodeKeeps.{sep_ends, key_text_alike, node_text_alike}, specs.Tree.key_label}
use Rattle.yq_flow_edits.specs.FlowEdits.{FlowEdit, IsFlowEdited}
use Rattle.yq_flow_edits.specs.Removals.{IsApartFrom, before_next, edit_from_item, comma_left, ends_marked, ends_return, gap_of, gap_to}
use Rattle.yq_flow_edits.specs.Removals.{last_gone, last_out, last_removed, removing, removing_from}
use Rattle.yq_flow_edits.proofs.EditLaws.{edited, around_is, opened}
use Rattle.yq_flow_edits.proofs.ItemLaws.{item_begins, item_keeps, item_some, comma_apart, comma_like, ends_mark, gap_before, keeps_from}
use Rattle.yq_flow_edits.{proofs.ItemLaws.{marker_append, Unmarked}, proofs.ItemSwaps.{item_cut, text_cut}}
use Rattle.yq_flow_edits.proofs.LocalLaws.{gap_new, node_no_feed, node_stops}
use Rattle.yq_flow_edits.proofs.RemoveTexts.{LastBytes, after_cut, comma_new_bytes, comma_old_bytes, either, gone_bytes, option_some}
use Rattle.yq_flow_edits.proofs.RemoveTexts.{removed_text, sep_front}
use Rattle.yq_flow_edits.proofs.ReturnLaws.{Whole, item_return, pairs_after, pairs_end, return_some, whole_by, whole_front}
use Rattle.yq_core.specs.Tree as tree

-- ---- a space after a gap that ends a line

go_append : (s : GapPlace) (g : List ℕ) (b : ℕ) (x : List ℕ) → AllGo s g (b ∷ x) → goes (gap_place_after s g) b x ≡ true → AllGo s (g ++ (b ∷ [])) x
go_append s [] b x a h = (h, tt)
go_append s (c ∷ g) b x a h = (subst (λ (l : List ℕ). goes s c l ≡ true) (sym (append_assoc g (b ∷ []) x)) a.0, go_append (next_gap_place s c) g b x a.1 h)

after_append : (s : GapPlace) (g : List ℕ) (b : ℕ) → gap_place_after s (g ++ (b ∷ [])) ≡ next_gap_place (gap_place_after s g) b
after_append s [] b = refl
after_append s (c ∷ g) b = after_append (next_gap_place s c) g b

break_is : (s : GapPlace) → at_break s ≡ true → s ≡ Break
break_is s h1 = search (rules, false≢true)

gap_moves : (g x own u : List ℕ) → begins_node true x ≡ true → begins_node true (own ++ u) ≡ true → Unmarked u → IsInlineGap g x → IsInlineGap (gap_to g own) (own ++ u)
gap_moves g x own u bx by m h = go (fresh false g && begins_marker own) refl where
  y : List ℕ
  y = own ++ u

  at : at_break (gap_place_after Token g) ≡ fresh false g
  at = after_fresh Token g

  go : (c : Bool) → (fresh false g && begins_marker own) ≡ c → IsInlineGap (g ++ cond c (32 ∷ []) []) y
  go false e = subst (λ (l : List ℕ). IsInlineGap l y) (sym (append-nil g)) (gap_new g x y bx by (rw at (unmarked (fresh false g) e)) h) where
    unmarked : (f : Bool) → (f && begins_marker own) ≡ false → (f && is_marker (own ++ u)) ≡ false
    unmarked f q = search (rules, marker_append)
  go true e =
      let line : gap_place_after Token g ≡ Break = break_is (gap_place_after Token g) (at ∙ (and_parts (fresh false g) (begins_marker own) e).0) in
      let last_ : gap_place_after Token (g ++ (32 ∷ [])) ≡ White = after_append Token g 32 ∙ ap (λ s. next_gap_place s 32) line in
      record {
        inside = go_append Token g 32 y (go_front Token g x (32 ∷ y) (node_no_feed x bx) h.inside) (rw line refl);
        ends = rw last_ (node_stops White (91 ∷ []) y refl by refl);
        unmarked = rw last_ refl;
      }

-- ---- what is left

-- What is left of items after a gap without the one at a step; and where its bytes go no CR comes before an LF.
record Left (d k : ℕ) (s : Step) (g : List ℕ) (is : Items) (rest : List ℕ) (e : FlowEdit) : Type 0 where
  are : AreFlowItems d k e.items rest
  gap : IsInlineGap e.gap (flow_items_text k e.items rest)
  tree : items_tree e.items ≡ remove_child s (items_tree is)
  whole : (x b : List ℕ) → x ++ (g ++ flow_items_text k is rest) ≡ b ++ (e.old ++ e.after) → Whole b (e.old ++ e.after)

-- up to the next one
before_left : (d k : ℕ) (s : Step) (g : List ℕ) (key : Key) (n : FlowNode) (sep : Sep) (is : Items) (rest : List ℕ) (e : FlowEdit) →
    is_close k ≡ true → is_here s (key_label (key_content key)) ≡ true → IsInlineGap g (flow_items_text k (item key n sep is) rest) →
    AreFlowItems d k (item key n sep is) rest → before_next k rest g key n sep is ≡ Some e → Left d k s g (item key n sep is) rest e
unfolding flow_items_text AreFlowItems items_tree
before_left d k s g key n sep none rest e c here gap a at = absurd (none-some _ at)
before_left d k s g key n sep (item key2 n2 sep2 is) rest e c here gap a at =
    let y : List ℕ = flow_items_text k (item key2 n2 sep2 is) rest in
    let bx = item_begins d k key n (sep_text sep y) a.0 a.1 a.2 in
    let u : List ℕ = sep_text sep2 (flow_items_text k is rest) in
    let own : List ℕ = key_text key2 (node_text n2 []) in
    let cut : y ≡ own ++ u = text_cut key2 n2 u in
    let by = subst (λ (l : List ℕ). begins_node true l ≡ true) cut (item_begins d k key2 n2 u a.4.0 a.4.1 a.4.2) in
    let moved = gap_moves g (key_text key (node_text n (sep_text sep y))) own u bx by (ends_mark k u c (sep_ends k sep2 (flow_items_text k is rest) a.4.3)) gap in
    search (rules, same_Some, whole_front, item_cut, node_no_feed)

-- the item after another one, where that has another separator
last_left : (d k : ℕ) (s : Step) (g : List ℕ) (key : Key) (n : FlowNode) (sep : Sep) (key2 : Key) (n2 : FlowNode) (sep2 left : Sep) (rest old lead after_ : List ℕ) → is_close k ≡ true →
    is_here s (key_label (key_content key)) ≡ false → is_here (further s) (key_label (key_content key2)) ≡ true →
    IsInlineGap g (flow_items_text k (item key n sep (item key2 n2 sep2 none)) rest) →
    AreFlowItems d k (item key n sep (item key2 n2 sep2 none)) rest →
    ends_return (key_text key (node_text n [])) ≡ false → IsSep k left (k ∷ rest) → IsApartFrom (fresh false g) (key_text key (node_text n [])) (sep_text left (k ∷ rest)) → LastBytes k rest sep key2 n2 sep2 left old lead after_ →
    Left d k s g (item key n sep (item key2 n2 sep2 none)) rest (record { gap = g; items = item key n left none; old = old; lead = lead; written = []; after = after_ })
unfolding flow_items_text AreFlowItems items_tree
last_left d k s g key n sep key2 n2 sep2 left rest old lead after_ c here there gap a ends sep_is apart bytes =
    let own : List ℕ = key_text key (node_text n []) in
    let x : List ℕ = key_text key2 (node_text n2 (sep_text sep2 (k ∷ rest))) in
    let t : List ℕ = sep_text sep x in
    let u : List ℕ = sep_text left (k ∷ rest) in
    let h = sep_ends k left (k ∷ rest) sep_is in
    let keeps = keeps_from (fresh false g) own t u (ends_mark k u c h) apart in
    let is_located = item_keeps d k (fresh false g) key n t u c (sep_ends k sep x a.3) h keeps a.0 a.2 in
    let some = item_some d k key n t a.0 a.1 a.2 in
    record {
      are = (is_located.key_is, a.1, is_located.node_is, sep_is, tt);
      gap = gap_before d k key n t u g a.0 a.1 a.2 keeps gap;
      tree = rw (here, there) refl;
      whole = λ z b same.
          let cut : z ++ (g ++ key_text key (node_text n t)) ≡ ((z ++ g) ++ own) ++ (old ++ after_) = search (rules, text_cut, append_assoc, own, t) in
          whole_by b (old ++ after_) (ap ends_return (append_cancel_right b ((z ++ g) ++ own) (old ++ after_) (sym same ∙ cut)) ∙ (return_some (z ++ g) own some ∙ ends));
    }

last_of : (d k : ℕ) (s : Step) (g : List ℕ) (key : Key) (n : FlowNode) (sep : Sep) (is : Items) (rest : List ℕ) (e : FlowEdit) → is_close k ≡ true →
    is_here s (key_label (key_content key)) ≡ false → ends_return (key_text key (node_text n [])) ≡ false →
    IsInlineGap g (flow_items_text k (item key n sep is) rest) → AreFlowItems d k (item key n sep is) rest → last_out k rest (further s) g key n sep is ≡ Some e → Left d k s g (item key n sep is) rest e
unfolding flow_items_text AreFlowItems
last_of d k s g key n sep none rest e c here ends gap a at = absurd (none-some _ at)
last_of d k s g key n sep (item key2 n2 sep2 (item key3 n3 sep3 is)) rest e c here ends gap a at = absurd (none-some _ at)
last_of d k s g key n sep (item key2 n2 sep2 none) rest e c here ends gap a at = go (is_here (further s) (key_label (key_content key2))) refl at where
  own : List ℕ
  own = key_text key (node_text n [])

  comma_is : (h : List ℕ) → IsInlineGap h (k ∷ rest) → IsSep k (comma [] h) (k ∷ rest)
  comma_is h gap = (none_gap (44 ∷ (h ++ (k ∷ rest))) refl, gap)

  marked : (there : is_here (further s) (key_label (key_content key2)) ≡ true) (sep2 : Sep) → IsSep k sep2 (k ∷ rest) →
      IsInlineGap g (flow_items_text k (item key n sep (item key2 n2 sep2 none)) rest) →
      AreFlowItems d k (item key n sep (item key2 n2 sep2 none)) rest →
      Left d k s g (item key n sep (item key2 n2 sep2 none)) rest (comma_left k rest g key n sep key2 n2 sep2)
  marked there (last b) h gap a = last_left d k s g key n sep key2 n2 (last b) (comma [] b) rest _ _ _ c here there gap a ends (comma_is b h.0) (comma_apart (fresh false g) own (b ++ (k ∷ rest))) (comma_new_bytes k rest sep key2 n2 b)
  marked there (comma b q) h gap a = search (rules, last_left, comma_is, comma_apart, comma_old_bytes)

  one : is_here (further s) (key_label (key_content key2)) ≡ true → (m : Bool) → ends_marked (fresh false g) own ≡ m →
      Left d k s g (item key n sep (item key2 n2 sep2 none)) rest
      (cond m (comma_left k rest g key n sep key2 n2 sep2) (last_gone k rest g key n sep key2 n2 sep2))
  one there true is = marked there sep2 a.4.3 gap a
  one there false is = last_left d k s g key n sep key2 n2 sep2 sep2 rest _ _ _ c here there gap a ends a.4.3 (record { unmarked = rw is refl; unbroken = rw ends refl }) (gone_bytes k rest sep key2 n2 sep2)

  go : (b : Bool) → is_here (further s) (key_label (key_content key2)) ≡ b → cond b (Some (last_removed k rest g key n sep key2 n2 sep2)) None ≡ Some e → Left d k s g (item key n sep (item key2 n2 sep2 none)) rest e
  go b there at = search (rules, same_Some, one, own, none-some)

-- one of the items after another one
after_left : (d k : ℕ) (s : Step) (g : List ℕ) (key : Key) (n : FlowNode) (sep : Sep) (is : Items) (rest : List ℕ) (e : FlowEdit) → is_close k ≡ true → is_here s (key_label (key_content key)) ≡ false →
    IsInlineGap g (flow_items_text k (item key n sep is) rest) → AreFlowItems d k (item key n sep is) rest →
    removing_from k rest (further s) (gap_of sep) is ≡ Some e →
    (IsInlineGap (gap_of sep) (flow_items_text k is rest) → Left d k (further s) (gap_of sep) is rest e) →
    Left d k s g (item key n sep is) rest (edit_from_item g key n sep e)
unfolding flow_items_text AreFlowItems items_tree
after_left d k s g key n sep none rest e c here gap a at l = absurd (none-some _ at)
after_left d k s g key n (last b) (item key2 n2 sep2 is) rest e c here gap a at l = search (rules, false≢true, item_front)
after_left d k s g key n (comma b q) (item key2 n2 sep2 is) rest e c here gap a at l =
    let x = l a.3.1 in
    let h : List ℕ = e.gap in
    let t : List ℕ = flow_items_text k (item key2 n2 sep2 is) rest in
    let u : List ℕ = flow_items_text k e.items rest in
    let like = comma_like b q h t u in
    let sep_is : IsSep k (comma b h) u = (gap_alike (Some true) b (44 ∷ (q ++ t)) (44 ∷ (h ++ u)) (stop refl) a.3.0, x.gap) in
    let is_located = item_keeps d k false key n (b ++ (44 ∷ (q ++ t))) (b ++ (44 ∷ (h ++ u))) c (sep_ends k (comma b q) t a.3)
    (sep_ends k (comma b h) u sep_is) (keeps_alike (Some true) false (key_text key (node_text n [])) _ _ like) a.0 a.2 in
    let f : List ℕ = g ++ (key_text key (node_text n []) ++ sep_front (comma b q)) in
    record {
      are = (is_located.key_is, a.1, is_located.node_is, sep_is, x.are);
      gap = gap_alike (Some true) g _ _ (key_text_alike key _ _ (node_text_alike (Some true) n (b ++ (44 ∷ (q ++ t))) (b ++ (44 ∷ (h ++ u))) like)) gap;
      tree = ap (tree.child (key_label (key_content key)) (tree_of n)) x.tree ∙ rw here refl;
      whole = λ z w same. x.whole (z ++ f) w (append_assoc z f (q ++ t) ∙ (ap (λ l. z ++ l) (sym (after_cut g key n (comma b q) t)) ∙ same));
    }

left : (d k : ℕ) (s : Step) (g : List ℕ) (is : Items) (rest : List ℕ) (e : FlowEdit) → is_close k ≡ true →
    pairs_returns (flow_items_text k is rest) ≡ true → IsInlineGap g (flow_items_text k is rest) → AreFlowItems d k is rest →
    removing_from k rest s g is ≡ Some e →
    Left d k s g is rest e
unfolding flow_items_text AreFlowItems
left d k s g none rest e c pairs gap a at = absurd (none-some _ at)
left d k s g (item key n sep is) rest e c pairs gap a at = go (is_here s (key_label (key_content key))) refl (λ x p q there. left d k (further s) (gap_of sep) is rest x c p q a.4 there) at where
  t : List ℕ
  t = flow_items_text k is rest

  ends : ends_return (key_text key (node_text n [])) ≡ false
  ends = pairs_end (key_text key (node_text n [])) (sep_text sep t) (subst (λ (l : List ℕ). pairs_returns l ≡ true) (text_cut key n (sep_text sep t)) pairs) (item_return k d key n (sep_text sep t) c (sep_ends k sep t a.3) a.0 a.2)

  further_pairs : pairs_returns t ≡ true
  further_pairs = pairs_after (key_text key (node_text n (sep_text sep []))) t (subst (λ (l : List ℕ). pairs_returns l ≡ true) (item_cut key n sep t) pairs)

  other : is_here s (key_label (key_content key)) ≡ false →
      ((x : FlowEdit) → pairs_returns (flow_items_text k is rest) ≡ true → IsInlineGap (gap_of sep) (flow_items_text k is rest) →
      removing_from k rest (further s) (gap_of sep) is ≡ Some x → Left d k (further s) (gap_of sep) is rest x) →
      (last_out k rest (further s) g key n sep is ≡ Some e) ⊎ (option_map (edit_from_item g key n sep) (removing_from k rest (further s) (gap_of sep) is) ≡ Some e) → Left d k s g (item key n sep is) rest e
  other here again (inl at) = last_of d k s g key n sep is rest e c here ends gap a at
  other here again (inr at) =
      let x = option_some (edit_from_item g key n sep) (removing_from k rest (further s) (gap_of sep) is) e at in
      subst (Left d k s g (item key n sep is) rest) x.2 (after_left d k s g key n sep is rest x.0 c here gap a x.1 (λ q. again x.0 further_pairs q x.1))

  go : (b : Bool) → is_here s (key_label (key_content key)) ≡ b →
      ((x : FlowEdit) → pairs_returns (flow_items_text k is rest) ≡ true → IsInlineGap (gap_of sep) (flow_items_text k is rest) →
      removing_from k rest (further s) (gap_of sep) is ≡ Some x → Left d k (further s) (gap_of sep) is rest x) →
      cond b (before_next k rest g key n sep is)
      (option_or (last_out k rest (further s) g key n sep is)
      (option_map (edit_from_item g key n sep) (removing_from k rest (further s) (gap_of sep) is))) ≡ Some e →
      Left d k s g (item key n sep is) rest e
  go true here again at = before_left d k s g key n sep is rest e c here gap a at
  go false here again at = other here again (either _ _ at)

-- ---- in a node

module _ (x : CollAt) (s : Step) (e : FlowEdit) (h : IsCollAt x) (at : removing s x.coll ≡ Some e) where
  after_open : (text : List ℕ) → text ++ node_text x.node x.rest ≡ (text ++ ((around_is x h).before ++ (opening_bracket x.coll.close ∷ []))) ++ (x.coll.gap ++ flow_items_text x.coll.close x.coll.items x.coll.rest)
  after_open text = search (rules, around_is, append_assoc)

  left_in : (text : List ℕ) → pairs_returns (text ++ node_text x.node x.rest) ≡ true → Left (around_is x h).inner_depth x.coll.close s x.coll.gap x.coll.items x.coll.rest e
  left_in text pairs =
      let c = x.coll in
      let i = around_is x h in
      let f : List ℕ = text ++ (i.before ++ (opening_bracket c.close ∷ [])) in
      let inside = pairs_after c.gap (flow_items_text c.close c.items c.rest) (pairs_after f (c.gap ++ flow_items_text c.close c.items c.rest) (subst (λ (l : List ℕ). pairs_returns l ≡ true) (after_open text) pairs)) in
      left i.inner_depth c.close s c.gap c.items c.rest e i.closes inside i.gap i.items at

  -- an item or entry taken out
  pub removed : pairs_returns (node_text x.node x.rest) ≡ true → IsFlowEdited x e (changed_at x.steps (within (remove_child s)))
  removed pairs =
      let c = x.coll in
      let l = left_in [] pairs in
      edited x e (remove_child s) (around_is x h) l.gap l.are l.tree (opened c.close c.gap e.gap c.items e.items c.rest e.old (e.lead ++ e.written) e.after (removed_text c.close c.rest s c.gap c.items e at).text)

  -- in a longer text no CR comes before an LF
  pub removed_whole : (text before : List ℕ) → pairs_returns (text ++ node_text x.node x.rest) ≡ true → text ++ node_text x.node x.rest ≡ before ++ (e.old ++ e.after) → Whole before (e.old ++ e.after)
  removed_whole text before pairs same = (left_in text pairs).whole (text ++ ((around_is x h).before ++ (opening_bracket x.coll.close ∷ []))) before (sym (after_open text) ∙ same)
