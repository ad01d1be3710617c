-- Items and entries taken out of what is left of a flow collection.
use Rattle.std.proofs.Common.{◌≡◌, ℕ, zero, suc, ◌+◌, ◌≤◌, ◌<◌, Bool, false, cond, List, [], ◌∷◌, ◌++◌, length, Some, None, option_map}
use Rattle.std.{proofs.Common.{refl, sym, ap, ◌∙◌, subst, arith, append_assoc, append-nil, length-append}, proofs.lemmas.Bool.false≢true}
use Rattle.std.specs.Option.{option_or}
use Rattle.yq_core.specs.Paths.{Step, is_here, further}
use Rattle.yq_core.specs.Nodes.{Key, FlowNode, Sep, last, comma, Items, none, item, key_text, node_text, sep_text, flow_items_text}
use Rattle.yq_core.{specs.Trees.key_content, specs.Tree.key_label, proofs.NodeAgain.{items_longer, sep_longer}}
use Rattle.yq_flow_edits.{specs.FlowEdits.{FlowEdit, is_none}, proofs.ItemSwaps.{item_cut, text_cut}, proofs.RemoveTexts.gone_bytes}
use Rattle.yq_flow_edits.specs.Removals.{before_next, comma_left, edit_from_item, gap_of, gap_to, last_gone, last_out, removing_from}
use Rattle.yq_flow_edits.specs.Removals.{space_to, with_gap}
use Rattle.yq_batch.specs.LeftItems.{Ending, closing, others, sep_left, left_items, items_after, LeadsToIndex, gap_at, front_text}
use Rattle.yq_batch.specs.LeftItems.{text_of_item, upto_text, count_items, TakesOut, NeedsNoSpace, NeedsNoComma}

none_is : {A : Type 0} {key : Key} {n : FlowNode} {sep : Sep} {is : Items} → none ≡ item key n sep is → A
none_is e = absurd (false≢true (sym (ap is_none e)))

-- ---- the shape of what is left

-- others come after what is not the last one
sep_kept : (j : ℕ) (sep : Sep) (is : Items) (e : Ending) (key2 : Key) (n2 : FlowNode) (sep2 : Sep) (os : Items) → left_items j is e ≡ item key2 n2 sep2 os → sep_left j sep e ≡ sep
sep_kept zero sep is (closing s) key2 n2 sep2 os at = none_is at
sep_kept zero sep is (others key n s os2) key2 n2 sep2 os at = refl
sep_kept (suc j) sep is e key2 n2 sep2 os at = refl

-- an item after which others come is one of what is left
abbrev HasFirst : Items → Type 0
HasFirst is = (key : Key) × (n : FlowNode) × (sep : Sep) × (os : Items) × (is ≡ item key n sep os)

some_left : (i j : ℕ) (is : Items) (e : Ending) (key2 : Key) (n2 : FlowNode) (sep2 : Sep) (os : Items) → items_after i j is e ≡ item key2 n2 sep2 os → HasFirst (left_items j is e)
some_left i zero is e key2 n2 sep2 os at = none_is at
some_left i (suc j) none e key2 n2 sep2 os at = none_is at
some_left i (suc j) (item key n sep is) e key2 n2 sep2 os at = (key, n, sep_left j sep e, left_items j is e, refl)

-- none of two is the last one that follows
two_left : (k : ℕ) (rest : List ℕ) (s : Step) (g : List ℕ) (key : Key) (n : FlowNode) (sep : Sep) (i j : ℕ) (is : Items) (e : Ending) (key2 : Key) (n2 : FlowNode) (sep2 : Sep) (os : Items) →
    items_after i j is e ≡ item key2 n2 sep2 os → last_out k rest s g key n sep (left_items j is e) ≡ None
two_left k rest s g key n sep i zero is e key2 n2 sep2 os at = none_is at
two_left k rest s g key n sep i (suc j) none e key2 n2 sep2 os at = none_is at
two_left k rest s g key n sep zero (suc j) (item key3 n3 sep3 is) e key2 n2 sep2 os at =
    ap (λ (x : Items). last_out k rest s g key n sep (item key3 n3 (sep_left j sep3 e) x)) at
two_left k rest s g key n sep (suc i) (suc j) (item key3 n3 sep3 is) e key2 n2 sep2 os at =
    let x = some_left i j is e key2 n2 sep2 os at in
    ap (λ (y : Items). last_out k rest s g key n sep (item key3 n3 (sep_left j sep3 e) y)) x.4

-- ---- one item more in front

own_gap : (sep : Sep) → with_gap (gap_of sep) sep ≡ sep
own_gap (last b) = ap last (append-nil b)
own_gap (comma b g) = refl

-- an item in front of those from which one is taken out
one_before_others : (k : ℕ) (rest g : List ℕ) (s : Step) (key : Key) (n : FlowNode) (sep : Sep) (left new : Items) (front upto : List ℕ) → is_here s (key_label (key_content key)) ≡ false →
    last_out k rest (further s) g key n sep left ≡ None → TakesOut k rest (gap_of sep) (further s) left new front upto →
    TakesOut k rest g s (item key n sep left) (item key n sep new) (key_text key (node_text n (sep_text sep [])) ++ front) (key_text key (node_text n (sep_text sep [])) ++ upto)
unfolding flow_items_text
one_before_others k rest g s key n sep left new front upto elsewhere not_last h =
    let a : List ℕ = key_text key (node_text n (sep_text sep [])) in
    record {
      edit = edit_from_item g key n sep h.edit;
      removes =
          (λ i. cond (elsewhere i) (before_next k rest g key n sep left) (option_or (not_last i) (option_map (edit_from_item g key n sep) (h.removes i))));
      gap = refl;
      items = (λ i. item key n (with_gap (h.gap i) sep) (h.items i)) ∙ ap (λ (x : Sep). item key n x new) (own_gap sep);
      lead = h.lead;
      text = item_cut key n sep (flow_items_text k left rest) ∙ (ap (λ (l : List ℕ). a ++ l) h.text ∙ sym (append_assoc a front (h.edit.old ++ h.edit.after)));
      old = append_assoc a front h.edit.old ∙ ap (λ (l : List ℕ). a ++ l) h.old;
      left_text = item_cut key n sep (flow_items_text k new rest) ∙ (ap (λ (l : List ℕ). a ++ l) h.left_text ∙ sym (append_assoc a front h.edit.after));
    }

-- ---- one that others follow

pub more_follow : (k : ℕ) (rest g : List ℕ) (s : Step) (i j : ℕ) (is : Items) (e : Ending) (key2 : Key) (n2 : FlowNode) (sep2 : Sep) (os : Items) → LeadsToIndex s i is → items_after i j is e ≡ item key2 n2 sep2 os →
    NeedsNoSpace (gap_at i g is) (key_text key2 (node_text n2 [])) → TakesOut k rest g s (left_items j is e) (left_items i is (others key2 n2 sep2 os)) (front_text i is) (front_text (suc i) is)
unfolding flow_items_text
more_follow k rest g s i j none e key2 n2 sep2 os leads after apart = absurd leads
more_follow k rest g s i zero (item key n sep is) e key2 n2 sep2 os leads after apart = none_is after
more_follow k rest g s zero (suc j) (item key n sep is) e key2 n2 sep2 os here after apart =
    let next : List ℕ = key_text key2 (node_text n2 []) in
    let same : sep_left j sep e ≡ sep = sep_kept j sep is e key2 n2 sep2 os after in
    let space : space_to g next ≡ [] = ap (λ (b : Bool). cond b (32 ∷ []) []) apart in
    let a : List ℕ = key_text key (node_text n (sep_text sep [])) in
    record {
      edit = record { gap = gap_to g next; items = item key2 n2 sep2 os; old = a; lead = space_to g next; written = []; after = flow_items_text k (item key2 n2 sep2 os) rest };
      removes =
          (λ i. cond (here i) (before_next k rest g key n (same i) (after i))
          (option_or (last_out k rest (further s) g key n (same i) (after i))
          (option_map (edit_from_item g key n (same i)) (removing_from k rest (further s) (gap_of (same i)) (after i)))));
      gap = ap (λ (l : List ℕ). g ++ l) space ∙ append-nil g;
      items = refl;
      lead = space;
      text = (λ i. key_text key (node_text n (sep_text (same i) (flow_items_text k (after i) rest)))) ∙ item_cut key n sep (flow_items_text k (item key2 n2 sep2 os) rest);
      old = sym (append-nil a);
      left_text = refl;
    }
more_follow k rest g s (suc i) (suc j) (item key n sep is) e key2 n2 sep2 os leads after apart =
    let x = some_left i j is e key2 n2 sep2 os after in
    let same : sep_left j sep e ≡ sep = sep_kept j sep is e x.0 x.1 x.2 x.3 x.4 in
    let h = more_follow k rest (gap_of sep) (further s) i j is e key2 n2 sep2 os leads.1 after apart in
    let w = one_before_others k rest g s key n sep (left_items j is e) (left_items i is (others key2 n2 sep2 os)) (front_text i is) (front_text (suc i) is) leads.0
    (two_left k rest (further s) g key n sep i j is e key2 n2 sep2 os after) h in
    subst (λ (x : Sep). TakesOut k rest g s (item key n x (left_items j is e))
    (item key n (sep_left i sep (others key2 n2 sep2 os)) (left_items i is (others key2 n2 sep2 os)))
    (key_text key (node_text n (sep_text sep [])) ++ front_text i is) (key_text key (node_text n (sep_text sep [])) ++ front_text (suc i) is))
    (sym same)
    (subst (λ (x : Sep). TakesOut k rest g s (item key n sep (left_items j is e)) (item key n x (left_items i is (others key2 n2 sep2 os)))
    (key_text key (node_text n (sep_text sep [])) ++ front_text i is) (key_text key (node_text n (sep_text sep [])) ++ front_text (suc i) is))
    (sym (kept i sep)) w)
  where
    kept : (i : ℕ) (sep : Sep) → sep_left i sep (others key2 n2 sep2 os) ≡ sep
    kept zero sep = refl
    kept (suc i) sep = refl

-- ---- the last one

pub none_follow : (k : ℕ) (rest g : List ℕ) (s : Step) (i : ℕ) (is : Items) (s2 : Sep) → LeadsToIndex s (suc i) is → NeedsNoComma i g is →
    TakesOut k rest g s (left_items (suc (suc i)) is (closing s2)) (left_items (suc i) is (closing s2)) (upto_text i is) (upto_text (suc i) is)
unfolding flow_items_text
none_follow k rest g s i none s2 leads apart = absurd leads
none_follow k rest g s i (item key n sep none) s2 leads apart = absurd leads.1
none_follow k rest g s zero (item key n sep (item key2 n2 sep2 is)) s2 leads apart =
    let own : List ℕ = key_text key (node_text n []) in
    let own2 : List ℕ = key_text key2 (node_text n2 []) in
    let a : List ℕ = key_text key (node_text n (sep_text sep [])) in
    let out : FlowEdit = last_gone k rest g key n sep key2 n2 s2 in
    record {
      edit = out;
      removes =
          (λ i. cond (leads.0 i) (before_next k rest g key n sep (item key2 n2 s2 none))
          (option_or (cond (leads.1 i) (Some (cond (apart i) (comma_left k rest g key n sep key2 n2 s2) out)) None)
          (option_map (edit_from_item g key n sep) (removing_from k rest (further s) (gap_of sep) (item key2 n2 s2 none)))));
      gap = refl;
      items = refl;
      lead = refl;
      text = text_cut key n (sep_text sep (key_text key2 (node_text n2 (sep_text s2 (k ∷ rest))))) ∙ ap (λ (l : List ℕ). own ++ l) (sym (gone_bytes k rest sep key2 n2 s2).was);
      old = sym (text_cut key n (sep_text sep own2)) ∙ (item_cut key n sep own2 ∙ ap (λ (l : List ℕ). l ++ own2) (sym (append-nil a)));
      left_text = text_cut key n (sep_text s2 (k ∷ rest));
    }
none_follow k rest g s (suc i) (item key n sep (item key2 n2 sep2 none)) s2 leads apart = absurd leads.1.1
none_follow k rest g s (suc i) (item key n sep (item key2 n2 sep2 (item key3 n3 sep3 is))) s2 leads apart =
    let os : Items = item key2 n2 sep2 (item key3 n3 sep3 is) in
    let a : List ℕ = key_text key (node_text n (sep_text sep [])) in
    let h = none_follow k rest (gap_of sep) (further s) i os s2 leads.1 apart in
    let w = one_before_others k rest g s key n sep (left_items (suc (suc i)) os (closing s2)) (left_items (suc i) os (closing s2)) (upto_text i os) (upto_text (suc i) os) leads.0 refl h in
    subst (λ (l : List ℕ). TakesOut k rest g s (left_items (suc (suc (suc i))) (item key n sep os) (closing s2)) (left_items (suc (suc i)) (item key n sep os) (closing s2)) l (upto_text (suc (suc i)) (item key n sep os)))
    (sym (append_assoc a (front_text i os) (text_of_item i os)))
    (subst (λ (l : List ℕ). TakesOut k rest g s (left_items (suc (suc (suc i))) (item key n sep os) (closing s2)) (left_items (suc (suc i)) (item key n sep os) (closing s2)) (a ++ upto_text i os) l)
    (sym (append_assoc a (front_text (suc i) os) (text_of_item (suc i) os))) w)

-- ---- sizes

own_short : (key : Key) (n : FlowNode) (sep : Sep) → length (key_text key (node_text n [])) ≤ length (key_text key (node_text n (sep_text sep [])))
own_short key n sep = omega (arith, ap length (text_cut key n (sep_text sep [])), length-append (key_text key (node_text n [])) (sep_text sep []))

-- an item ends before those after it
pub ends_before : (i m : ℕ) (is : Items) → i < m → length (upto_text i is) ≤ length (front_text m is)
ends_before i zero is less = absurd (omega (arith, less))
ends_before zero (suc m) none less = omega arith
ends_before (suc i) (suc m) none less = omega arith
ends_before zero (suc m) (item key n sep is) less =
    omega (arith, own_short key n sep, length-append (key_text key (node_text n (sep_text sep []))) (front_text m is))
ends_before (suc i) (suc m) (item key n sep is) less =
    let a : List ℕ = key_text key (node_text n (sep_text sep [])) in
    omega (arith, ends_before i m is (omega (arith, less)), length-append a (front_text m is), length-append (a ++ front_text i is) (text_of_item i is), length-append a (front_text i is), length-append (front_text i is) (text_of_item i is))

-- and before what comes after all
pub ends_within : (k i : ℕ) (is : Items) (rest : List ℕ) → length (upto_text i is) + length rest ≤ length (flow_items_text k is rest)
unfolding flow_items_text
ends_within k zero none rest = omega arith
ends_within k (suc i) none rest = omega arith
ends_within k zero (item key n sep is) rest =
    let u : List ℕ = sep_text sep (flow_items_text k is rest) in
    omega (arith, ap length (text_cut key n u), length-append (key_text key (node_text n [])) u, sep_longer sep (flow_items_text k is rest), items_longer k is rest)
ends_within k (suc i) (item key n sep is) rest =
    let a : List ℕ = key_text key (node_text n (sep_text sep [])) in
    omega (
      arith,
      ends_within k i is rest,
      ap length (item_cut key n sep (flow_items_text k is rest)),
      length-append a (flow_items_text k is rest),
      length-append (a ++ front_text i is) (text_of_item i is),
      length-append a (front_text i is),
      length-append (front_text i is) (text_of_item i is),
    )

-- all items are left of those from which none was taken out
pub all_left : (is : Items) → (s : Sep) × (left_items (count_items is) is (closing s) ≡ is)
all_left none = (last [], refl)
all_left (item key n sep none) = (sep, refl)
all_left (item key n sep (item key2 n2 sep2 is)) = let x = all_left (item key2 n2 sep2 is) in (x.0, ap (λ (os : Items). item key n sep os) x.1)
