-- The bytes of an item that is taken out.
use Rattle.std.proofs.Common.{◌≡◌, ◌⊎◌, inl, inr, ℕ, ◌≤◌, Bool, false, ◌&&◌, cond, List, [], ◌∷◌, ◌++◌, length, Option, Some, None}
use Rattle.std.proofs.Common.{option_map, refl, sym, ap, ◌∙◌, subst, arith, append_assoc, append-nil, length-append, rules}
use Rattle.std.{proofs.lemmas.Bool.cond_both, proofs.lemmas.Option.{none-some, same_Some}, specs.Option.option_or}
use Rattle.yq_core.{specs.Paths.{Step, is_here, further}, specs.PlainText.begins_marker, specs.Alike.fresh}
use Rattle.yq_core.specs.Nodes.{Key, Sep, last, comma, FlowNode, Items, none, item, key_text, sep_text, node_text, flow_items_text}
use Rattle.yq_core.{specs.Trees.key_content, specs.Tree.key_label, proofs.NodeAgain.items_longer, proofs.NodesWrittenLaws.sep_append}
use Rattle.yq_flow_edits.specs.FlowEdits.{Becomes, FlowEdit}
use Rattle.yq_flow_edits.specs.Removals.{before_next, edit_from_item, comma_left, ends_marked, gap_of, last_gone, last_out, last_removed}
use Rattle.yq_flow_edits.{specs.Removals.{next_text, removing_from, with_gap}, proofs.ItemLaws.{put_before, becomes_same}}
use Rattle.yq_flow_edits.proofs.ItemSwaps.{item_cut, text_cut}

-- ---- one of two, and what is made of one

pub either : {A : Type 0} {y : A} (a b : Option A) → option_or a b ≡ Some y → (a ≡ Some y) ⊎ (b ≡ Some y)
either a b is = search rules

pub option_some : {A B : Type 0} (f : A → B) (o : Option A) (y : B) → option_map f o ≡ Some y → (x : A) × (o ≡ Some x) × (f x ≡ y)
option_some f o y e = search (rules, none-some, same_Some)

-- ---- what comes after an item

-- the text between an item and the gap before the next one
pub sep_front : Sep → List ℕ
sep_front (last b) = b
sep_front (comma b g) = b ++ (44 ∷ [])

sep_with : (h : List ℕ) (sep : Sep) (x : List ℕ) → sep_text (with_gap h sep) x ≡ sep_front sep ++ (h ++ x)
unfolding sep_front
sep_with h sep x = search (rules, append_assoc)

sep_own : (sep : Sep) (x : List ℕ) → sep_text sep x ≡ sep_front sep ++ (gap_of sep ++ x)
unfolding sep_front
sep_own sep x = search (rules, append_assoc)

-- the text of items after a gap, from the gap before the next one on
front_cut : (g : List ℕ) (key : Key) (n : FlowNode) (f z : List ℕ) → g ++ key_text key (node_text n (f ++ z)) ≡ (g ++ (key_text key (node_text n []) ++ f)) ++ z
front_cut g key n f z = search (rules, text_cut, append_assoc)

pub after_cut : (g : List ℕ) (key : Key) (n : FlowNode) (sep : Sep) (x : List ℕ) → g ++ key_text key (node_text n (sep_text sep x)) ≡ (g ++ (key_text key (node_text n []) ++ sep_front sep)) ++ (gap_of sep ++ x)
after_cut g key n sep x = ap (λ l. g ++ key_text key (node_text n l)) (sep_own sep x) ∙ front_cut g key n (sep_front sep) (gap_of sep ++ x)

-- ---- the bytes

-- What is known of the bytes of an item that is taken out of items after a gap.
pub record RemovedText (k : ℕ) (rest g : List ℕ) (is : Items) (e : FlowEdit) : Type 0 where
  pub text : Becomes (g ++ flow_items_text k is rest) (e.gap ++ flow_items_text k e.items rest) e.old (e.lead ++ e.written) e.after
  pub none_written : e.written ≡ []
  pub longer : length rest ≤ length e.after
  pub lead : (e.lead ≡ []) ⊎ ((e.lead ≡ 32 ∷ []) ⊎ (e.lead ≡ 44 ∷ []))

-- up to the next one
before_text : (k : ℕ) (rest g : List ℕ) (key : Key) (n : FlowNode) (sep : Sep) (is : Items) (e : FlowEdit) → before_next k rest g key n sep is ≡ Some e → RemovedText k rest g (item key n sep is) e
unfolding flow_items_text
before_text k rest g key n sep none e at = absurd (none-some _ at)
before_text k rest g key n sep (item key2 n2 sep2 is) e at =
    let y : List ℕ = flow_items_text k (item key2 n2 sep2 is) rest in
    let own : List ℕ = key_text key2 (node_text n2 []) in
    subst (RemovedText k rest g (item key n sep (item key2 n2 sep2 is))) (same_Some _ _ at) (record {
      text = search (rules, item_cut, append_assoc, append-nil);
      none_written = refl;
      longer = omega (arith, items_longer k (item key2 n2 sep2 is) rest);
      lead = cond_both (fresh false g && begins_marker own) (32 ∷ []) [] (λ (l : List ℕ). (l ≡ []) ⊎ ((l ≡ 32 ∷ []) ⊎ (l ≡ 44 ∷ []))) (λ _. inr (inl refl)) (λ _. inl refl);
    })

-- from the end of one to that of the next one
pub next_is : (sep : Sep) (key : Key) (n : FlowNode) (u : List ℕ) → next_text sep key n ++ u ≡ sep_text sep (key_text key (node_text n u))
next_is sep key n u = sym (ap (sep_text sep) (text_cut key n u) ∙ sep_append sep (key_text key (node_text n [])) u)

-- An item before the last one has another separator when that is taken out, and these bytes are replaced.
pub record LastBytes (k : ℕ) (rest : List ℕ) (sep : Sep) (key : Key) (n : FlowNode) (sep2 left : Sep) (old lead after : List ℕ) : Type 0 where
  pub was : old ++ after ≡ sep_text sep (key_text key (node_text n (sep_text sep2 (k ∷ rest))))
  pub is : lead ++ after ≡ sep_text left (k ∷ rest)
  pub longer : length rest ≤ length after
  pub lead_is : (lead ≡ []) ⊎ ((lead ≡ 32 ∷ []) ⊎ (lead ≡ 44 ∷ []))

pub gone_bytes : (k : ℕ) (rest : List ℕ) (sep : Sep) (key : Key) (n : FlowNode) (sep2 : Sep) → LastBytes k rest sep key n sep2 sep2 (next_text sep key n) [] (sep_text sep2 (k ∷ rest))
gone_bytes k rest sep key n sep2 = search (rules, next_is, length-append)

pub comma_new_bytes : (k : ℕ) (rest : List ℕ) (sep : Sep) (key : Key) (n : FlowNode) (b : List ℕ) → LastBytes k rest sep key n (last b) (comma [] b) (next_text sep key n) (44 ∷ []) (b ++ (k ∷ rest))
comma_new_bytes k rest sep key n b = record { was = next_is sep key n (b ++ (k ∷ rest)); is = refl; longer = omega (arith, length-append b (k ∷ rest)); lead_is = inr (inr refl) }

pub comma_old_bytes : (k : ℕ) (rest : List ℕ) (sep : Sep) (key : Key) (n : FlowNode) (b h : List ℕ) → LastBytes k rest sep key n (comma b h) (comma [] h) (next_text sep key n ++ b) [] (44 ∷ (h ++ (k ∷ rest)))
comma_old_bytes k rest sep key n b h = search (rules, append_assoc, next_is, length-append)

last_bytes : (k : ℕ) (rest g : List ℕ) (key : Key) (n : FlowNode) (sep : Sep) (key2 : Key) (n2 : FlowNode) (sep2 left : Sep) (old lead after : List ℕ) → LastBytes k rest sep key2 n2 sep2 left old lead after →
    RemovedText k rest g (item key n sep (item key2 n2 sep2 none)) (record { gap = g; items = item key n left none; old = old; lead = lead; written = []; after = after })
unfolding flow_items_text
last_bytes k rest g key n sep key2 n2 sep2 left old lead after h =
    let own : List ℕ = key_text key (node_text n []) in
    let cut : (t : List ℕ) → g ++ key_text key (node_text n t) ≡ (g ++ own) ++ t = λ t. ap (λ l. g ++ l) (text_cut key n t) ∙ sym (append_assoc g own t) in
    search (rules, append-nil)

last_text : (k : ℕ) (rest : List ℕ) (s : Step) (g : List ℕ) (key : Key) (n : FlowNode) (sep : Sep) (is : Items) (e : FlowEdit) → last_out k rest s g key n sep is ≡ Some e → RemovedText k rest g (item key n sep is) e
last_text k rest s g key n sep none e at = absurd (none-some _ at)
last_text k rest s g key n sep (item key2 n2 sep2 (item key3 n3 sep3 is)) e at = absurd (none-some _ at)
last_text k rest s g key n sep (item key2 n2 sep2 none) e at = go (is_here s (key_label (key_content key2))) at
  where
    commas : (sep2 : Sep) → RemovedText k rest g (item key n sep (item key2 n2 sep2 none)) (comma_left k rest g key n sep key2 n2 sep2)
    commas (last b) = last_bytes k rest g key n sep key2 n2 (last b) (comma [] b) _ _ _ (comma_new_bytes k rest sep key2 n2 b)
    commas (comma b h) = last_bytes k rest g key n sep key2 n2 (comma b h) (comma [] h) _ _ _ (comma_old_bytes k rest sep key2 n2 b h)

    known : RemovedText k rest g (item key n sep (item key2 n2 sep2 none)) (last_removed k rest g key n sep key2 n2 sep2)
    known =
        cond_both (ends_marked (fresh false g) (key_text key (node_text n []))) (comma_left k rest g key n sep key2 n2 sep2) (last_gone k rest g key n sep key2 n2 sep2)
        (RemovedText k rest g (item key n sep (item key2 n2 sep2 none))) (λ _. commas sep2) (λ _. last_bytes k rest g key n sep key2 n2 sep2 sep2 _ _ _ (gone_bytes k rest sep key2 n2 sep2))

    go : (b : Bool) → cond b (Some (last_removed k rest g key n sep key2 n2 sep2)) None ≡ Some e → RemovedText k rest g (item key n sep (item key2 n2 sep2 none)) e
    go b at = search (rules, same_Some, known, none-some)

-- of the items from another one on
after_text : (k : ℕ) (rest g : List ℕ) (key : Key) (n : FlowNode) (sep : Sep) (is : Items) (e : FlowEdit) → RemovedText k rest (gap_of sep) is e → RemovedText k rest g (item key n sep is) (edit_from_item g key n sep e)
unfolding flow_items_text
after_text k rest g key n sep is e h = search (rules, sep_front, sep_with, front_cut, becomes_same, after_cut, put_before)

pub removed_text : (k : ℕ) (rest : List ℕ) (s : Step) (g : List ℕ) (is : Items) (e : FlowEdit) → removing_from k rest s g is ≡ Some e → RemovedText k rest g is e
removed_text k rest s g none e at = absurd (none-some _ at)
removed_text k rest s g (item key n sep is) e at = go (is_here s (key_label (key_content key))) (λ x. removed_text k rest (further s) (gap_of sep) is x) at
  where
    after : ((x : FlowEdit) → removing_from k rest (further s) (gap_of sep) is ≡ Some x → RemovedText k rest (gap_of sep) is x) →
        (last_out k rest (further s) g key n sep is ≡ Some e) ⊎ (option_map (edit_from_item g key n sep) (removing_from k rest (further s) (gap_of sep) is) ≡ Some e) → RemovedText k rest g (item key n sep is) e
    after again (inl at) = last_text k rest (further s) g key n sep is e at
    after again (inr at) =
        let x = option_some (edit_from_item g key n sep) (removing_from k rest (further s) (gap_of sep) is) e at in
        subst (RemovedText k rest g (item key n sep is)) x.2 (after_text k rest g key n sep is x.0 (again x.0 x.1))

    go : (b : Bool) → ((x : FlowEdit) → removing_from k rest (further s) (gap_of sep) is ≡ Some x → RemovedText k rest (gap_of sep) is x) →
        cond b (before_next k rest g key n sep is) (option_or (last_out k rest (further s) g key n sep is) (option_map (edit_from_item g key n sep) (removing_from k rest (further s) (gap_of sep) is))) ≡ Some e →
        RemovedText k rest g (item key n sep is) e
    go b again at = search (rules, before_text, after, either)
