-- A node of a flow collection before what comes after an item is one before another such text, if its bytes keep apart from that.
use Rattle.std.proofs.Common.{◌≡◌, inl, inr, ⊎_elim, ℕ, zero, suc, eq-eqb, Bool, true, false, not, ◌||◌, eqb, List, [], ◌∷◌, ◌++◌, Option}
use Rattle.std.proofs.Common.{Some, refl, sym, ◌∙◌, subst, eqb-true, append-nil, rules}
use Rattle.std.proofs.lemmas.Bool.{or_cases, or_right, not-false, cases_Bool, or_parts}
use Rattle.yq_core.{specs.Text.{NoneIn, unless, is_empty, is_feed}, proofs.Bools.at_byte}
use Rattle.yq_core.specs.Alike.{Alike, stop, after, EndsItem, fresh, KeepsApart}
use Rattle.yq_core.specs.Nodes.{Key, bare, keyed, Sep, last, comma, FlowNode, empty, alias, scalar, coll, anchored, Items, none, item}
use Rattle.yq_core.specs.Nodes.{key_text, sep_text, node_text, flow_items_text, begins_with, in_name, begins_content, is_close, IsLead}
use Rattle.yq_core.specs.Nodes.{IsName, IsSep, is_empty_node, takes_anchor, IsFlowNode, AreFlowItems}
use Rattle.yq_core.{proofs.Alikes.{alike_append, alike_first}, proofs.AlikePieces.{gap_alike, name_by}}
use Rattle.yq_core.{proofs.EndLaws.{ends_name, ends_node, scalar_keeps}, proofs.NodesPieceLaws.front_is, proofs.NodesWrittenLaws.node_then}
use Rattle.yq_core.proofs.KeyKeeps.{lead_none, ends_lead, key_keeps, lead_gap, or_left_true}
use Rattle.yq_core.proofs.KeepLaws.{keeps_alike, keeps_append, bare_text, taken_begins, some_begins, gap_node}

-- what comes after an item
pub sep_ends : (k : ℕ) (s : Sep) (r : List ℕ) → IsSep k s r → EndsItem k (sep_text s r)
sep_ends k s r h1 = search (rules, front_is, or_right, eq-eqb)

pub sep_alike : (k : ℕ) (s : Sep) (t u : List ℕ) → Alike (Some true) t u → IsSep k s t → IsSep k s u
sep_alike k (last b) t u h g = (gap_alike (Some true) b t u h g.0, sym (alike_first k (Some true) t u h) ∙ g.1)
sep_alike k (comma b s) t u h g = (gap_alike (Some true) b (44 ∷ (s ++ t)) (44 ∷ (s ++ u)) (stop refl) g.0, gap_alike (Some true) s t u h g.1)

pub sep_text_alike : (s : Sep) (t u : List ℕ) → Alike (Some true) t u → Alike (Some true) (sep_text s t) (sep_text s u)
sep_text_alike (last b) t u h = alike_append (Some true) b t u h
sep_text_alike (comma b s) t u h = alike_append (Some true) b (44 ∷ (s ++ t)) (44 ∷ (s ++ u)) (stop refl)

pub key_text_alike : (key : Key) (t u : List ℕ) → Alike (Some true) t u → Alike (Some true) (key_text key t) (key_text key u)
key_text_alike bare t u h = h
key_text_alike (keyed p b s) t u h = alike_append (Some true) p (b ++ (58 ∷ (s ++ t))) (b ++ (58 ∷ (s ++ u))) (alike_append (Some true) b (58 ∷ (s ++ t)) (58 ∷ (s ++ u)) (after (alike_append (Some true) s t u h)))

pub node_text_alike : (f : Option Bool) (node : FlowNode) (t u : List ℕ) → Alike f t u → Alike f (node_text node t) (node_text node u)
node_text_alike f node t u h = rw (node_then node t, node_then node u) (alike_append f (node_text node []) t u h)

-- items up to their closing bracket are alike
pub items_text_alike : (k : ℕ) (is : Items) (t u : List ℕ) → is_close k ≡ true → Alike (Some true) (flow_items_text k is t) (flow_items_text k is u)
unfolding flow_items_text
items_text_alike k none t u c = ⊎_elim {0, 0, 0}
    (λ e. rw (eqb-true k 93 e) (stop refl))
    (λ e. rw (eqb-true k 125 e) (stop refl))
    (or_cases (eqb k 93) (eqb k 125) c)
items_text_alike k (item key n s is) t u c = search (rules, sep_text_alike, key_text_alike, node_text_alike, items_text_alike k is t u c)

name_fresh : (f : Bool) (n r : List ℕ) → NoneIn (unless in_name) n r → f ≡ false → fresh f n ≡ false
name_fresh f [] r h e = e
name_fresh f (b ∷ n) r h e = name_fresh (is_feed b) n r h.1 (at_byte in_name b 10 (not-false (in_name b) h.0) refl)

name_after : (k : ℕ) (n g : List ℕ) (node : FlowNode) (t u : List ℕ) → is_close k ≡ true → EndsItem k u → (is_empty_node node || not (is_empty g)) ≡ true → IsName n (g ++ node_text node t) → IsName n (g ++ node_text node u)
name_after k n [] node t u c d a h = name_by n (node_text node t) (node_text node u) (subst (λ (l : List ℕ). unless in_name l ≡ true) (sym (bare_text node u (or_left_true (is_empty_node node) false refl a))) (ends_name k u c d)) h
name_after k n (b ∷ g) node t u c d a h = name_by n (b ∷ (g ++ node_text node t)) (b ∷ (g ++ node_text node u)) h.ends h

lead_after : (k d : ℕ) (g : List ℕ) (node : FlowNode) (t u : List ℕ) → is_close k ≡ true → EndsItem k t → EndsItem k u →
    KeepsApart (fresh false g) (node_text node []) t u → takes_anchor node ≡ true → IsFlowNode true (Some 0) d node t →
    IsFlowNode true (Some 0) d node u →
    IsLead true (begins_content true) g (node_text node t) → IsLead true (begins_content true) g (node_text node u)
lead_after k d g node t u c e h keeps a x y lead = elim (cases_Bool (is_empty_node node)) [
  | inl z ↦ (let no : begins_content true t ≡ false = (or_parts (begins_with 38 t) (begins_content true t) (ends_node k t c e)).1 in
      let none_ : g ≡ [] = lead_none (begins_content true) g t no (subst (λ (l : List ℕ). IsLead true (begins_content true) g l) (bare_text node t z) lead) in
      subst (λ (l : List ℕ). IsLead true (begins_content true) l (node_text node u)) (sym none_)
      (subst (λ (l : List ℕ). IsLead true (begins_content true) [] l) (sym (bare_text node u z))
      (ends_lead (begins_content true) k u c h (λ r. refl) (λ r. refl) (λ r. refl))))
  | inr z ↦ inl (gap_node g d node t u z x keeps (lead_gap (begins_content true) g (node_text node t) (taken_begins true (Some 0) d node t z a x) (some_begins true (Some 0) d node t z x) lead), taken_begins true (Some 0) d node u z a y)
]

mutual
  unfolding node_text IsFlowNode flow_items_text AreFlowItems

  pub node_keeps : (k : ℕ) (node : FlowNode) (d : ℕ) (f : Bool) (t u : List ℕ) → is_close k ≡ true → EndsItem k t → EndsItem k u → KeepsApart f (node_text node []) t u → IsFlowNode true (Some 0) d node t → IsFlowNode true (Some 0) d node u
  node_keeps k empty d f t u c e h keeps x = let p = or_parts (begins_with 38 u) (begins_content true u) (ends_node k u c h) in (p.1, p.0)
  node_keeps k (alias n) d f t u c e h keeps x = name_by n t u (ends_name k u c h) x
  node_keeps k (scalar p) d f t u c e h keeps x = scalar_keeps k f p t u c e h (subst (λ (l : List ℕ). KeepsApart f l t u) (append-nil p) keeps) x
  node_keeps k (coll j g is) zero f t u c e h keeps x = absurd x.2
  node_keeps k (coll j g is) (suc d) f t u c e h keeps x = (x.0, gap_alike (Some true) g (flow_items_text j is t) (flow_items_text j is u) (items_text_alike j is t u x.0) x.1, items_any is d j t u x.0 x.2)
  node_keeps k (anchored n g node) d f t u c e h keeps x =
      let inner : KeepsApart (fresh false g) (node_text node []) t u =
      keeps_append g false (node_text node []) t u
      (subst (λ (l : Bool). KeepsApart l (g ++ node_text node []) t u) (name_fresh false n (g ++ node_text node t) x.0.inside refl)
      (keeps_append n false (g ++ node_text node []) t u keeps.2)) in
      let new = node_keeps k node d (fresh false g) t u c e h inner x.4 in
      (name_after k n g node t u c h x.2 x.0, lead_after k d g node t u c e h inner x.3 x.4 new x.1, x.2, x.3, new)

  -- nothing is asked of what comes after the closing bracket
  pub items_any : (is : Items) (d k : ℕ) (t u : List ℕ) → is_close k ≡ true → AreFlowItems d k is t → AreFlowItems d k is u
  items_any none d k t u c x = tt
  items_any (item key n s is) d k t u c x =
      let more = items_text_alike k is t u c in
      let old : List ℕ = sep_text s (flow_items_text k is t) in
      let new : List ℕ = sep_text s (flow_items_text k is u) in
      let like : Alike (Some true) old new = sep_text_alike s (flow_items_text k is t) (flow_items_text k is u) more in
      let sep = sep_alike k s (flow_items_text k is t) (flow_items_text k is u) more x.3 in
      let e = sep_ends k s (flow_items_text k is t) x.3 in
      let h = sep_ends k s (flow_items_text k is u) sep in
      let node = node_keeps k n d false old new c e h (keeps_alike (Some true) false (node_text n []) old new like) x.2 in
      (key_keeps k d false key n old new c e h (keeps_alike (Some true) false (key_text key (node_text n [])) old new like) x.2 node x.0, x.1, node, sep, items_any is d k t u c x.4)

-- a collection is read alike whatever follows it
pub coll_any : (k : ℕ) (g : List ℕ) (is : Items) (flow : Bool) (spaces : Option ℕ) (d : ℕ) (t u : List ℕ) → IsFlowNode true (Some 0) d (coll k g is) t → IsFlowNode flow spaces d (coll k g is) u
unfolding IsFlowNode
coll_any k g is flow spaces zero t u h = absurd h.2
coll_any k g is flow spaces (suc d) t u h = (h.0, gap_alike (Some true) g (flow_items_text k is t) (flow_items_text k is u) (items_text_alike k is t u h.0) h.1, items_any is d k t u h.0 h.2)
