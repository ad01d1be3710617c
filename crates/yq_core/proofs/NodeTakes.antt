-- What is read is a node.
use Rattle.std.proofs.Common.{◌≡◌, ℕ, zero, suc, Bool, true, false, cond, not, ◌&&◌, ◌||◌, eqb, List, ◌∷◌, ◌++◌, drop, Option, Some, None}
use Rattle.std.{proofs.Common.{refl, ap, ◌∙◌, subst, inl, inr, ◌⊎◌, ⊎_elim, eqb-true, rules}, proofs.lemmas.Bool.and_parts}
use Rattle.std.proofs.lemmas.Option.{cond_some, same_Some}
use Rattle.yq_core.{specs.Text.{unless, is_empty}, proofs.Bools.{bind_some, chosen, guard_then}}
use Rattle.yq_core.specs.Nodes.{begins_with, in_name, opening_bracket, Key, bare, FlowNode, Items, key_text, sep_text, node_text}
use Rattle.yq_core.specs.Nodes.{flow_items_text, begins_content, IsLead, IsName, IsInlineKey, IsSep, is_keyed, is_empty_node, takes_anchor}
use Rattle.yq_core.specs.Nodes.{Deeper, IsFlowNode, AreFlowItems}
use Rattle.yq_core.specs.Reading.{read_gap, read_scalar, name_at, lead_at, read_flow_key, sep_at, Kids, read_collection, read_core}
use Rattle.yq_core.{specs.Reading.{read_node, one_level_less, items_at}, proofs.GapLaws.gap_takes}
use Rattle.yq_core.proofs.NodesPieceLaws.{scalar_takes, name_takes, lead_takes, key_takes, sep_takes, front_is}

abbrev pub Nodal : Bool → Option ℕ → ℕ → List ℕ → FlowNode × List ℕ → Type 0
Nodal flow spaces d t y = (t ≡ node_text y.0 y.1) × IsFlowNode flow spaces d y.0 y.1

abbrev pub Inside : ℕ → ℕ → List ℕ → Items × List ℕ → Type 0
Inside d k t y = (t ≡ flow_items_text k y.0 y.1) × AreFlowItems d k y.0 y.1

abbrev pub KidsTake : Kids → ℕ → Type 0
KidsTake kids d = (k : ℕ) (t : List ℕ) (y : Items × List ℕ) → kids k t ≡ Some y → (t ≡ flow_items_text k y.0 y.1) × Deeper d (λ e. AreFlowItems e k y.0 y.1)

coll_takes : (flow : Bool) (spaces : Option ℕ) (kids : Kids) (d k : ℕ) (t s : List ℕ) (x : FlowNode × List ℕ) → KidsTake kids d → (k ≡ 93) ⊎ (k ≡ 125) → s ≡ opening_bracket k ∷ t → read_collection kids k t ≡ Some x → Nodal flow spaces d s x
unfolding read_collection node_text IsFlowNode
coll_takes flow spaces kids d k t s x take_kids close is h =
    let gap = bind_some (read_gap t) h in
    let items = bind_some (kids k gap.0.1) gap.2 in
    let a = gap_takes t gap.0 gap.1 in
    search (rules, same_Some)

pub content_takes : (flow : Bool) (spaces : Option ℕ) (kids : Kids) (d : ℕ) (t : List ℕ) (x : FlowNode × List ℕ) → KidsTake kids d → begins_with 38 t ≡ false → read_core flow spaces kids t ≡ Some x → Nodal flow spaces d t x
unfolding read_core node_text IsFlowNode
content_takes flow spaces kids d t x take_kids amp h = ⊎_elim {0, 0, 0}
    (λ e. let name = bind_some (name_at (drop 1 t)) e.1 in
    let a = name_takes (drop 1 t) name.0 name.1 in
    subst (Nodal flow spaces d t) (same_Some _ _ name.2) (front_is 42 t e.0 ∙ ap (λ l. 42 ∷ l) a.0, a.1))
    (λ e. ⊎_elim {0, 0, 0}
    (λ f. coll_takes flow spaces kids d 93 (drop 1 t) t x take_kids (inl refl) (front_is 91 t f.0) f.1)
    (λ f. ⊎_elim {0, 0, 0}
    (λ g. coll_takes flow spaces kids d 125 (drop 1 t) t x take_kids (inr refl) (front_is 123 t g.0) g.1)
    (λ g. ⊎_elim {0, 0, 0}
    (λ s. let piece = bind_some (read_scalar flow spaces t) s.1 in
    let a = scalar_takes flow spaces t piece.0 piece.1 in
    subst (Nodal flow spaces d t) (same_Some _ _ piece.2) a)
    (λ s. subst (Nodal flow spaces d t) (same_Some _ _ s.1) (refl, (s.0, amp)))
    (chosen (begins_content flow t) g.1))
    (chosen (begins_with 123 t) f.1))
    (chosen (begins_with 91 t) e.1))
    (chosen (begins_with 42 t) h)

pub lead_amp : (flow : Bool) (t g r : List ℕ) → unless in_name t ≡ true → t ≡ g ++ r → IsLead flow (begins_content flow) g r → begins_with 38 r ≡ false
lead_amp flow t g r ends is e = search rules

pub node_takes : (flow : Bool) (spaces : Option ℕ) (kids : Kids) (d : ℕ) (t : List ℕ) (x : FlowNode × List ℕ) → KidsTake kids d → read_node flow spaces kids t ≡ Some x → Nodal flow spaces d t x
unfolding read_node node_text IsFlowNode
node_takes flow spaces kids d t x take_kids h = ⊎_elim {0, 0, 0}
    (λ e.
    let name = bind_some (name_at (drop 1 t)) e.1 in
    let gap = bind_some (lead_at flow (begins_content flow) name.0.1) name.2 in
    let node = bind_some (read_core flow spaces kids gap.0.1) gap.2 in
    let tests = cond_some ((is_empty_node node.0.0 || not (is_empty gap.0.0)) && takes_anchor node.0.0) _ _ node.2 in
    let both = and_parts (is_empty_node node.0.0 || not (is_empty gap.0.0)) (takes_anchor node.0.0) tests.0 in
    let a = name_takes (drop 1 t) name.0 name.1 in
    let b = lead_takes flow (begins_content flow) name.0.1 gap.0 gap.1 in
    let c = content_takes flow spaces kids d gap.0.1 node.0 take_kids (lead_amp flow name.0.1 gap.0.0 gap.0.1 a.1.ends b.0 b.1) node.1 in
    let after : name.0.1 ≡ gap.0.0 ++ node_text node.0.0 node.0.1 = b.0 ∙ ap (λ l. gap.0.0 ++ l) c.0 in
    subst (Nodal flow spaces d t) tests.1 (
      front_is 38 t e.0 ∙ ap (λ l. 38 ∷ l) (a.0 ∙ ap (λ l. name.0.0 ++ l) after),
      (subst (IsName name.0.0) after a.1, subst (IsLead flow (begins_content flow) gap.0.0) c.0 b.1, both.0, both.1, c.1),
    ))
    (λ e. content_takes flow spaces kids d t x take_kids e.0 e.1)
    (chosen (begins_with 38 t) h)

-- a key, or none
abbrev pub key_in : ℕ → List ℕ → Option (Key × List ℕ)
key_in k t = cond (eqb k 125) (read_flow_key t) (Some (bare, t))

pub key_in_takes : (k : ℕ) (t : List ℕ) (x : Key × List ℕ) → key_in k t ≡ Some x → (t ≡ key_text x.0 x.1) × IsInlineKey k x.0 x.1
key_in_takes k t x h = ⊎_elim {0, 0, 0}
    (λ e. let same : k ≡ 125 = eqb-true k 125 e.0 in rw same (key_takes t x e.1))
    (λ e. subst (λ (y : Key × List ℕ). (t ≡ key_text y.0 y.1) × IsInlineKey k y.0 y.1) (same_Some _ _ e.1) (refl, e.0))
    (chosen (eqb k 125) h)

pub kids_take : (n d : ℕ) → ((e k : ℕ) (t : List ℕ) (y : Items × List ℕ) → items_at n e k t ≡ Some y → Inside e k t y) → KidsTake (λ j r. one_level_less d (λ e. items_at n e j r)) d
kids_take n zero ih k t y h = cc
kids_take n (suc d) ih k t y h = ih d k t y h

pub items_takes : (n d k : ℕ) (t : List ℕ) (x : Items × List ℕ) → items_at n d k t ≡ Some x → Inside d k t x
unfolding items_at flow_items_text AreFlowItems
items_takes zero d k t x h = cc
items_takes (suc n) d k t x h = ⊎_elim {0, 0, 0}
    (λ e. subst (Inside d k t) (same_Some _ _ e.1) (front_is k t e.0, tt))
    (λ e.
    let kids : Kids = λ j r. one_level_less d (λ e. items_at n e j r) in
    let key = bind_some (key_in k t) e.1 in
    let node = bind_some (read_node true (Some 0) kids key.0.1) key.2 in
    let sep = bind_some (cond (is_keyed key.0.0 || not (is_empty_node node.0.0)) (sep_at k node.0.1) None) node.2 in
    let rest = bind_some (items_at n d k sep.0.1) sep.2 in
    let some = guard_then (is_keyed key.0.0 || not (is_empty_node node.0.0)) sep.1 in
    let a = key_in_takes k t key.0 key.1 in
    let b = node_takes true (Some 0) kids d key.0.1 node.0 (kids_take n d (items_takes n)) node.1 in
    let c = sep_takes k node.0.1 sep.0 some.1 in
    let r = items_takes n d k sep.0.1 rest.0 rest.1 in
    let after : node.0.1 ≡ sep_text sep.0.0 (flow_items_text k rest.0.0 rest.0.1) = c.0 ∙ ap (sep_text sep.0.0) r.0 in
    let inner : key.0.1 ≡ node_text node.0.0 (sep_text sep.0.0 (flow_items_text k rest.0.0 rest.0.1)) = b.0 ∙ ap (node_text node.0.0) after in
    subst (Inside d k t) (same_Some _ _ rest.2) (
      a.0 ∙ ap (key_text key.0.0) inner,
      (subst (IsInlineKey k key.0.0) inner a.1, some.0, subst (IsFlowNode true (Some 0) d node.0.0) after b.1, subst (IsSep k sep.0.0) r.0 c.1, r.1),
    ))
    (chosen (begins_with k t) h)
