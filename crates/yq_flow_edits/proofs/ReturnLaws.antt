-- In a text with whole breaks no CR ends an item before an LF.
use Rattle.std.proofs.Common.{◌≡◌, inl, inr, ℕ, Bool, true, false, ◌&&◌, eqb, cond, List, [], ◌∷◌, ◌++◌, Some, refl, sym, ap, ◌∙◌, subst}
use Rattle.std.{proofs.Common.{append_assoc, append-nil, eq-eqb, rules}, proofs.Math.Bool.and-false}
use Rattle.std.proofs.lemmas.Bool.{false≢true, not-false, or_right, and_parts, cases_Bool, or_parts}
use Rattle.yq_core.{specs.Characters.pairs_returns, specs.Text.{NoneIn, unless, front, is_feed, is_return}, proofs.Bools.at_byte}
use Rattle.yq_core.specs.Alike.{EndsItem}
use Rattle.yq_core.specs.Nodes.{Key, bare, keyed, FlowNode, empty, alias, scalar, coll, anchored, Items, none, item, key_text, sep_text}
use Rattle.yq_core.specs.Nodes.{node_text, flow_items_text, opening_bracket, in_name, begins_content, begins_node, is_close, IsInlineKey}
use Rattle.yq_core.{specs.Nodes.{IsLead, is_empty_node, IsFlowNode, begins_with}, specs.Scalars.IsScalarAt}
use Rattle.yq_core.{proofs.EndLaws.{ends_node, stops_here, last_space, by_close}, proofs.KeepLaws.{NotEmpty, some_text, bare_text}}
use Rattle.yq_core.proofs.KeyKeeps.{lead_none}
use Rattle.yq_flow_edits.{specs.Removals.ends_return, proofs.ItemSwaps.item_cut}

return_append : (x : List ℕ) (b : ℕ) (y : List ℕ) → ends_return (x ++ (b ∷ y)) ≡ ends_return (b ∷ y)
return_append (a ∷ c ∷ x) b y = return_append (c ∷ x) b y
return_append _ b y = refl

append_some : (x : List ℕ) (b : ℕ) (y : List ℕ) → NotEmpty (x ++ (b ∷ y))
append_some [] b y = (b, (y, refl))
append_some (a ∷ x) b y = (a, (x ++ (b ∷ y), refl))

-- after a text that isn't empty
pub return_some : (x y : List ℕ) → NotEmpty y → ends_return (x ++ y) ≡ ends_return y
return_some x y s = subst (λ (l : List ℕ). ends_return (x ++ l) ≡ ends_return l) (sym s.1.1) (return_append x s.0 s.1.0)

-- no CR ends this text before an LF of that one
abbrev pub Whole : List ℕ → List ℕ → Type 0
Whole p t = (ends_return p && front is_feed t) ≡ false

-- what doesn't begin with an LF may come after any text
pub whole_front : (p t : List ℕ) → front is_feed t ≡ false → Whole p t
whole_front p t h = ap (λ b. ends_return p && b) h ∙ and-false (ends_return p)

pub whole_by : (p t : List ℕ) → ends_return p ≡ false → Whole p t
whole_by p t h = rw h refl

name_return : (n r : List ℕ) → NoneIn (unless in_name) n r → ends_return n ≡ false
name_return [] r h = refl
name_return (b ∷ []) r h = at_byte in_name b 13 (not-false (in_name b) h.0) refl
name_return (b ∷ c ∷ n) r h = name_return (c ∷ n) r h.1

front_name : (k : ℕ) (n r : List ℕ) → is_return k ≡ false → NoneIn (unless in_name) n r → ends_return (k ∷ n) ≡ false
front_name k n r e h = search (rules, name_return)

plain_return : (k : ℕ) (p t : List ℕ) → is_close k ≡ true → EndsItem k t → NoneIn stops_here p t → Whole p t
plain_return k [] t c e h = refl
plain_return k (b ∷ []) t c e h = search (rules, last_space, or_parts)
plain_return k (b ∷ d ∷ p) t c e h = plain_return k (d ∷ p) t c e h.1

scalar_return : (k : ℕ) (p t : List ℕ) → is_close k ≡ true → EndsItem k t → IsScalarAt true (Some 0) p t → Whole p t
scalar_return k p t h1 h2 h3 = search (rules, plain_return, whole_by, return_append)

-- items end in their closing bracket
items_return : (k : ℕ) (is : Items) → is_close k ≡ true → NotEmpty (flow_items_text k is []) × (ends_return (flow_items_text k is []) ≡ false)
unfolding flow_items_text
items_return k none c = ((k, ([], refl)), by_close (λ b. is_return b ≡ false) k k c (or_right (eqb k 44) (eqb k k) (eq-eqb k k refl)) refl refl refl)
items_return k (item key n s is) c =
    let more = items_return k is c in
    let x : List ℕ = key_text key (node_text n (sep_text s [])) in
    let cut = item_cut key n s (flow_items_text k is []) in
    (subst NotEmpty (sym cut) (subst (λ (l : List ℕ). NotEmpty (x ++ l)) (sym more.0.1.1) (append_some x more.0.0 more.0.1.0)), ap ends_return cut ∙ (return_some x (flow_items_text k is []) more.0 ∙ more.1))

node_return : (k : ℕ) (node : FlowNode) (d : ℕ) (t : List ℕ) → is_close k ≡ true → EndsItem k t → IsFlowNode true (Some 0) d node t → Whole (node_text node []) t
unfolding node_text IsFlowNode
node_return k empty d t c e h = refl
node_return k (alias n) d t c e h = whole_by (42 ∷ (n ++ [])) t (ap (λ (l : List ℕ). ends_return (42 ∷ l)) (append-nil n) ∙ front_name 42 n t refl h.inside)
node_return k (scalar p) d t c e h = subst (λ (l : List ℕ). Whole l t) (sym (append-nil p)) (scalar_return k p t c e h)
node_return k (coll j g is) d t c e h =
    let more = items_return j is h.0 in
    whole_by (opening_bracket j ∷ (g ++ flow_items_text j is [])) t (return_some (opening_bracket j ∷ g) (flow_items_text j is []) more.0 ∙ more.1)
node_return k (anchored n g node) d t c e h = elim (cases_Bool (is_empty_node node)) [
  | inl z ↦ (let no : begins_content true t ≡ false = (or_parts (begins_with 38 t) (begins_content true t) (ends_node k t c e)).1 in
      let nothing : g ≡ [] = lead_none (begins_content true) g t no (subst (λ (l : List ℕ). IsLead true (begins_content true) g l) (bare_text node t z) h.1) in
      whole_by (38 ∷ (n ++ (g ++ node_text node []))) t
      (ap (λ (l : List ℕ). ends_return (38 ∷ (n ++ (l ++ node_text node [])))) nothing
      ∙ (ap (λ (l : List ℕ). ends_return (38 ∷ (n ++ l))) (bare_text node [] z)
      ∙ (ap (λ (l : List ℕ). ends_return (38 ∷ l)) (append-nil n) ∙ front_name 38 n (g ++ node_text node t) refl h.0.inside))))
  | inr z ↦ (let s = some_text d node t z h.4 in
      let same : ends_return (38 ∷ (n ++ (g ++ node_text node []))) ≡ ends_return (node_text node []) =
      ap (λ (l : List ℕ). ends_return (38 ∷ l)) (sym (append_assoc n g (node_text node [])))
      ∙ return_some (38 ∷ (n ++ g)) (node_text node []) s in
      subst (λ (b : Bool). (b && front is_feed t) ≡ false) (sym same) (node_return k node d t c e h.4))
]

pub item_return : (k d : ℕ) (key : Key) (n : FlowNode) (t : List ℕ) → is_close k ≡ true → EndsItem k t → IsInlineKey k key (node_text n t) → IsFlowNode true (Some 0) d n t → Whole (key_text key (node_text n [])) t
item_return k d bare n t c e x h = node_return k n d t c e h
item_return k d (keyed p b g) n t c e x h = elim (cases_Bool (is_empty_node n)) [
  | inl z ↦ (let nothing : g ≡ [] = lead_none (begins_node true) g t (ends_node k t c e) (subst (λ (l : List ℕ). IsLead true (begins_node true) g l) (bare_text n t z) x.4) in
      let text : p ++ (b ++ (58 ∷ (g ++ node_text n []))) ≡ (p ++ b) ++ (58 ∷ []) = ap (λ l. p ++ (b ++ (58 ∷ (l ++ node_text n [])))) nothing ∙ (ap (λ l. p ++ (b ++ (58 ∷ l))) (bare_text n [] z) ∙ sym (append_assoc p b (58 ∷ []))) in
      whole_by (p ++ (b ++ (58 ∷ (g ++ node_text n [])))) t (ap ends_return text ∙ return_append (p ++ b) 58 []))
  | inr z ↦ (let text : p ++ (b ++ (58 ∷ (g ++ node_text n []))) ≡ (p ++ (b ++ (58 ∷ g))) ++ node_text n [] = ap (λ l. p ++ l) (sym (append_assoc b (58 ∷ g) (node_text n []))) ∙ sym (append_assoc p (b ++ (58 ∷ g)) (node_text n [])) in
      let same : ends_return (p ++ (b ++ (58 ∷ (g ++ node_text n [])))) ≡ ends_return (node_text n []) = ap ends_return text ∙ return_some (p ++ (b ++ (58 ∷ g))) (node_text n []) (some_text d n t z h) in
      subst (λ (v : Bool). (v && front is_feed t) ≡ false) (sym same) (node_return k n d t c e h))
]

-- a text in which an LF follows each CR
pub pairs_after : (x t : List ℕ) → pairs_returns (x ++ t) ≡ true → pairs_returns t ≡ true
unfolding pairs_returns
pairs_after [] t h = h
pairs_after (b ∷ x) t h = pairs_after x t (go (is_return b) h) where
  go : (r : Bool) → cond r (front is_feed (x ++ t) && pairs_returns (x ++ t)) (pairs_returns (x ++ t)) ≡ true → pairs_returns (x ++ t) ≡ true
  go r e = search (rules, and_parts)

pub pairs_end : (x t : List ℕ) → pairs_returns (x ++ t) ≡ true → Whole x t → ends_return x ≡ false
unfolding pairs_returns
pairs_end [] t h w = refl
pairs_end (b ∷ []) t h w = go (is_return b) h w where
  go : (r : Bool) → cond r (front is_feed t && pairs_returns t) (pairs_returns t) ≡ true → (r && front is_feed t) ≡ false → r ≡ false
  go r e f = search (rules, false≢true, and_parts)
pairs_end (b ∷ c ∷ x) t h w = pairs_end (c ∷ x) t (pairs_after (b ∷ []) (c ∷ (x ++ t)) h) w
