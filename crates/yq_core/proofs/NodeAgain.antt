-- A node is read again.
use Rattle.std.proofs.Common.{◌≡◌, ℕ, zero, suc, ◌≤◌, ◌<◌, Bool, true, false, cond, not, ◌||◌, eqb, List, ◌∷◌, ◌++◌, length, Option, Some}
use Rattle.std.proofs.Common.{None, refl, sym, ap, ◌∙◌, ⊎_elim, arith, length-append, eqb-true, eq-eqb, rules}
use Rattle.std.proofs.lemmas.Bool.{false≢true, cond_both, not-true, or_cases}
use Rattle.yq_core.{specs.Text.is_empty, specs.Answers.◌>>=◌, specs.Gaps.IsInlineGap, specs.Scalars.{IsScalarAt, begins_scalar}}
use Rattle.yq_core.specs.Nodes.{begins_with, Key, Sep, FlowNode, empty, alias, scalar, coll, anchored, Items, none, item, key_text}
use Rattle.yq_core.specs.Nodes.{sep_text, node_text, flow_items_text, begins_content, IsLead, IsName, IsInlineKey, is_keyed, is_empty_node}
use Rattle.yq_core.specs.Nodes.{takes_anchor, IsFlowNode, AreFlowItems, is_close, opening_bracket}
use Rattle.yq_core.{specs.Reading.{sep_at, Kids, read_collection, read_core, read_node, one_level_less, items_at}, proofs.GapLaws.gap_again}
use Rattle.yq_core.proofs.NodesPieceLaws.{scalar_begins, scalar_again, name_again, lead_again, key_again, sep_again, front_not, scalar_some}
use Rattle.yq_core.proofs.NodeTakes.{key_in}

-- what no scalar begins with
letter_front : (flow : Bool) (k : ℕ) (t : List ℕ) → ((bs : List ℕ) → begins_scalar flow (k ∷ bs) ≡ false) → begins_scalar flow t ≡ true → begins_with k t ≡ false
letter_front flow k t never h = front_not (begins_scalar flow) k never t h

begins_parts : (flow : Bool) (t : List ℕ) → begins_content flow t ≡ false → (begins_with 42 t ≡ false) × (begins_with 91 t ≡ false) × (begins_with 123 t ≡ false) × (begins_scalar flow t ≡ false)
begins_parts flow t h = go (begins_with 42 t) (begins_with 91 t) (begins_with 123 t) _ h where
  go : (a b c d : Bool) → (a || (b || (c || d))) ≡ false → (a ≡ false) × (b ≡ false) × (c ≡ false) × (d ≡ false)
  go true b c d h = cc
  go false true c d h = cc
  go false false true d h = cc
  go false false false true h = cc
  go false false false false h = (refl, refl, refl, refl)

empty_content : (flow : Bool) (spaces : Option ℕ) (kids : Kids) (rest : List ℕ) → begins_content flow rest ≡ false → read_core flow spaces kids rest ≡ Some (empty, rest)
unfolding read_core
empty_content flow spaces kids rest h = let p = begins_parts flow rest h in rw (p.0, p.1, p.2, p.3) refl

alias_content : (flow : Bool) (spaces : Option ℕ) (kids : Kids) (n rest : List ℕ) → IsName n rest → read_core flow spaces kids (42 ∷ (n ++ rest)) ≡ Some (alias n, rest)
unfolding read_core
alias_content flow spaces kids n rest h = rw (name_again n rest h) refl

scalar_content : (flow : Bool) (spaces : Option ℕ) (kids : Kids) (p rest : List ℕ) → IsScalarAt flow spaces p rest → read_core flow spaces kids (p ++ rest) ≡ Some (scalar p, rest)
unfolding read_core
scalar_content flow spaces kids p rest h = search (rules, scalar_begins, letter_front, scalar_again)

coll_content : (flow : Bool) (spaces : Option ℕ) (kids : Kids) (k : ℕ) (g : List ℕ) (is : Items) (rest : List ℕ) → is_close k ≡ true → IsInlineGap g (flow_items_text k is rest) → kids k (flow_items_text k is rest) ≡ Some (is, rest) →
    read_core flow spaces kids (opening_bracket k ∷ (g ++ flow_items_text k is rest)) ≡ Some (coll k g is, rest)
unfolding read_core read_collection
coll_content flow spaces kids k g is rest close gap h = search (rules, ⊎_elim, eqb-true, gap_again, or_cases)

node_of_content : (flow : Bool) (spaces : Option ℕ) (kids : Kids) (t : List ℕ) (x : FlowNode × List ℕ) → begins_with 38 t ≡ false → read_core flow spaces kids t ≡ Some x → read_node flow spaces kids t ≡ Some x
unfolding read_node
node_of_content flow spaces kids t x e h = rw e h

anchored_node : (flow : Bool) (spaces : Option ℕ) (kids : Kids) (n g : List ℕ) (node : FlowNode) (rest : List ℕ) →
    IsName n (g ++ node_text node rest) → IsLead flow (begins_content flow) g (node_text node rest) →
    (is_empty_node node || not (is_empty g)) ≡ true → takes_anchor node ≡ true →
    read_core flow spaces kids (node_text node rest) ≡ Some (node, rest) → read_node flow spaces kids (38 ∷ (n ++ (g ++ node_text node rest))) ≡ Some (anchored n g node, rest)
unfolding read_node
anchored_node flow spaces kids n g node rest name lead apart takes h = search (rules, name_again, lead_again)

-- what follows is shorter
pub sep_longer : (s : Sep) (rest : List ℕ) → length rest ≤ length (sep_text s rest)
sep_longer s rest = search (rules, length-append)

pub key_longer : (key : Key) (rest : List ℕ) → length rest ≤ length (key_text key rest)
key_longer key rest = search (rules, length-append)

mutual
  unfolding node_text flow_items_text

  pub node_longer : (node : FlowNode) (rest : List ℕ) → length rest ≤ length (node_text node rest)
  node_longer empty rest = omega arith
  node_longer (alias n) rest = omega (arith, length-append n rest)
  node_longer (scalar p) rest = omega (arith, length-append p rest)
  node_longer (coll k g is) rest = omega (arith, length-append g (flow_items_text k is rest), items_longer k is rest)
  node_longer (anchored n g node) rest = omega (arith, length-append n (g ++ node_text node rest), length-append g (node_text node rest), node_longer node rest)

  pub items_longer : (k : ℕ) (is : Items) (rest : List ℕ) → length rest < length (flow_items_text k is rest)
  items_longer k none rest = omega arith
  items_longer k (item key n s is) rest =
      omega (arith, items_longer k is rest, sep_longer s (flow_items_text k is rest), node_longer n (sep_text s (flow_items_text k is rest)), key_longer key (node_text n (sep_text s (flow_items_text k is rest))))

pub item_longer : (flow : Bool) (spaces : Option ℕ) (d : ℕ) (key : Key) (node : FlowNode) (rest : List ℕ) →
    (is_keyed key || not (is_empty_node node)) ≡ true → IsFlowNode flow spaces d node rest → length rest < length (key_text key (node_text node rest))
unfolding node_text IsFlowNode
item_longer flow spaces d key node rest e h = search (rules, false≢true, length-append, node_longer, key_longer, scalar_some, items_longer, not-true, or_cases)

-- what an item doesn't begin with
close_letter : (k : ℕ) → is_close k ≡ true → ((flow : Bool) (bs : List ℕ) → begins_scalar flow (k ∷ bs) ≡ false) × (eqb k 44 ≡ false) × (eqb 42 k ≡ false) × (eqb 38 k ≡ false) × (eqb 91 k ≡ false) × (eqb 123 k ≡ false)
close_letter k h = search rules

open_close : (j k : ℕ) → is_close k ≡ true → eqb (opening_bracket j) k ≡ false
open_close j k h = let c = close_letter k h in cond_both (eqb j 125) 123 91 (λ x. eqb x k ≡ false) (λ _. c.5) (λ _. c.4)

pub item_front : (flow : Bool) (spaces : Option ℕ) (d k : ℕ) (key : Key) (node : FlowNode) (rest : List ℕ) → is_close k ≡ true →
    (is_keyed key || not (is_empty_node node)) ≡ true → IsInlineKey k key (node_text node rest) → IsFlowNode flow spaces d node rest →
    begins_with k (key_text key (node_text node rest)) ≡ false
unfolding node_text IsFlowNode
item_front flow spaces d k key node rest c e a h = search (rules, false≢true, close_letter, letter_front, scalar_begins, open_close, not-true)

pub key_in_again : (k : ℕ) (key : Key) (rest : List ℕ) → IsInlineKey k key rest → key_in k (key_text key rest) ≡ Some (key, rest)
key_in_again k key rest h = search (rules, key_again)

-- how many steps are allowed makes no difference, if there are enough
abbrev pub kids_by : ℕ → ℕ → Kids
kids_by n d j r = one_level_less d (λ e. items_at n e j r)

abbrev pub is_anchored : FlowNode → Bool
is_anchored empty = false
is_anchored (alias n) = false
is_anchored (scalar p) = false
is_anchored (coll k g is) = false
is_anchored (anchored n g node) = true

pub takes_unanchored : (node : FlowNode) → takes_anchor node ≡ true → is_anchored node ≡ false
takes_unanchored node h1 = search (rules, false≢true)

mutual
  unfolding node_text IsFlowNode flow_items_text AreFlowItems items_at

  pub content_again : (flow : Bool) (spaces : Option ℕ) (node : FlowNode) (n d : ℕ) (rest : List ℕ) → is_anchored node ≡ false →
      IsFlowNode flow spaces d node rest → length (node_text node rest) ≤ n →
      read_core flow spaces (kids_by n d) (node_text node rest) ≡ Some (node, rest)
  content_again flow spaces empty n d rest e h short = empty_content flow spaces (kids_by n d) rest h.0
  content_again flow spaces (alias a) n d rest e h short = alias_content flow spaces (kids_by n d) a rest h
  content_again flow spaces (scalar p) n d rest e h short = scalar_content flow spaces (kids_by n d) p rest h
  content_again flow spaces (coll k g is) n zero rest e h short = absurd h.2
  content_again flow spaces (coll k g is) n (suc d) rest e h short =
      coll_content flow spaces (kids_by n (suc d)) k g is rest h.0 h.1 (items_again is n d k rest h.0 h.2 (omega (arith, length-append g (flow_items_text k is rest))))
  content_again flow spaces (anchored a g node) n d rest e h short = absurd (false≢true (sym e))

  pub node_again : (flow : Bool) (spaces : Option ℕ) (node : FlowNode) (n d : ℕ) (rest : List ℕ) → IsFlowNode flow spaces d node rest →
      length (node_text node rest) ≤ n → read_node flow spaces (kids_by n d) (node_text node rest) ≡ Some (node, rest)
  node_again flow spaces empty n d rest h short = node_of_content flow spaces (kids_by n d) rest (empty, rest) h.1 (empty_content flow spaces (kids_by n d) rest h.0)
  node_again flow spaces (alias a) n d rest h short = node_of_content flow spaces (kids_by n d) (42 ∷ (a ++ rest)) (alias a, rest) refl (alias_content flow spaces (kids_by n d) a rest h)
  node_again flow spaces (scalar p) n d rest h short =
      node_of_content flow spaces (kids_by n d) (p ++ rest) (scalar p, rest)
      (letter_front flow 38 (p ++ rest) (λ bs. refl) (scalar_begins flow spaces p rest h)) (scalar_content flow spaces (kids_by n d) p rest h)
  node_again flow spaces (coll k g is) n zero rest h short = absurd h.2
  node_again flow spaces (coll k g is) n (suc d) rest h short =
      node_of_content flow spaces (kids_by n (suc d)) (opening_bracket k ∷ (g ++ flow_items_text k is rest)) (coll k g is, rest) (cond_both (eqb k 125) 123 91 (λ x. eqb x 38 ≡ false) (λ _. refl) (λ _. refl))
      (coll_content flow spaces (kids_by n (suc d)) k g is rest h.0 h.1 (items_again is n d k rest h.0 h.2 (omega (arith, length-append g (flow_items_text k is rest)))))
  node_again flow spaces (anchored a g node) n d rest h short =
      anchored_node flow spaces (kids_by n d) a g node rest h.0 h.1 h.2 h.3
      (content_again flow spaces node n d rest (takes_unanchored node h.3) h.4
      (omega (arith, length-append a (g ++ node_text node rest), length-append g (node_text node rest))))

  pub items_again : (is : Items) (n d k : ℕ) (rest : List ℕ) → is_close k ≡ true → AreFlowItems d k is rest → length (flow_items_text k is rest) < n → items_at n d k (flow_items_text k is rest) ≡ Some (is, rest)
  items_again is zero d k rest c h short = absurd (omega arith)
  items_again none (suc n) d k rest c h short = rw (eq-eqb k k refl) refl
  items_again (item key node s is) (suc n) d k rest c h short =
      let tail : List ℕ = flow_items_text k is rest in
      let after : List ℕ = sep_text s tail in
      let inner : List ℕ = node_text node after in
      let longer = item_longer true (Some 0) d key node after h.1 h.2 in
      let tail_short = sep_longer s tail in
      let inner_short = key_longer key inner in
      rw (item_front true (Some 0) d k key node after c h.1 h.0 h.2)
      (ap (λ o. o >>= λ key. read_node true (Some 0) (kids_by n d) key.1 >>= λ node. cond (is_keyed key.0 || not (is_empty_node node.0))
      (sep_at k node.1) None >>= λ sep. items_at n d k sep.1 >>= λ rest. Some (item key.0 node.0 sep.0 rest.0, rest.1))
      (key_in_again k key inner h.0)
      ∙ rw (node_again true (Some 0) node n d after h.2 (omega arith)) (rw h.1 (rw (sep_again k s tail (close_letter k c).1 h.3) (rw (items_again is n d k rest c h.4 (omega arith)) refl))))
