-- What is in front of an inline node and of a block scalar.
use Rattle.std.proofs.Common.{◌≡◌, ℕ, Bool, true, false, not, ◌||◌, eqb, List, [], ◌∷◌, ◌++◌, drop, Option, refl, ap, rules}
use Rattle.std.proofs.lemmas.Bool.{false≢true, cond_both, or_right}
use Rattle.yq_core.{specs.Block.{style_indicator, BlockText, block_text}, specs.declared.block_header.BlockStyle.BlockStyle}
use Rattle.yq_core.{specs.Text.{upto, unless, front, is_empty, no_white, no_space, past_white, NoneIn, joined}, proofs.Upto.cut-append}
use Rattle.yq_core.specs.Nodes.{FlowNode, empty, alias, scalar, coll, anchored, node_text, flow_items_text, begins_with, in_name}
use Rattle.yq_core.{specs.Nodes.{begins_content, begins_node, IsLead, IsName, is_empty_node, IsFlowNode}, specs.Scalars.begins_scalar}
use Rattle.yq_core.{proofs.NodesPieceLaws.{front_not, scalar_begins}, proofs.KeepLaws.bare_text}
use Rattle.yq_row_table.{specs.Reading.{is_dash, begins_block}, proofs.MarkAgain.scalar_node}

-- the mark of a block scalar
abbrev pub is_block_mark : ℕ → Bool
is_block_mark b = eqb b 124 || eqb b 62

-- a node begins as one
pub node_begins : (spaces : Option ℕ) (k : ℕ) (node : FlowNode) (rest : List ℕ) → IsFlowNode false spaces k node rest → not (is_empty_node node) ≡ true → begins_node false (node_text node rest) ≡ true
unfolding node_text IsFlowNode
node_begins spaces k node rest h1 h2 = search (rules, false≢true, scalar_node, scalar_begins, cond_both)

-- nothing is before a rest what nothing may be before
pub bare_node : (spaces : Option ℕ) (k : ℕ) (node : FlowNode) (rest : List ℕ) → IsFlowNode false spaces k node rest → begins_node false (node_text node rest) ≡ true → not (is_empty_node node) ≡ true
unfolding node_text IsFlowNode
bare_node spaces k node rest h1 h2 = search (rules, false≢true)

-- a test of the byte in front
front_first : (t : List ℕ) → begins_with 124 t ≡ false → begins_with 62 t ≡ false → front is_block_mark t ≡ false
front_first t a b = search rules

content_no_mark : (t : List ℕ) → begins_content false t ≡ true → front is_block_mark t ≡ false
content_no_mark t h = front_first t (front_not (begins_content false) 124 (λ cs. refl) t h) (front_not (begins_content false) 62 (λ cs. refl) t h)

scalar_content : (t : List ℕ) → begins_scalar false t ≡ true → begins_content false t ≡ true
scalar_content t h = or_right (begins_with 42 t) _ (or_right (begins_with 91 t) _ (or_right (begins_with 123 t) (begins_scalar false t) h))

pub no_block_here : (t : List ℕ) → begins_with 38 t ≡ false → front is_block_mark t ≡ false → begins_block t ≡ false
no_block_here t a h = rw a h

past_is : (w t : List ℕ) → NoneIn no_white w t → no_white t ≡ true → past_white (w ++ t) ≡ t
past_is w t inside ends = ap (λ (y : List ℕ × List ℕ). y.1) (cut-append no_white w t inside ends)

pub name_cut : (n t : List ℕ) → IsName n t → drop (upto (unless in_name) (n ++ t)) (n ++ t) ≡ t
name_cut n t h = ap (λ (y : List ℕ × List ℕ). y.1) (cut-append (unless in_name) n t h.inside h.ends)

pub bare_or : (node : FlowNode) (g : List ℕ) → (is_empty_node node || not (is_empty g)) ≡ true → g ≡ [] → is_empty_node node ≡ true
bare_or node g h1 h2 = search rules

anchored_no_mark : (g : List ℕ) (node : FlowNode) (rest : List ℕ) → IsLead false (begins_content false) g (node_text node rest) →
    (is_empty_node node || not (is_empty g)) ≡ true → front is_block_mark (past_white rest) ≡ false →
    front is_block_mark (past_white (g ++ node_text node rest)) ≡ false
anchored_no_mark g node rest h some c = search (rules, past_is, content_no_mark, bare_text, bare_or)

-- a node is no block scalar
pub node_no_block : (spaces : Option ℕ) (k : ℕ) (node : FlowNode) (rest : List ℕ) → IsFlowNode false spaces k node rest →
    not (is_empty_node node) ≡ true → front is_block_mark (past_white rest) ≡ false → begins_block (node_text node rest) ≡ false
unfolding node_text IsFlowNode
node_no_block spaces k empty rest h some c = absurd (false≢true some)
node_no_block spaces k (alias n) rest h some c = refl
node_no_block spaces k (scalar p) rest h some c =
    let begins = scalar_begins false spaces p rest h in
    no_block_here (p ++ rest) (front_not (begins_scalar false) 38 (λ cs. refl) (p ++ rest) begins) (content_no_mark (p ++ rest) (scalar_content (p ++ rest) begins))
node_no_block spaces k (coll close gap items) rest h some c = cond_both (eqb close 125) 123 91 (λ (b : ℕ). (t : List ℕ) → begins_block (b ∷ t) ≡ false) (λ _ t. refl) (λ _ t. refl) (gap ++ flow_items_text close items rest)
node_no_block spaces k (anchored n g node) rest h some c = rw (name_cut n (g ++ node_text node rest) h.0) (anchored_no_mark g node rest h.1 h.2 c)

-- a block scalar begins as one
pub record BlockFront (t : List ℕ) : Type 0 where
  pub no_white : no_white t ≡ true
  pub no_anchor : begins_with 38 t ≡ false
  pub mark : front is_block_mark t ≡ true
  pub no_space : no_space t ≡ true
  pub no_dash : is_dash t ≡ false
  pub no_scalar : begins_scalar false t ≡ false

mark_front : (style : BlockStyle) (t : List ℕ) → BlockFront (style_indicator style ∷ t)
mark_front style t = search rules

pub block_front : (b : BlockText) (rest : List ℕ) → BlockFront (block_text b rest)
block_front b rest = mark_front b.style (b.indicators ++ (b.tail ++ (joined b.raw ++ rest)))
