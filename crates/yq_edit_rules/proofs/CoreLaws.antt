-- Another inline node after the anchor of what is written after a mark.
use Rattle.std.proofs.Common.{◌≡◌, inl, inr, ℕ, ◌||◌, not, List, [], ◌∷◌, ◌++◌, Option, None, Bool, true, false, refl, sym, ap, ◌∙◌, rules}
use Rattle.std.proofs.lemmas.Bool.{cond_both, false≢true, or_right}
use Rattle.yq_core.specs.Text.{is_empty, no_white, unless}
use Rattle.yq_core.specs.Nodes.{FlowNode, empty, alias, scalar, coll, anchored, node_text, flow_items_text, opening_bracket, begins_with}
use Rattle.yq_core.specs.Nodes.{in_name, begins_content, takes_anchor, is_empty_node, IsName, IsLead, IsFlowNode}
use Rattle.yq_core.{specs.Trees.{node_anchor, node_head}, proofs.NodesPieceLaws.scalar_begins, proofs.AlikePieces.none_unless}
use Rattle.yq_row_table.{specs.Grammar.is_more, specs.Rows.{Content, Nothing, Inline, Block}, proofs.Fronts.node_starts}
use Rattle.yq_row_table.proofs.EmptyTexts.{none_is}
use Rattle.yq_documents.specs.Documents.{HasFitKeys}
use Rattle.yq_places.specs.RowPaths.{space_after_anchor}

-- a node in the place of another one, after its anchor
abbrev pub recore : FlowNode → FlowNode → FlowNode
recore core empty = core
recore core (alias n) = core
recore core (scalar p) = core
recore core (coll k g is) = core
recore core (anchored n g node) = anchored n (space_after_anchor g node) (recore core node)

-- a content with another node in the place of its own, after its anchor, or after a space where nothing is written
abbrev pub put_core : FlowNode → Content → Content
put_core core (Nothing tail) = Inline (32 ∷ []) core tail
put_core core (Inline space node tail) = Inline space (recore core node) tail
put_core core (Block space anchor block) = Block space anchor block

-- ---- what it spells

pub core_head : (core node : FlowNode) → node_head (recore core node) ≡ node_head core
core_head core (anchored n g node) = core_head core node
core_head core _ = refl

pub core_anchor : (core node : FlowNode) → node_anchor core ≡ None → node_anchor (recore core node) ≡ node_anchor node
core_anchor core node h1 = search rules

pub core_keys : (core node : FlowNode) → HasFitKeys core → HasFitKeys (recore core node)
core_keys core (anchored n g node) h = core_keys core node h
core_keys core _ h = h

pub core_bare : (core node : FlowNode) → is_empty_node core ≡ false → is_empty_node (recore core node) ≡ false
core_bare core (anchored n g node) h = refl
core_bare core _ h = h

pub core_more : (core node : FlowNode) → is_more core ≡ true → is_empty_node core ≡ false → is_more (recore core node) ≡ true
core_more core (anchored n g node) h b = ap not (core_bare core node b)
core_more core _ h b = h

-- ---- it is a node

begins : (spaces : Option ℕ) (d : ℕ) (core : FlowNode) (rest : List ℕ) → node_anchor core ≡ None → is_empty_node core ≡ false → IsFlowNode false spaces d core rest → begins_content false (node_text core rest) ≡ true
unfolding IsFlowNode node_text
begins spaces d core rest h1 h2 h3 = search (rules, false≢true, or_right, scalar_begins, cond_both)

name_space : (n t u : List ℕ) → IsName n t → IsName n (32 ∷ u)
name_space n t u h = record { some = h.some; inside = none_unless in_name n t (32 ∷ u) h.inside; ends = refl }

front_again : (q : ℕ → Bool) (g t u : List ℕ) → is_empty g ≡ false → unless q (g ++ t) ≡ true → unless q (g ++ u) ≡ true
front_again q g t u some h = search rules

name_again : (n g t u : List ℕ) → is_empty g ≡ false → IsName n (g ++ t) → IsName n (g ++ u)
name_again n g t u some h = record { some = h.some; inside = none_unless in_name n (g ++ t) (g ++ u) h.inside; ends = front_again in_name g t u some h.ends }

module _ (spaces : Option ℕ) (d : ℕ) (core : FlowNode) (rest : List ℕ) (unnamed : node_anchor core ≡ None) (some : is_empty_node core ≡ false) (takes : takes_anchor core ≡ true) (is_located : IsFlowNode false spaces d core rest) where
  starts : no_white (node_text core rest) ≡ true
  starts = (node_starts (node_text core rest) (or_right (begins_with 38 (node_text core rest)) (begins_content false (node_text core rest)) (begins spaces d core rest unnamed some is_located))).no_white

  lead_again : (g t : List ℕ) → is_empty g ≡ false → IsLead false (begins_content false) g t → IsLead false (begins_content false) g (node_text core rest)
  lead_again g t gap (inl h) = inl ((none_unless _ g t (node_text core rest) h.0.0, starts), begins spaces d core rest unnamed some is_located)
  lead_again g t gap (inr h) = absurd (none_is g gap h.0)

  -- after an anchor
  pub anchored_node : (n g : List ℕ) (old : FlowNode) (t : List ℕ) → is_empty_node old ≡ false → IsName n (g ++ t) →
      IsLead false (begins_content false) g t → (is_empty_node old || not (is_empty g)) ≡ true → IsFlowNode false spaces d (anchored n g core) rest
  unfolding IsFlowNode node_text
  anchored_node n g old t full name lead apart_is =
      search (rules, name_again, lead_again, or_right)

pub core_node : (spaces : Option ℕ) (d : ℕ) (core : FlowNode) (rest : List ℕ) → node_anchor core ≡ None → is_empty_node core ≡ false → takes_anchor core ≡ true → IsFlowNode false spaces d core rest →
    (node : FlowNode) → IsFlowNode false spaces d node rest → IsFlowNode false spaces d (recore core node) rest
unfolding IsFlowNode node_text
core_node spaces d core rest u b a s (anchored n g empty) h =
    (name_space n (g ++ rest) (node_text core rest) h.0, inl (((refl, tt), starts spaces d core rest u b a s), begins spaces d core rest u b s), or_right (is_empty_node core) true refl, a, s)
core_node spaces d core rest u b a s (anchored n g (alias m)) h = absurd (false≢true h.3)
core_node spaces d core rest u b a s (anchored n g (scalar p)) h = anchored_node spaces d core rest u b a s n g (scalar p) (p ++ rest) refl h.0 h.1 h.2
core_node spaces d core rest u b a s (anchored n g (coll k x is)) h = anchored_node spaces d core rest u b a s n g (coll k x is) (opening_bracket k ∷ (x ++ flow_items_text k is rest)) refl h.0 h.1 h.2
core_node spaces d core rest u b a s (anchored n g (anchored m x node)) h = absurd (false≢true h.3)
core_node spaces d core rest u b a s _ h = s

-- ---- no white space before nothing

pub empty_gap : (g rest : List ℕ) → IsLead false (begins_content false) g rest → begins_content false rest ≡ false → g ≡ []
empty_gap g rest (inl h) none = absurd (false≢true (sym none ∙ h.1))
empty_gap g rest (inr h) none = h.0
