-- A head that begins with `*` is an alias by the rest of it.
use Rattle.std.proofs.Common.{◌≡◌, ℕ, ℤ, suc, ◌+◌, ◌-◌, true, false, List, [], ◌∷◌, ◌++◌, length, drop, Some, None, refl, sym, ap, ◌∙◌}
use Rattle.std.{proofs.Common.{subst, append-nil, arith, length-append}, proofs.lemmas.Bool.false≢true}
use Rattle.yq_core.{specs.Piece.deeper, specs.Inline.depth_limit, specs.Places.{name, placed, locate}, specs.Trees.tree_of}
use Rattle.yq_core.specs.Nodes.{FlowNode, empty, alias, scalar, coll, anchored, node_text, flow_items_text, IsFlowNode, begins_with}
use Rattle.yq_core.{specs.Nodes.takes_anchor, proofs.NodeAgain.{is_anchored, takes_unanchored}}
use Rattle.yq_row_table.{specs.Grammar.IsContent, specs.Rows.{Content, Nothing, Inline, Block}, specs.View.{anchor_cut, content_cut}}
use Rattle.yq_outline.specs.Lines.{head_of, tail_of}
use Rattle.yq_documents.{specs.Decoded.alias_from, specs.FlowReading.{alias_or_collection, content_core}, specs.Reading.content_is_fit}
use Rattle.yq_documents.proofs.HeadLaws.{head_text}
use Rattle.yq_compose.proofs.AnchorRows.{block_star, opens, scalar_star}
use Rattle.yq_core.specs.Tree as tree

-- which node it is
unnamed_alias : (n : ℤ) (node : FlowNode) (rest : List ℕ) → is_anchored node ≡ false → IsFlowNode false (Some (deeper n)) depth_limit node rest → begins_with 42 (node_text node []) ≡ true → (m : List ℕ) × (node ≡ alias m)
unfolding node_text IsFlowNode
unnamed_alias n empty rest a h e = absurd (false≢true e)
unnamed_alias n (alias m) rest a h e = (m, refl)
unnamed_alias n (scalar p) rest a h e = absurd (false≢true (sym (ap (begins_with 42) (append-nil p) ∙ scalar_star n p rest h) ∙ e))
unnamed_alias n (coll k g is) rest a h e = absurd (false≢true (sym (opens k (g ++ flow_items_text k is [])) ∙ e))
unnamed_alias n (anchored m g node) rest a h e = absurd (false≢true (sym a))

node_alias : (n : ℤ) (node : FlowNode) (rest : List ℕ) → IsFlowNode false (Some (deeper n)) depth_limit node rest → begins_with 42 (anchor_cut node).2 ≡ true → (m : List ℕ) × (node ≡ alias m)
unfolding IsFlowNode
node_alias n empty rest h e = absurd (false≢true e)
node_alias n (alias m) rest h e = (m, refl)
node_alias n (scalar p) rest h e = unnamed_alias n (scalar p) rest refl h e
node_alias n (coll k g is) rest h e = unnamed_alias n (coll k g is) rest refl h e
node_alias n (anchored m g node) rest h e =
    let is = unnamed_alias n node rest (takes_unanchored node h.3) h.4 e in
    absurd (false≢true (sym (ap takes_anchor is.1) ∙ h.3))

content_alias : (n : ℤ) (c : Content) (rest : List ℕ) → IsContent n c rest → begins_with 42 (content_cut c).3 ≡ true → (space m tail : List ℕ) × (Inline space (alias m) tail ≡ c)
content_alias n (Nothing tail) rest h e = absurd (false≢true e)
content_alias n (Inline space node tail) rest h e = let is = node_alias n node (tail ++ rest) h.1.valid e in (space, is.0, tail, ap (λ (x : FlowNode). Inline space x tail) (sym is.1))
content_alias n (Block space anchor block) rest h e = absurd (false≢true (sym (block_star block.style block.indicators) ∙ e))

-- What a row's content is that is an alias.
pub record MeansAlias (rest : List ℕ) (c : Content) : Type 0 where
  pub fit : content_is_fit c ≡ true
  pub head : Some (tree.alias (drop 1 (content_cut c).3)) ≡ head_of c
  pub flow : (total at : ℕ) → total ≡ at + length (head_text c rest) → Some (alias_from (drop 1 (content_cut c).3) at) ≡ alias_or_collection (locate total (content_core c) (tail_of c ++ rest))

written_alias : (rest space m tail : List ℕ) → MeansAlias rest (Inline space (alias m) tail)
unfolding node_text locate tree_of
written_alias rest space m tail = record {
  fit = refl;
  head = ap (λ x. Some (tree.alias x)) (append-nil m);
  flow = λ total at there.
      let long : total ≡ at + length (42 ∷ (m ++ (tail ++ rest))) = there ∙ ap (λ x. at + length (42 ∷ (x ++ (tail ++ rest)))) (append-nil m) in
      let start : at ≡ total - length (42 ∷ (m ++ (tail ++ rest))) = omega (arith, long) in
      let end : at + suc (length (m ++ [])) ≡ total - length (tail ++ rest) = omega (arith, long, length-append m (tail ++ rest), ap length (append-nil m)) in
      λ j. Some (placed None (start j) (start j) (end j) (name (append-nil m j)));
}

pub means_alias : (n : ℤ) (c : Content) (rest : List ℕ) → IsContent n c rest → begins_with 42 (content_cut c).3 ≡ true → MeansAlias rest c
means_alias n c rest h e = let is = content_alias n c rest h e in subst (MeansAlias rest) is.3 (written_alias rest is.0 is.1 is.2)
