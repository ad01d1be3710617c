-- A node outside flow collections before one text is one before a text that is alike.
use Rattle.std.proofs.Common.{◌≡◌, inl, inr, ℕ, zero, suc, true, false, not, List, [], ◌∷◌, ◌++◌, Option, Some, refl, sym, ap, ◌∙◌, subst}
use Rattle.std.{proofs.Common.rules, proofs.lemmas.Bool.{false≢true, not-false, or_parts}}
use Rattle.yq_core.{specs.Text.{is_white, is_break}, proofs.Bools.at_byte, specs.Alike.{Alike, stop, colon, byte, after}}
use Rattle.yq_core.specs.Nodes.{FlowNode, empty, alias, scalar, coll, anchored, node_text, flow_items_text, begins_content, IsApart, IsLead}
use Rattle.yq_core.{specs.Nodes.IsFlowNode, proofs.Alikes.{alike_append, alike_unless, alike_first, alike_content, alike_none}}
use Rattle.yq_core.proofs.AlikePieces.{scalar_alike, name_alike, gap_alike}
use Rattle.yq_core.proofs.NodeKeeps.{node_text_alike, items_text_alike, items_any}

-- White space after which no content begins.
pub record HasNone (t : List ℕ) : Type 0 where
  pub gap : List ℕ
  pub rest : List ℕ
  pub text : t ≡ gap ++ rest
  pub apart : IsApart false gap rest
  pub none : begins_content false rest ≡ false

black : (b c : ℕ) → b ≡ c → is_white c ≡ false → not (is_white b) ≡ false → ⊥
black b c is none h = false≢true (sym none ∙ subst (λ (k : ℕ). is_white k ≡ true) is (not-false (is_white b) h))

none_kept : (t u : List ℕ) → Alike (Some false) t u → (g r : List ℕ) → t ≡ g ++ r → IsApart false g r → begins_content false r ≡ false → HasNone u
none_kept t u h [] r e a none_here = search (rules, alike_unless, alike_content)
none_kept _ _ (stop {b = c} x) (b ∷ g) r e a none_here = search (rules, at_byte, black)
none_kept _ _ (colon {t = t} {u = u} x y) (b ∷ g) r e a none_here = absurd (black b 58 (cc) refl a.0.0)
none_kept _ _ (byte {b = c} {t = t} {u = u} v w x y) (b ∷ g) r e a none_here = absurd (black b c (cc) (or_parts (is_white c) (is_break (c ∷ t)) v).0 a.0.0)
none_kept _ _ (after {b = c} {t = t} {u = u} h) (b ∷ g) r e a none_here =
    let is : b ≡ c = cc in
    let following : t ≡ g ++ r = cc in
    let again = none_kept t u h g r following (a.0.1, a.1) none_here in
    record { gap = b ∷ again.gap; rest = again.rest; text = rw (← is) (ap (λ l. b ∷ l) again.text); apart = ((a.0.0, again.apart.0), again.apart.1); none = again.none }

lead_alike : (p t u : List ℕ) → Alike (Some false) t u → IsLead false (begins_content false) p t → IsLead false (begins_content false) p u
lead_alike p t u h (inl g) = search (rules, alike_none, alike_unless, alike_content)
lead_alike p t u h (inr g) = let none = none_kept t u h g.1.0 g.1.1 g.1.2 g.1.3 g.1.4 in inr (g.0, (none.gap, none.rest, none.text, none.apart, none.none))

pub line_node_alike : (spaces : Option ℕ) (node : FlowNode) (d : ℕ) (t u : List ℕ) → Alike (Some false) t u → IsFlowNode false spaces d node t → IsFlowNode false spaces d node u
unfolding node_text IsFlowNode
line_node_alike spaces empty d t u h g = (sym (alike_content false t u h) ∙ g.0, sym (alike_first 38 (Some false) t u h) ∙ g.1)
line_node_alike spaces (alias n) d t u h g = name_alike (Some false) n t u h g
line_node_alike spaces (scalar p) d t u h g = scalar_alike false spaces p t u h g
line_node_alike spaces (coll k s is) zero t u h g = absurd g.2
line_node_alike spaces (coll k s is) (suc d) t u h g =
    (g.0, gap_alike (Some true) s (flow_items_text k is t) (flow_items_text k is u) (items_text_alike k is t u g.0) g.1, items_any is d k t u g.0 g.2)
line_node_alike spaces (anchored n s node) d t u h g =
    let inner = node_text_alike (Some false) node t u h in (
      name_alike (Some false) n (s ++ node_text node t) (s ++ node_text node u) (alike_append (Some false) s (node_text node t) (node_text node u) inner) g.0,
      lead_alike s (node_text node t) (node_text node u) inner g.1,
      g.2,
      g.3,
      line_node_alike spaces node d t u h g.4,
    )
