-- A head that the text lends is what is read of it.
use Rattle.std.proofs.Common.{rules, ◌≡◌, ℕ, ℤ, ◌-◌, ◌≤◌, true, false, cond, eqb, List, ◌∷◌, length, Some, None, refl, sym, ap, ◌∙◌, subst}
use Rattle.std.{proofs.Common.{arith, length-append, ⊎_elim}, proofs.lemmas.Bool.{false≢true, or_cases}}
use Rattle.yq_core.{specs.Borrowed.{is_borrowed, leading_node}, specs.Inline.depth_limit, specs.Piece.deeper}
use Rattle.yq_core.specs.Nodes.{FlowNode, coll, Items, node_text, IsFlowNode, is_empty_node, opening_bracket}
use Rattle.yq_core.{specs.Places.{holder, locate, locate_items, mapping, Parts, sequence, placed}, specs.Scalars.is_quoted}
use Rattle.yq_core.{specs.Text.is_empty, specs.Trees.{node_head, placed_tree, tree_of}, proofs.BorrowedLaws.{front_located, node_borrowed}}
use Rattle.yq_core.{proofs.NodeAgain.is_anchored, proofs.TreeLaws.node_tree}
use Rattle.yq_documents.{specs.FlowReading.{alias_or_collection, head_flow_at, node_flow_at}, specs.KeyReading.EndsIn}
use Rattle.yq_documents.{specs.RowReading.{is_block_head, is_short_plain, read_head, node_head_at}, proofs.HeadLaws.fitting}
use Rattle.yq_documents.specs.Decoded.{opens_collection}
use Rattle.yq_inline.{specs.Passed.{IsPassedHead, IsPassedNode}, proofs.PassedLaws.deeper_node}
use Rattle.yq_documents.proofs.HeadLaws as heads
use Rattle.yq_documents.proofs.RowFlowLaws as flows

-- a text that begins with a bracket
abbrev pub IsOther : List ℕ → Type 0
IsOther h = (is_empty h ≡ false) × (is_block_head h ≡ false) × (is_quoted h ≡ false) × (is_short_plain h ≡ false)

opened : (h : List ℕ) → opens_collection h ≡ true → IsOther h
opened h e = search (rules, false≢true, ⊎_elim, or_cases)

-- a collection is one in block too
in_block : (k : ℕ) (g : List ℕ) (is : Items) (n : ℤ) (d : ℕ) (rest : List ℕ) → IsFlowNode true (Some 0) d (coll k g is) rest → IsFlowNode false (Some (deeper n)) d (coll k g is) rest
unfolding IsFlowNode
in_block k g is n d rest h = h

holder_kept : (s c e k : ℕ) (parts : Parts) → alias_or_collection (placed None s c e (holder k parts)) ≡ Some (placed None s c e (holder k parts))
holder_kept s c e k parts = elim (eqb k 125) as (λ x. alias_or_collection (placed None s c e (cond x (mapping parts) (sequence parts))) ≡ Some (placed None s c e (cond x (mapping parts) (sequence parts)))) [ true ↦ refl | false ↦ refl ]

collection_kept : (total k : ℕ) (g : List ℕ) (is : Items) (rest : List ℕ) → alias_or_collection (locate total (coll k g is) rest) ≡ Some (locate total (coll k g is) rest)
unfolding locate
collection_kept total k g is rest =
    let t = node_text (coll k g is) rest in
    holder_kept (total - length t) (total - length t) (total - length rest) k (locate_items total k is rest)

module _ (whole t rest : List ℕ) (d : ℕ) (ends : EndsIn whole t) (le : d ≤ depth_limit) (p : IsPassedHead d t rest) where
  abbrev c : IsPassedNode d (opening_bracket p.close ∷ p.after) rest
  c = p.collection.passed

  abbrev node : FlowNode
  node = c.node

  is_located : t ≡ node_text node rest
  is_located = p.is_located ∙ c.is_located

  valid : (n : ℤ) → IsFlowNode false (Some (deeper n)) depth_limit node rest
  valid n =
      let is = p.collection.is in
      subst (λ (x : FlowNode). IsFlowNode false (Some (deeper n)) depth_limit x rest) (sym is)
      (in_block p.close p.collection.gap p.collection.items n depth_limit rest (subst (λ (x : FlowNode). IsFlowNode true (Some 0) depth_limit x rest) is (deeper_node node true (Some 0) d depth_limit rest le c.valid)))

  located : leading_node (length whole) d t ≡ locate (length whole) node rest
  located = front_located (length whole) d t node rest is_located c.valid

  pub head_lent : is_borrowed d t ≡ true
  head_lent = node_borrowed d t (record { node = node; rest = rest; is_located = is_located; valid = c.valid; borrowed = c.borrowed; unique = c.unique })

  pub head_within : length t ≤ length whole
  head_within = omega (arith, ap length ends.1, length-append ends.0 t)

  head_node : node_head node ≡ Some (placed_tree (leading_node (length whole) d t))
  head_node = ap node_head p.collection.is ∙ (ap (λ (x : FlowNode). Some (tree_of x)) (sym p.collection.is) ∙ ap Some (sym (ap placed_tree located ∙ node_tree (length whole) node rest)))

  pub head_view_is : (h : List ℕ) (n : ℤ) → opens_collection h ≡ true → read_head whole n h t ≡ Some (Some (placed_tree (leading_node (length whole) d t)))
  head_view_is h n opens =
      let o = opened h opens in
      heads.by_node whole n h t o.0 o.1 o.2 o.3
      ∙ (ap (node_head_at whole n) is_located
      ∙ (heads.node_again whole n node rest (ap is_anchored p.collection.is) (ap is_empty_node p.collection.is) (subst (EndsIn whole) is_located ends) (valid n)
      ∙ (λ i. fitting (c.fit i) (head_node i))))

  pub head_flow_is : (h : List ℕ) (n : ℤ) → opens_collection h ≡ true → Some (leading_node (length whole) d t) ≡ head_flow_at whole n h t
  head_flow_is h n opens =
      let o = opened h opens in
      let kept : alias_or_collection (locate (length whole) node rest) ≡ Some (locate (length whole) node rest) =
      subst (λ (x : FlowNode). alias_or_collection (locate (length whole) x rest) ≡ Some (locate (length whole) x rest)) (sym p.collection.is) (collection_kept (length whole) p.close p.collection.gap p.collection.items rest) in
      sym (flows.by_node whole n h t o.0 o.1 o.2 o.3
      ∙ (ap (node_flow_at whole n) is_located
      ∙ (flows.node_again whole n node rest (ap is_empty_node p.collection.is) (subst (EndsIn whole) is_located ends) (valid n) ∙ (kept ∙ ap Some (sym located)))))

-- more collections may be nested
pub deeper_head : (d e : ℕ) (t rest : List ℕ) → d ≤ e → IsPassedHead d t rest → IsPassedHead e t rest
deeper_head d e t rest le p =
    let x = p.collection.passed in
    record {
      close = p.close;
      after = p.after;
      is_located = p.is_located;
      collection = record {
        passed = record {
          node = x.node;
          is_located = x.is_located;
          valid = deeper_node x.node true (Some 0) d e rest le x.valid;
          borrowed = x.borrowed;
          unique = x.unique;
          fit = x.fit;
        };
        gap = p.collection.gap;
        items = p.collection.items;
        is = p.collection.is;
      };
    }
