-- A collection that was passed is one by itself, and is passed again before any rest.
use Rattle.std.proofs.Common.{◌≡◌, ℕ, ◌-◌, ◌≤◌, Bool, true, false, cond, eqb, List, [], ◌++◌, length, take, Option, Some, refl, sym, ap}
use Rattle.std.{proofs.Common.{◌∙◌, subst, arith, length-append}, proofs.Math.Seq.take-append_seam}
use Rattle.yq_core.{specs.Answers.◌>>=◌, specs.Borrowed.{IsWholeCollection, borrows_node}, specs.FitKeys.has_fit_keys}
use Rattle.yq_core.{specs.Inline.depth_limit, specs.Nodes.{FlowNode, coll, IsFlowNode, flow_items_text, node_text}}
use Rattle.yq_core.{specs.Keys.has_unique_keys, specs.Places.{Parts, holder, locate, locate_items, mapping, placed_between, sequence}}
use Rattle.yq_core.{specs.PlacedReading.placed_node, specs.Reading.all_node, specs.Trees.tree_of, proofs.NodeKeeps.coll_any}
use Rattle.yq_core.{proofs.NodeLaws.all_again, proofs.NodesWrittenLaws.node_then}
use Rattle.yq_inline.{specs.Measured.{measured, node_measure}, specs.Passed.IsPassedHead, proofs.PassedLaws.deeper_node}
use Rattle.yq_inline.specs.declared.measuring.MeasuredKind.TheVariants as kinds

-- the text before what follows it
before : (x rest t : List ℕ) → t ≡ x ++ rest → take (length t - length rest) t ≡ x
before x rest t is =
    let n : length t - length rest ≡ length x = omega (arith, ap length is, length-append x rest) in
    ap (λ (m : ℕ). take m t) n ∙ (ap (take (length x)) is ∙ take-append_seam x rest)

module _ (d : ℕ) (t rest : List ℕ) (p : IsPassedHead d t rest) where
  abbrev node : FlowNode
  node = coll p.close p.collection.gap p.collection.items

  spelled : t ≡ node_text node rest
  spelled = p.is_located ∙ (p.collection.passed.is_located ∙ ap (λ (x : FlowNode). node_text x rest) p.collection.is)

  valid : IsFlowNode true (Some 0) d node rest
  valid = subst (λ (x : FlowNode). IsFlowNode true (Some 0) d x rest) p.collection.is p.collection.passed.valid

  pub passed_whole : IsWholeCollection d (take (length t - length rest) t)
  passed_whole = record {
    close = p.close;
    gap = p.collection.gap;
    items = p.collection.items;
    spelled = before (node_text node []) rest t (spelled ∙ node_then node rest);
    valid = coll_any p.close p.collection.gap p.collection.items true (Some 0) d rest [] valid;
    borrowed = subst (λ (x : FlowNode). borrows_node x ≡ true) p.collection.is p.collection.passed.borrowed;
    unique = subst (λ (x : FlowNode). has_unique_keys (tree_of x) ≡ true) p.collection.is p.collection.passed.unique;
    fit = subst (λ (x : FlowNode). has_fit_keys x ≡ true) p.collection.is p.collection.passed.fit;
  }

  held : (s : Parts) → node_measure (placed_between 0 (node_text node rest) rest (holder p.close s)) ≡ (false, kinds.Collection)
  held s =
      elim (eqb p.close 125) as (λ (b : Bool). node_measure (placed_between 0 (node_text node rest) rest (cond b (mapping s) (sequence s))) ≡ (false, kinds.Collection)) [ true ↦ refl | false ↦ refl ]

  located : node_measure (locate 0 node rest) ≡ (false, kinds.Collection)
  unfolding locate
  located = held (locate_items 0 p.close p.collection.items rest)

  -- it is measured as it was passed
  pub passed_measured : (flow : Bool) (spaces : Option ℕ) → d ≤ depth_limit → measured (placed_node flow spaces 0 depth_limit t) ≡ Some ((false, kinds.Collection), rest)
  passed_measured flow spaces le =
      let there : IsFlowNode flow spaces depth_limit node rest =
      deeper_node node flow spaces d depth_limit rest le (coll_any p.close p.collection.gap p.collection.items flow spaces d rest rest valid) in
      ap (λ o. measured (o >>= λ x. Some (locate 0 x.0 x.1, x.1))) (ap (λ (u : List ℕ). all_node flow spaces depth_limit u) spelled ∙ all_again flow spaces depth_limit node rest there)
      ∙ ap (λ m. Some (m, rest)) located

-- it is passed before any rest
pub whole_passed : (d : ℕ) (h more t : List ℕ) → IsWholeCollection d h → t ≡ h ++ more → IsPassedHead d t more
unfolding node_text
whole_passed d h more t w is =
    let node : FlowNode = coll w.close w.gap w.items in
    let there : t ≡ node_text node more = is ∙ (ap (λ (x : List ℕ). x ++ more) w.spelled ∙ sym (node_then node more)) in
    record {
      close = w.close;
      after = w.gap ++ flow_items_text w.close w.items more;
      is_located = there;
      collection = record {
        passed = record {
          node = node;
          is_located = refl;
          valid = coll_any w.close w.gap w.items true (Some 0) d [] more w.valid;
          borrowed = w.borrowed;
          unique = w.unique;
          fit = w.fit;
        };
        gap = w.gap;
        items = w.items;
        is = refl;
      };
    }
