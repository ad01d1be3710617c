-- The collections in front of a text, as the code finds them.
use Rattle.std.proofs.Common.{◌≡◌, ℕ, zero, suc, ◌-◌, Bool, true, false, cond, not, ◌||◌, ◌&&◌, List, [], ◌++◌, drop, length, Option, Some}
use Rattle.std.{proofs.Common.{None, refl, sym, ap, ◌∙◌, subst, arith}, proofs.lemmas.Option.same_Some}
use Rattle.yq_core.{specs.Answers.◌>>=◌, specs.Collections.CollPieces, specs.Text.is_empty, proofs.Bools.{bind_some, guard_then}}
use Rattle.yq_core.specs.Nodes.{FlowNode, Items, alias, anchored, begins_content, begins_with, coll, empty, is_empty_node, scalar}
use Rattle.yq_core.{specs.Nodes.takes_anchor, proofs.GapLaws.gap_takes, proofs.NodeTakes.items_takes, proofs.NodesPieceLaws.front_not}
use Rattle.yq_core.specs.Reading.{Kids, all_items, all_node, kids_of, lead_at, name_at, read_collection, read_core, read_gap, read_node}
use Rattle.yq_inline.{specs.Along.{after_anchor, front_read}, specs.Measured.{HasBracket, HasNoBracket, closing_byte}}
use Rattle.yq_inline.{specs.declared.before_offset.LeadingNode.LeadingNode, specs.declared.before_offset.LeadingParts.LeadingParts}
use Rattle.yq_inline.{specs.Neighbours.{IsCollectionOf, coll_read}, proofs.FirstParts.some_of}
use denote.Bor.{Bor}

abbrev coll_of : Option (FlowNode × List ℕ) → Option CollPieces
coll_of o = coll_read [] o

-- ---- after an anchor

-- what follows an anchor is read as the node is
record Content (flow : Bool) (spaces : Option ℕ) (d : ℕ) (t u : List ℕ) : Type 0 where
  pub there : read_core flow spaces (kids_of d) u ≡ None → ⊥
  pub same : coll_of (all_node flow spaces d t) ≡ coll_of (read_core flow spaces (kids_of d) u)

plain_content : (flow : Bool) (spaces : Option ℕ) (d : ℕ) (t u : List ℕ) → begins_with 38 t ≡ false → t ≡ u → (all_node flow spaces d t ≡ None → ⊥) → Content flow spaces d t u
unfolding read_node
plain_content flow spaces d t u amp is some =
    let plain : all_node flow spaces d t ≡ read_core flow spaces (kids_of d) u = rw amp (ap (read_core flow spaces (kids_of d)) is) in
    record { there = λ absent. some (plain ∙ absent); same = ap coll_of plain }

-- a node after an anchor and a gap
abbrev with_anchor : List ℕ → List ℕ → FlowNode × List ℕ → Option (FlowNode × List ℕ)
with_anchor n g node = cond ((is_empty_node node.0 || not (is_empty g)) && takes_anchor node.0) (Some (anchored n g node.0, node.1)) None

anchored_content : (flow : Bool) (spaces : Option ℕ) (d : ℕ) (t n r g u : List ℕ) → begins_with 38 t ≡ true → name_at (drop 1 t) ≡ Some (n, r) →
    lead_at flow (begins_content flow) r ≡ Some (g, u) → (all_node flow spaces d t ≡ None → ⊥) → Content flow spaces d t u
unfolding read_node
anchored_content flow spaces d t n r g u amp name lead some =
    let is : all_node flow spaces d t ≡ (read_core flow spaces (kids_of d) u >>= with_anchor n g) = rw amp (rw name (rw lead refl)) in
    let x = some_of (all_node flow spaces d t) some in
    let node = bind_some (read_core flow spaces (kids_of d) u) (sym is ∙ x.1) in
    let may = guard_then ((is_empty_node node.0.0 || not (is_empty g)) && takes_anchor node.0.0) node.2 in
    record {
      there = λ absent. (let e = sym node.1 ∙ absent in cc);
      same = ap coll_of (x.1 ∙ sym may.1) ∙ ap coll_of (sym node.1);
    }

content_at : (flow : Bool) (spaces : Option ℕ) (d : ℕ) (t u : List ℕ) → after_anchor flow t ≡ Some u → (all_node flow spaces d t ≡ None → ⊥) → Content flow spaces d t u
content_at flow spaces d t u past some = go (begins_with 38 t) refl past where
  go : (b : Bool) → begins_with 38 t ≡ b → cond b (name_at (drop 1 t) >>= λ n. lead_at flow (begins_content flow) n.1 >>= λ g. Some g.1) (Some t) ≡ Some u → Content flow spaces d t u
  go true amp e =
      let n = bind_some (name_at (drop 1 t)) e in
      let g = bind_some (lead_at flow (begins_content flow) n.0.1) n.2 in
      subst (Content flow spaces d t) (same_Some _ _ g.2) (anchored_content flow spaces d t n.0.0 n.0.1 g.0.0 g.0.1 amp n.1 g.1 some)
  go false amp e = plain_content flow spaces d t u amp (same_Some _ _ e) some

no_content : (flow : Bool) (spaces : Option ℕ) (d : ℕ) (t : List ℕ) → after_anchor flow t ≡ None → all_node flow spaces d t ≡ None
unfolding read_node
no_content flow spaces d t past = go (begins_with 38 t) refl past where
  after : List ℕ × List ℕ → List ℕ × List ℕ → Option (FlowNode × List ℕ)
  after n g = read_core flow spaces (kids_of d) g.1 >>= with_anchor n.0 g.0

  gap : (n : List ℕ × List ℕ) (o : Option (List ℕ × List ℕ)) → (o >>= λ g. Some g.1) ≡ None → (o >>= after n) ≡ None
  gap n None e = refl
  gap n (Some g) e = cc

  name : (o : Option (List ℕ × List ℕ)) → (o >>= λ n. lead_at flow (begins_content flow) n.1 >>= λ g. Some g.1) ≡ None → (o >>= λ n. lead_at flow (begins_content flow) n.1 >>= after n) ≡ None
  name None e = refl
  name (Some n) e = gap n (lead_at flow (begins_content flow) n.1) e

  go : (b : Bool) → begins_with 38 t ≡ b → cond b (name_at (drop 1 t) >>= λ n. lead_at flow (begins_content flow) n.1 >>= λ g. Some g.1) (Some t) ≡ None → all_node flow spaces d t ≡ None
  go true amp e = rw amp (name (name_at (drop 1 t)) e)
  go false amp e = cc

-- ---- a bracket

plain_none : (flow : Bool) (spaces : Option ℕ) (kids : Kids) (u : List ℕ) → begins_with 91 u ≡ false → begins_with 123 u ≡ false → coll_of (read_core flow spaces kids u) ≡ None
unfolding read_core
plain_none flow spaces kids u list map = rw (list, map) (go (begins_with 42 u) _ (name_at (drop 1 u)) _) where
  named : (o : Option (List ℕ × List ℕ)) → coll_of (o >>= λ x. Some (alias x.0, x.1)) ≡ None
  named None = refl
  named (Some x) = refl

  written : (o : Option (List ℕ × List ℕ)) → coll_of (o >>= λ x. Some (scalar x.0, x.1)) ≡ None
  written None = refl
  written (Some x) = refl

  go : (b c : Bool) (o p : Option (List ℕ × List ℕ)) → coll_of (cond b (o >>= λ x. Some (alias x.0, x.1)) (cond c (p >>= λ x. Some (scalar x.0, x.1)) (Some (empty, u)))) ≡ None
  go true c o p = named o
  go false true o p = written p
  go false false o p = refl

list_read : (flow : Bool) (spaces : Option ℕ) (kids : Kids) (u : List ℕ) → begins_with 91 u ≡ true → read_core flow spaces kids u ≡ read_collection kids 93 (drop 1 u)
unfolding read_core
list_read flow spaces kids u list = rw (front_not (begins_with 91) 42 (λ bs. refl) u list, list) refl

map_read : (flow : Bool) (spaces : Option ℕ) (kids : Kids) (u : List ℕ) → begins_with 91 u ≡ false → begins_with 123 u ≡ true → read_core flow spaces kids u ≡ read_collection kids 125 (drop 1 u)
unfolding read_core
map_read flow spaces kids u list map = rw (front_not (begins_with 123) 42 (λ bs. refl) u map, list, map) refl

-- a collection is in front, with what follows its bracket
record Bracket (flow : Bool) (spaces : Option ℕ) (d : ℕ) (u : List ℕ) (curly : Bool) (v : List ℕ) : Type 0 where
  pub read : read_core flow spaces (kids_of d) u ≡ read_collection (kids_of d) (closing_byte curly) (drop 1 u)
  pub after : v ≡ drop 1 u

bracket : (flow : Bool) (spaces : Option ℕ) (d : ℕ) (u : List ℕ) (curly : Bool) (v : List ℕ) → HasBracket u curly v → Bracket flow spaces d u curly v
bracket flow spaces d u true v h = record { read = map_read flow spaces (kids_of d) u (front_not (begins_with 123) 91 (λ bs. refl) u h.0) h.0; after = h.1 }
bracket flow spaces d u false v h = record { read = list_read flow spaces (kids_of d) u h.0; after = h.1 }

-- the items or entries after the bracket and the gap after that
record Opened (flow : Bool) (spaces : Option ℕ) (d k : ℕ) (u g r : List ℕ) : Type 0 where
  pub items : Items
  pub rest : List ℕ
  pub depth : d ≡ suc (d - 1)
  pub read : all_items (d - 1) k r ≡ Some (items, rest)
  pub is : read_core flow spaces (kids_of d) u ≡ Some (coll k g items, rest)

opened_by : (flow : Bool) (spaces : Option ℕ) (d k : ℕ) (u g r : List ℕ) →
    read_core flow spaces (kids_of d) u ≡ read_collection (kids_of d) k (drop 1 u) → read_gap (drop 1 u) ≡ Some (g, r) →
    (read_core flow spaces (kids_of d) u ≡ None → ⊥) → Opened flow spaces d k u g r
unfolding read_collection
opened_by flow spaces zero k u g r is gap some = absurd (some (is ∙ rw gap refl))
opened_by flow spaces (suc e) k u g r is gap some =
    let as_coll : Items × List ℕ → Option (FlowNode × List ℕ) = λ x. Some (coll k g x.0, x.1) in
    let all_is : read_core flow spaces (kids_of (suc e)) u ≡ (all_items e k r >>= as_coll) = is ∙ rw gap refl in
    let x = some_of (read_core flow spaces (kids_of (suc e)) u) some in
    let y = bind_some (all_items e k r) (sym all_is ∙ x.1) in
    let less : suc e - 1 ≡ e = omega arith in
    record {
      items = y.0.0;
      rest = y.0.1;
      depth = ap suc (sym less);
      read = ap (λ (j : ℕ). all_items j k r) less ∙ y.1;
      is = x.1 ∙ sym y.2;
    }

unopened_by : (flow : Bool) (spaces : Option ℕ) (d k : ℕ) (u : List ℕ) → read_core flow spaces (kids_of d) u ≡ read_collection (kids_of d) k (drop 1 u) → read_gap (drop 1 u) ≡ None → read_core flow spaces (kids_of d) u ≡ None
unfolding read_collection
unopened_by flow spaces d k u is gap = is ∙ rw gap refl

-- ---- what the code finds in front

module _ (n : LeadingNode) where
  abbrev text : List ℕ
  text = n.text.now

  pub none_anchored : after_anchor n.flow text ≡ None → coll_of (front_read n) ≡ None
  none_anchored past = ap coll_of (no_content n.flow n.spaces n.depth text past)

  module _ (u : List ℕ) (past : after_anchor n.flow text ≡ Some u) where
    content : Content n.flow n.spaces n.depth text u
    content = content_at n.flow n.spaces n.depth text u past n.node

    pub none_opened : HasNoBracket u → coll_of (front_read n) ≡ None
    none_opened h = content.same ∙ plain_none n.flow n.spaces (kids_of n.depth) u h.0 h.1

    module _ (curly : Bool) (v : List ℕ) (opens : HasBracket u curly v) where
      b : Bracket n.flow n.spaces n.depth u curly v
      b = bracket n.flow n.spaces n.depth u curly v opens

      pub gap_there : read_gap v ≡ None → ⊥
      gap_there gap = content.there (unopened_by n.flow n.spaces n.depth (closing_byte curly) u b.read (ap read_gap (sym b.after) ∙ gap))

      module _ (g r : List ℕ) (gap : read_gap v ≡ Some (g, r)) where
        opened : Opened n.flow n.spaces n.depth (closing_byte curly) u g r
        opened = opened_by n.flow n.spaces n.depth (closing_byte curly) u g r b.read (ap read_gap (sym b.after) ∙ gap) content.there

        pub depth_is : n.depth ≡ suc (n.depth - 1)
        depth_is = opened.depth

        pub parts_there : all_items (n.depth - 1) (closing_byte curly) r ≡ None → ⊥
        parts_there absent = let e = sym opened.read ∙ absent in cc

        pub collection_there : (x : Bor (List ℕ) × LeadingParts) → x.0.now ≡ v → x.1.depth ≡ n.depth - 1 → x.1.keyed ≡ curly → x.1.text.now ≡ r →
            (w : CollPieces) × (coll_of (front_read n) ≡ Some w) × IsCollectionOf w x
        collection_there x inside depth keyed at =
            let o = opened in (
              record { close = closing_byte curly; gap = g; items = o.items; rest = o.rest },
              content.same ∙ ap coll_of o.is,
              record {
                close = ap closing_byte (sym keyed);
                read = (λ i. all_items (depth i) (closing_byte (keyed i)) (at i)) ∙ o.read;
                inside = inside ∙ ((gap_takes v (g, r) gap).0 ∙ ap (λ (l : List ℕ). g ++ l) (items_takes (suc (length r)) (n.depth - 1) (closing_byte curly) r (o.items, o.rest) o.read).0);
              },
            )
