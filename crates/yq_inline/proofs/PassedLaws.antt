-- What is passed of flow collections is of the grammar.
use Rattle.std.proofs.Common.{◌≡◌, ℕ, zero, suc, ◌+◌, ◌≤◌, ◌<◌, Bool, true, false, not, ◌&&◌, List, [], ◌∷◌, ◌++◌, length, drop, Option}
use Rattle.std.{proofs.Common.{Some, refl, sym, ap, ◌∙◌, subst, arith, length-append}, proofs.lemmas.Bool.and_from}
use Rattle.std.proofs.lemmas.Option.{same_Some}
use Rattle.yq_core.{specs.Borrowed.{borrows_items, borrows_node, borrows_text}, specs.Gaps.IsInlineGap}
use Rattle.yq_core.specs.Keys.{are_distinct, each_has_unique_keys, has_unique_keys, keys_of}
use Rattle.yq_core.specs.Nodes.{FlowNode, empty, alias, scalar, coll, anchored, Items, none, item, Key, bare, keyed, node_text}
use Rattle.yq_core.specs.Nodes.{flow_items_text, sep_text, key_text, IsFlowNode, AreFlowItems, IsInlineKey, IsSep, Deeper, is_close}
use Rattle.yq_core.{specs.Nodes.{is_empty_node, begins_with, begins_content, opening_bracket}, specs.PlacedReading.{key_piece, past_sep}}
use Rattle.yq_core.{specs.Scalars.scalar_content, specs.Reading.{read_flow_key, read_gap, read_scalar, sep_at}}
use Rattle.yq_core.{specs.Trees.{items_tree, tree_collection, tree_of}, proofs.Bools.bind_some, proofs.GapLaws.gap_takes}
use Rattle.yq_core.{proofs.NodeAgain.item_longer, proofs.NodesPieceLaws.{front_is, key_takes, scalar_some, scalar_takes, sep_takes}}
use Rattle.yq_core.specs.FitKeys.{each_has_fit_keys, has_fit_keys, is_fit}
use Rattle.yq_inline.specs.Forms.{after_bracket}
use Rattle.yq_inline.specs.Passed.{ArePassedParts, IsPassedCollection, IsPassedContent, IsPassedKey, IsPassedNode, IsPassedPart}

-- more collections may be nested
mutual
  unfolding IsFlowNode AreFlowItems

  pub deeper_node : (node : FlowNode) (flow : Bool) (spaces : Option ℕ) (n d : ℕ) (rest : List ℕ) → n ≤ d → IsFlowNode flow spaces n node rest → IsFlowNode flow spaces d node rest
  deeper_node empty flow spaces n d rest le h = h
  deeper_node (alias a) flow spaces n d rest le h = h
  deeper_node (scalar p) flow spaces n d rest le h = h
  deeper_node (coll k g is) flow spaces zero d rest le h = absurd h.2
  deeper_node (coll k g is) flow spaces (suc n) zero rest le h = absurd (omega (arith, le))
  deeper_node (coll k g is) flow spaces (suc n) (suc d) rest le h = (h.0, h.1, deeper_items is k n d rest (omega (arith, le)) h.2)
  deeper_node (anchored a g node) flow spaces n d rest le h = (h.0, h.1, h.2, h.3, deeper_node node flow spaces n d rest le h.4)

  pub deeper_items : (is : Items) (k n d : ℕ) (rest : List ℕ) → n ≤ d → AreFlowItems n k is rest → AreFlowItems d k is rest
  deeper_items none k n d rest le h = h
  deeper_items (item key node s is) k n d rest le h =
      (h.0, h.1, deeper_node node true (Some 0) n d (sep_text s (flow_items_text k is rest)) le h.2, h.3, deeper_items is k n d rest le h.4)

-- a scalar
pub scalar_passed : (t p r : List ℕ) → read_scalar true (Some 0) t ≡ Some (p, r) → borrows_text p ≡ true → IsPassedContent 0 t r
unfolding node_text IsFlowNode tree_of
scalar_passed t p r read borrows =
    let a = scalar_takes true (Some 0) t (p, r) read in
    record { passed = record { node = scalar p; is_located = a.0; valid = a.1; borrowed = borrows; unique = refl; fit = refl }; some = refl }

pub scalar_shorter : (t p r : List ℕ) → read_scalar true (Some 0) t ≡ Some (p, r) → length r < length t
scalar_shorter t p r read =
    let a = scalar_takes true (Some 0) t (p, r) read in
    omega (arith, ap length a.0, length-append p r, scalar_some true (Some 0) p r a.1)

-- nothing
pub nothing_passed : (d : ℕ) (t : List ℕ) → begins_content true t ≡ false → begins_with 38 t ≡ false → IsPassedNode d t t
unfolding node_text IsFlowNode tree_of
nothing_passed d t content amp = record { node = empty; is_located = refl; valid = (content, amp); borrowed = refl; unique = refl; fit = refl }

-- a collection, and the gap after its bracket
opened : (n : ℕ) (t r : List ℕ) → after_bracket n t ≡ Some r → (g : List ℕ) × (t ≡ g ++ r) × IsInlineGap g r
opened zero t r h = cc
opened (suc n) t r h =
    let x = bind_some (read_gap t) h in
    let a = gap_takes t x.0 x.1 in
    let at = same_Some _ _ x.2 in
    (x.0.0, a.0 ∙ ap (λ l. x.0.0 ++ l) at, subst (IsInlineGap x.0.0) at a.1)

collection_of : (k n d : ℕ) (t r rest : List ℕ) (keys : List (List ℕ)) → is_close k ≡ true → after_bracket n t ≡ Some r →
    (p : ArePassedParts d k keys r rest) → has_unique_keys (tree_collection k (items_tree p.items)) ≡ true → IsPassedCollection k (d + 1) t rest
unfolding node_text IsFlowNode tree_of
collection_of k n d t r rest keys closes begun p unique =
    let a = opened n t r begun in
    let more : suc d ≡ d + 1 = omega arith in
    record {
      passed = record {
        node = coll k a.0 p.items;
        is_located = ap (λ l. opening_bracket k ∷ l) (a.1 ∙ ap (λ l. a.0 ++ l) p.are_there);
        valid = (closes, subst (IsInlineGap a.0) p.are_there a.2, subst (λ (x : ℕ). Deeper x (λ e. AreFlowItems e k p.items rest)) more p.valid);
        borrowed = p.borrowed;
        unique = unique;
        fit = p.fit;
      };
      gap = a.0;
      items = p.items;
      is = refl;
    }

pub sequence_passed : (n d : ℕ) (t r rest : List ℕ) → after_bracket n t ≡ Some r → ArePassedParts d 93 [] r rest → IsPassedCollection 93 (d + 1) t rest
sequence_passed n d t r rest begun p = collection_of 93 n d t r rest [] refl begun p p.unique

pub mapping_passed : (n d : ℕ) (t r rest : List ℕ) (keys : List (List ℕ)) → after_bracket n t ≡ Some r → ArePassedParts d 125 keys r rest → are_distinct keys ≡ true → IsPassedCollection 125 (d + 1) t rest
mapping_passed n d t r rest keys begun p apart =
    collection_of 125 n d t r rest keys refl begun p (and_from (are_distinct (keys_of (items_tree p.items))) (each_has_unique_keys (items_tree p.items)) (ap are_distinct p.keys_are ∙ apart) p.unique)

pub collection_passed : (k d : ℕ) (t s rest : List ℕ) → t ≡ opening_bracket k ∷ s → IsPassedCollection k d s rest → IsPassedContent d t rest
collection_passed k d t s rest front c =
    let p = c.passed in
    record {
      passed = record { node = p.node; is_located = front ∙ p.is_located; valid = p.valid; borrowed = p.borrowed; unique = p.unique; fit = p.fit };
      some = ap is_empty_node c.is;
    }

pub bracket_front : (k : ℕ) (t s : List ℕ) → begins_with (opening_bracket k) t ≡ true → s ≡ drop 1 t → t ≡ opening_bracket k ∷ s
bracket_front k t s begins is = front_is (opening_bracket k) t begins ∙ ap (λ l. opening_bracket k ∷ l) (sym is)

-- an item is longer than nothing
pub content_shorter : (d : ℕ) (t rest : List ℕ) → IsPassedContent d t rest → length rest < length t
content_shorter d t rest c = let p = c.passed in omega (arith, ap length p.is_located, item_longer true (Some 0) d bare p.node rest (ap not c.some) p.valid)

-- a value or an item
pub content_part : (keyed : Bool) (d : ℕ) (t rest : List ℕ) → IsPassedContent d t rest → IsPassedPart keyed d t rest
content_part true d t rest c = c.passed
content_part false d t rest c = c

pub nothing_part : (keyed : Bool) (t : List ℕ) → keyed ≡ true → begins_content true t ≡ false → begins_with 38 t ≡ false → IsPassedPart keyed 0 t t
nothing_part true t is content amp = nothing_passed 0 t content amp
nothing_part false t is content amp = cc

-- after the last item or entry
pub none_passed : (d k : ℕ) (t s : List ℕ) → begins_with k t ≡ true → s ≡ drop 1 t → ArePassedParts d k [] t s
unfolding flow_items_text AreFlowItems items_tree
none_passed d k t s begins is = record {
  items = none;
  are_there = front_is k t begins ∙ ap (λ l. k ∷ l) (sym is);
  valid = tt;
  borrowed = refl;
  unique = refl;
  fit = refl;
  keys_are = refl;
}

-- one item more
pub item_passed : (n d : ℕ) (t m r rest : List ℕ) → n ≤ d → IsPassedContent n t m → past_sep 93 m ≡ Some r → ArePassedParts d 93 [] r rest → ArePassedParts d 93 [] t rest
unfolding flow_items_text AreFlowItems items_tree
item_passed n d t m r rest le c sep a =
    let p = c.passed in
    let s = bind_some (sep_at 93 m) sep in
    let taken = sep_takes 93 m s.0 s.1 in
    let at : s.0.1 ≡ flow_items_text 93 a.items rest = same_Some _ _ s.2 ∙ a.are_there in
    let here : m ≡ sep_text s.0.0 (flow_items_text 93 a.items rest) = taken.0 ∙ ap (sep_text s.0.0) at in
    record {
      items = item bare p.node s.0.0 a.items;
      are_there = p.is_located ∙ ap (node_text p.node) here;
      valid = (refl, ap not c.some, deeper_node p.node true (Some 0) n d _ le (subst (IsFlowNode true (Some 0) n p.node) here p.valid), subst (IsSep 93 s.0.0) at taken.1, a.valid);
      borrowed = and_from (borrows_node p.node) (borrows_items a.items) p.borrowed a.borrowed;
      unique = and_from (has_unique_keys (tree_of p.node)) (each_has_unique_keys (items_tree a.items)) p.unique a.unique;
      fit = and_from (has_fit_keys p.node) (each_has_fit_keys a.items) p.fit a.fit;
      keys_are = a.keys_are;
    }

-- one entry more
keyed_passed : (n d : ℕ) (key : Key) (t v m r rest k : List ℕ) (more : List (List ℕ)) → t ≡ key_text key v → IsInlineKey 125 key v → key_piece key ≡ k → borrows_text k ≡ true → is_fit k ≡ true → n ≤ d →
    IsPassedNode n v m → past_sep 125 m ≡ Some r → ArePassedParts d 125 more r rest → ArePassedParts d 125 (scalar_content k ∷ more) t rest
unfolding flow_items_text AreFlowItems items_tree
keyed_passed n d bare t v m r rest k more front valid is borrows fit le p sep a = absurd (let no : true ≡ false = valid in cc)
keyed_passed n d (keyed q b g) t v m r rest k more front valid is borrows fit le p sep a =
    let key : Key = keyed q b g in
    let s = bind_some (sep_at 125 m) sep in
    let taken = sep_takes 125 m s.0 s.1 in
    let at : s.0.1 ≡ flow_items_text 125 a.items rest = same_Some _ _ s.2 ∙ a.are_there in
    let here : m ≡ sep_text s.0.0 (flow_items_text 125 a.items rest) = taken.0 ∙ ap (sep_text s.0.0) at in
    let value : v ≡ node_text p.node (sep_text s.0.0 (flow_items_text 125 a.items rest)) = p.is_located ∙ ap (node_text p.node) here in
    record {
      items = item key p.node s.0.0 a.items;
      are_there = front ∙ ap (key_text key) value;
      valid = (subst (IsInlineKey 125 key) value valid, refl, deeper_node p.node true (Some 0) n d _ le (subst (IsFlowNode true (Some 0) n p.node) here p.valid), subst (IsSep 125 s.0.0) at taken.1, a.valid);
      borrowed = and_from (borrows_text q) (borrows_node p.node && borrows_items a.items) (ap borrows_text is ∙ borrows) (and_from (borrows_node p.node) (borrows_items a.items) p.borrowed a.borrowed);
      unique = and_from (has_unique_keys (tree_of p.node)) (each_has_unique_keys (items_tree a.items)) p.unique a.unique;
      fit = and_from (is_fit q) (has_fit_keys p.node && each_has_fit_keys a.items) (ap is_fit is ∙ fit) (and_from (has_fit_keys p.node) (each_has_fit_keys a.items) p.fit a.fit);
      keys_are = (λ i. scalar_content (is i) ∷ a.keys_are i);
    }

pub entry_passed : (n d : ℕ) (t c v m r rest : List ℕ) (more : List (List ℕ)) → n ≤ d → IsPassedKey c t v → IsPassedNode n v m → past_sep 125 m ≡ Some r → ArePassedParts d 125 more r rest → ArePassedParts d 125 (c ∷ more) t rest
entry_passed n d t c v m r rest more le key p sep a =
    let k = bind_some (read_flow_key t) key.read in
    let taken = key_takes t k.0 k.1 in
    let pair = same_Some _ _ k.2 in
    let piece : key_piece k.0.0 ≡ key.key = ap (λ (x : List ℕ × List ℕ). x.0) pair in
    let left : k.0.1 ≡ v = ap (λ (x : List ℕ × List ℕ). x.1) pair in
    subst (λ (x : List ℕ). ArePassedParts d 125 (x ∷ more) t rest) (sym key.means)
    (keyed_passed n d k.0.0 t v m r rest key.key more (taken.0 ∙ ap (key_text k.0.0) left) (subst (IsInlineKey 125 k.0.0) left taken.1) piece key.borrowed key.fit le p sep a)
