-- What a node is that a text lends, by the byte with which it begins.
use Rattle.std.proofs.Common.{◌≡◌, ℕ, zero, suc, ◌-◌, ◌<◌, Bool, true, false, cond, ◌||◌, eqb, List, ◌++◌, drop, length, Some, None, refl}
use Rattle.std.{proofs.Common.{sym, ap, ◌∙◌, subst, arith, eq-eqb, eqb-true, ⊎_elim}, proofs.lemmas.Option.same_Some}
use Rattle.std.proofs.lemmas.Bool.{false≢true, and_parts, or_cases, or_parts}
use Rattle.yq_core.specs.Borrowed.{borrows_text, borrows_node, borrows_items, is_borrowed, are_borrowed, leading_node, leading_items}
use Rattle.yq_core.{specs.Keys.{are_distinct, keys_of, has_unique_keys, each_has_unique_keys}, specs.Tree.Children}
use Rattle.yq_core.specs.Trees.{items_tree, placed_tree, parts_tree, scalar_node, tree_collection, tree_of}
use Rattle.yq_core.specs.Nodes.{FlowNode, empty, alias, scalar, coll, anchored, Items, node_text, flow_items_text, begins_with}
use Rattle.yq_core.specs.Nodes.{begins_content, is_close, opening_bracket, IsFlowNode}
use Rattle.yq_core.{specs.Entries.{parts_of, start_of, end_of, content_place}, specs.Scalar.null}
use Rattle.yq_core.specs.Places.{placed, sequence, mapping, Parts, end, holder, locate, locate_items}
use Rattle.yq_core.{specs.Reading.{all_node, read_gap, read_scalar}, specs.Scalars.{begins_scalar, scalar_of}, proofs.GapLaws.gap_again}
use Rattle.yq_core.{proofs.NodeLaws.all_again, proofs.NodesPieceLaws.{front_not, scalar_again, scalar_begins}}
use Rattle.yq_core.proofs.BorrowedLaws.{borrowed_node, front_located, items_borrowed, items_located}
use Rattle.yq_inline.specs.Measured.{past_node}
use Rattle.yq_core.specs.Tree as tree

-- no scalar begins with a bracket
no_list : (flow : Bool) (t : List ℕ) → begins_scalar flow t ≡ true → begins_with 91 t ≡ false
no_list flow t h = front_not (begins_scalar flow) 91 (λ bs. refl) t h

no_map : (flow : Bool) (t : List ℕ) → begins_scalar flow t ≡ true → begins_with 123 t ≡ false
no_map flow t h = front_not (begins_scalar flow) 123 (λ bs. refl) t h

-- a collection after its bracket
pub record Inside (total d k : ℕ) (t : List ℕ) : Type 0 where
  pub room : 0 < d
  pub gap : List ℕ
  pub items : List ℕ
  pub read : read_gap (drop 1 t) ≡ Some (gap, items)
  pub borrowed : are_borrowed (d - 1) k items ≡ true
  pub tree : placed_tree (leading_node total d t) ≡ tree_collection k (parts_tree (leading_items total (d - 1) k items))
  pub parts : parts_of (leading_node total d t) ≡ leading_items total (d - 1) k items

holder_tree : (k : ℕ) (s c e : ℕ) (parts : Parts) → (placed_tree (placed None s c e (holder k parts)) ≡ tree_collection k (parts_tree parts)) × (parts_of (placed None s c e (holder k parts)) ≡ parts)
holder_tree k s c e parts = go (eqb k 125) where
  go : (b : Bool) → (placed_tree (placed None s c e (cond b (mapping parts) (sequence parts))) ≡ cond b (tree_collection 125 (parts_tree parts))
      (tree_collection 93 (parts_tree parts))) × (parts_of (placed None s c e (cond b (mapping parts) (sequence parts))) ≡ parts)
  go true = (refl, refl)
  go false = (refl, refl)

same_bracket : (j k : ℕ) → is_close j ≡ true → is_close k ≡ true → eqb (opening_bracket j) (opening_bracket k) ≡ true → j ≡ k
same_bracket j k a b e = ⊎_elim
    (λ x. ⊎_elim (λ y. eqb-true j 93 x ∙ sym (eqb-true k 93 y)) (λ y. absurd (false≢true ((λ i. eqb (opening_bracket (sym (eqb-true j 93 x) i)) (opening_bracket (sym (eqb-true k 125 y) i))) ∙ e))) (or_cases (eqb k 93) (eqb k 125) b))
    (λ x. ⊎_elim (λ y. absurd (false≢true ((λ i. eqb (opening_bracket (sym (eqb-true j 125 x) i)) (opening_bracket (sym (eqb-true k 93 y) i))) ∙ e))) (λ y. eqb-true j 125 x ∙ sym (eqb-true k 125 y)) (or_cases (eqb k 93) (eqb k 125) b))
    (or_cases (eqb j 93) (eqb j 125) a)

-- the byte in front of a collection is a bracket
opens_list : (t : List ℕ) → begins_content true t ≡ false → begins_with 91 t ≡ false
opens_list t h = (or_parts (begins_with 91 t) _ (or_parts (begins_with 42 t) _ h).1).0

opens_map : (t : List ℕ) → begins_content true t ≡ false → begins_with 123 t ≡ false
opens_map t h = (or_parts (begins_with 123 t) (begins_scalar true t) (or_parts (begins_with 91 t) _ (or_parts (begins_with 42 t) _ h).1).1).0

opens_scalar : (t : List ℕ) → begins_content true t ≡ false → begins_scalar true t ≡ false
opens_scalar t h = (or_parts (begins_with 123 t) (begins_scalar true t) (or_parts (begins_with 91 t) _ (or_parts (begins_with 42 t) _ h).1).1).1

-- a bracket that opens is one of two
bracket_of : (k : ℕ) (P : ℕ → Type 0) → is_close k ≡ true → P 91 → P 123 → P (opening_bracket k)
bracket_of k P close a b = ⊎_elim
    (λ x. subst (λ j. P (opening_bracket j)) (sym (eqb-true k 93 x)) a)
    (λ x. subst (λ j. P (opening_bracket j)) (sym (eqb-true k 125 x)) b)
    (or_cases (eqb k 93) (eqb k 125) close)

-- the keys in a collection
each_unique : (k : ℕ) (cs : Children) → has_unique_keys (tree_collection k cs) ≡ true → each_has_unique_keys cs ≡ true
each_unique k cs h = go (eqb k 125) h where
  go : (b : Bool) → has_unique_keys (cond b (tree.map None cs) (tree.list None cs)) ≡ true → each_has_unique_keys cs ≡ true
  go true e = (and_parts (are_distinct (keys_of cs)) (each_has_unique_keys cs) e).1
  go false e = e

coll_inside : (total d k : ℕ) (t g : List ℕ) (is : Items) (rest : List ℕ) → is_close k ≡ true → t ≡ node_text (coll k g is) rest →
    IsFlowNode true (Some 0) d (coll k g is) rest → borrows_items is ≡ true → each_has_unique_keys (items_tree is) ≡ true → Inside total d k t
unfolding node_text IsFlowNode locate
coll_inside total zero k t g is rest close is_located valid borrows unique = absurd valid.2
coll_inside total (suc e) k t g is rest close is_located valid borrows unique =
    let u : List ℕ = flow_items_text k is rest in
    let less : e ≡ suc e - 1 = omega arith in
    let are = items_borrowed e k u close (record { items = is; rest = rest; are_there = refl; valid = valid.2; borrowed = borrows; unique = unique }) in
    let located = items_located total e k u is rest close refl valid.2 in
    let shown = front_located total (suc e) t (coll k g is) rest is_located valid in
    let by = holder_tree k (total - length (node_text (coll k g is) rest)) (total - length (node_text (coll k g is) rest)) (total - length rest) (locate_items total k is rest) in
    let here : leading_items total (suc e - 1) k u ≡ locate_items total k is rest = ap (λ n. leading_items total n k u) (sym less) ∙ located in
    record {
      room = omega arith;
      gap = g;
      items = u;
      read = ap (λ v. read_gap (drop 1 v)) is_located ∙ gap_again g u valid.1;
      borrowed = subst (λ n. are_borrowed n k u ≡ true) less are;
      tree = ap placed_tree shown ∙ (by.0 ∙ ap (λ parts. tree_collection k (parts_tree parts)) (sym here));
      parts = ap parts_of shown ∙ (by.1 ∙ sym here);
    }

inside_of : (total d k : ℕ) (t : List ℕ) (node : FlowNode) (rest : List ℕ) → is_close k ≡ true → begins_with (opening_bracket k) t ≡ true →
    t ≡ node_text node rest → IsFlowNode true (Some 0) d node rest → borrows_node node ≡ true → has_unique_keys (tree_of node) ≡ true →
    Inside total d k t
unfolding node_text IsFlowNode tree_of
inside_of total d k t empty rest close opens is_located valid borrows unique =
    absurd (bracket_of k (λ b. begins_with b t ≡ true → ⊥) close
    (λ e. false≢true (sym (ap (begins_with 91) is_located ∙ opens_list rest valid.0) ∙ e))
    (λ e. false≢true (sym (ap (begins_with 123) is_located ∙ opens_map rest valid.0) ∙ e)) opens)
inside_of total d k t (alias n) rest close opens is_located valid borrows unique = absurd (false≢true borrows)
inside_of total d k t (scalar p) rest close opens is_located valid borrows unique =
    let begins = scalar_begins true (Some 0) p rest valid in
    absurd (bracket_of k (λ b. begins_with b t ≡ true → ⊥) close
    (λ e. false≢true (sym (ap (begins_with 91) is_located ∙ no_list true (p ++ rest) begins) ∙ e))
    (λ e. false≢true (sym (ap (begins_with 123) is_located ∙ no_map true (p ++ rest) begins) ∙ e)) opens)
inside_of total d k t (coll j g is) rest close opens is_located valid borrows unique =
    let same : j ≡ k = same_bracket j k valid.0 close (sym (ap (begins_with (opening_bracket k)) is_located) ∙ opens) in
    coll_inside total d k t g is rest close (subst (λ m. t ≡ node_text (coll m g is) rest) same is_located) (subst (λ m. IsFlowNode true (Some 0) d (coll m g is) rest) same valid) borrows (each_unique j (items_tree is) unique)
inside_of total d k t (anchored n g node) rest close opens is_located valid borrows unique = absurd (false≢true borrows)

pub inside : (total d k : ℕ) (t : List ℕ) → is_close k ≡ true → begins_with (opening_bracket k) t ≡ true → is_borrowed d t ≡ true → Inside total d k t
inside total d k t close opens borrowed = let x = borrowed_node d t borrowed in inside_of total d k t x.node x.rest close opens x.is_located x.valid x.borrowed x.unique

-- the same after the gap that the code has read
pub record InsideAt (total d k : ℕ) (t r : List ℕ) : Type 0 where
  pub borrowed : are_borrowed (d - 1) k r ≡ true
  pub tree : placed_tree (leading_node total d t) ≡ tree_collection k (parts_tree (leading_items total (d - 1) k r))
  pub parts : parts_of (leading_node total d t) ≡ leading_items total (d - 1) k r

pub inside_found : (total d k : ℕ) (t u g r : List ℕ) → is_close k ≡ true → begins_with (opening_bracket k) t ≡ true → is_borrowed d t ≡ true → u ≡ drop 1 t → read_gap u ≡ Some (g, r) → InsideAt total d k t r
inside_found total d k t u g r close opens borrowed is read =
    let x = inside total d k t close opens borrowed in
    let same : x.items ≡ r = ap (λ (y : List ℕ × List ℕ). y.1) (same_Some _ _ (sym x.read ∙ (ap read_gap (sym is) ∙ read))) in
    record {
      borrowed = subst (λ v. are_borrowed (d - 1) k v ≡ true) same x.borrowed;
      tree = x.tree ∙ ap (λ v. tree_collection k (parts_tree (leading_items total (d - 1) k v))) same;
      parts = x.parts ∙ ap (leading_items total (d - 1) k) same;
    }

pub gap_found : (total d k : ℕ) (t u : List ℕ) → is_close k ≡ true → begins_with (opening_bracket k) t ≡ true → is_borrowed d t ≡ true → u ≡ drop 1 t → read_gap u ≡ None → ⊥
gap_found total d k t u close opens borrowed is unread =
    let x = inside total d k t close opens borrowed in
    let some : Some (x.gap, x.items) ≡ None = sym x.read ∙ (ap read_gap (sym is) ∙ unread) in
    cc

-- a scalar in front
pub record ScalarFront (total d : ℕ) (t : List ℕ) : Type 0 where
  pub piece : List ℕ
  pub rest : List ℕ
  pub read : read_scalar true (Some 0) t ≡ Some (piece, rest)
  pub borrows : borrows_text piece ≡ true
  pub tree : placed_tree (leading_node total d t) ≡ scalar_node (scalar_of piece)
  pub parts : parts_of (leading_node total d t) ≡ end

opened : (j : ℕ) (t : List ℕ) → is_close j ≡ true → begins_with (opening_bracket j) t ≡ true → begins_with 91 t ≡ false → begins_with 123 t ≡ false → ⊥
opened j t close opens a b = bracket_of j (λ m. begins_with m t ≡ true → ⊥) close (λ e. false≢true (sym a ∙ e)) (λ e. false≢true (sym b ∙ e)) opens

scalar_of_front : (total d : ℕ) (t : List ℕ) (node : FlowNode) (rest : List ℕ) → begins_with 91 t ≡ false → begins_with 123 t ≡ false →
    begins_scalar true t ≡ true → t ≡ node_text node rest → IsFlowNode true (Some 0) d node rest → borrows_node node ≡ true → ScalarFront total d t
unfolding node_text IsFlowNode locate
scalar_of_front total d t empty rest a b c is_located valid borrows = absurd (false≢true (sym (ap (begins_scalar true) is_located ∙ opens_scalar rest valid.0) ∙ c))
scalar_of_front total d t (alias n) rest a b c is_located valid borrows = absurd (false≢true borrows)
scalar_of_front total d t (scalar p) rest a b c is_located valid borrows =
    let shown = front_located total d t (scalar p) rest is_located valid in
    record {
      piece = p;
      rest = rest;
      read = ap (read_scalar true (Some 0)) is_located ∙ scalar_again true (Some 0) p rest valid;
      borrows = borrows;
      tree = ap placed_tree shown;
      parts = ap parts_of shown;
    }
scalar_of_front total d t (coll j g is) rest a b c is_located valid borrows = absurd (opened j t valid.0 (ap (begins_with (opening_bracket j)) is_located ∙ eq-eqb (opening_bracket j) (opening_bracket j) refl) a b)
scalar_of_front total d t (anchored n g node) rest a b c is_located valid borrows = absurd (false≢true borrows)

pub scalar_front : (total d : ℕ) (t : List ℕ) → is_borrowed d t ≡ true → begins_with 91 t ≡ false → begins_with 123 t ≡ false → begins_scalar true t ≡ true → ScalarFront total d t
scalar_front total d t borrowed a b c = let x = borrowed_node d t borrowed in scalar_of_front total d t x.node x.rest a b c x.is_located x.valid x.borrowed

-- nothing in front
nothing_of_front : (total d : ℕ) (t : List ℕ) (node : FlowNode) (rest : List ℕ) → begins_with 91 t ≡ false → begins_with 123 t ≡ false →
    begins_scalar true t ≡ false → t ≡ node_text node rest → IsFlowNode true (Some 0) d node rest → borrows_node node ≡ true →
    (placed_tree (leading_node total d t) ≡ scalar_node null) × (parts_of (leading_node total d t) ≡ end)
unfolding node_text IsFlowNode locate
nothing_of_front total d t empty rest a b c is_located valid borrows = let shown = front_located total d t empty rest is_located valid in (ap placed_tree shown, ap parts_of shown)
nothing_of_front total d t (alias n) rest a b c is_located valid borrows = absurd (false≢true borrows)
nothing_of_front total d t (scalar p) rest a b c is_located valid borrows = absurd (false≢true (sym c ∙ (ap (begins_scalar true) is_located ∙ scalar_begins true (Some 0) p rest valid)))
nothing_of_front total d t (coll j g is) rest a b c is_located valid borrows = absurd (opened j t valid.0 (ap (begins_with (opening_bracket j)) is_located ∙ eq-eqb (opening_bracket j) (opening_bracket j) refl) a b)
nothing_of_front total d t (anchored n g node) rest a b c is_located valid borrows = absurd (false≢true borrows)

pub nothing_front : (total d : ℕ) (t : List ℕ) → is_borrowed d t ≡ true → begins_with 91 t ≡ false → begins_with 123 t ≡ false →
    begins_scalar true t ≡ false → (placed_tree (leading_node total d t) ≡ scalar_node null) × (parts_of (leading_node total d t) ≡ end)
nothing_front total d t borrowed a b c = let x = borrowed_node d t borrowed in nothing_of_front total d t x.node x.rest a b c x.is_located x.valid x.borrowed

-- where a node begins and ends
pub record Ends (total d : ℕ) (t : List ℕ) : Type 0 where
  pub rest : List ℕ
  pub passed : past_node (all_node true (Some 0) d t) ≡ Some rest
  pub start : start_of (leading_node total d t) ≡ total - length t
  pub end : end_of (leading_node total d t) ≡ total - length rest
  pub content : content_place (leading_node total d t) ≡ cond (begins_content true t) (Some (total - length t, total - length rest)) None

holder_place : (k : ℕ) (s c e : ℕ) (parts : Parts) → content_place (placed None s c e (holder k parts)) ≡ Some (c, e)
holder_place k s c e parts = go (eqb k 125) where
  go : (b : Bool) → content_place (placed None s c e (cond b (mapping parts) (sequence parts))) ≡ Some (c, e)
  go true = refl
  go false = refl

-- a content is in front of a scalar and of a bracket
scalar_content : (t : List ℕ) → begins_scalar true t ≡ true → begins_content true t ≡ true
scalar_content t h = go (begins_with 42 t) (begins_with 91 t) (begins_with 123 t) h where
  go : (a b c : Bool) {x : Bool} → x ≡ true → (a || (b || (c || x))) ≡ true
  go true b c e = refl
  go false true c e = refl
  go false false true e = refl
  go false false false e = e

ends_of : (total d : ℕ) (t : List ℕ) (node : FlowNode) (rest : List ℕ) → t ≡ node_text node rest → IsFlowNode true (Some 0) d node rest → borrows_node node ≡ true → Ends total d t
unfolding node_text IsFlowNode locate
ends_of total d t empty rest is_located valid borrows =
    let shown = front_located total d t empty rest is_located valid in
    record {
      rest = rest;
      passed = ap (λ v. past_node (all_node true (Some 0) d v)) is_located ∙ ap past_node (all_again true (Some 0) d empty rest valid);
      start = ap start_of shown ∙ ap (λ (v : List ℕ). total - length v) (sym is_located);
      end = ap end_of shown;
      content = ap content_place shown ∙ sym (ap (λ b. cond b (Some (total - length t, total - length rest)) None) (ap (begins_content true) is_located ∙ valid.0));
    }
ends_of total d t (alias n) rest is_located valid borrows = absurd (false≢true borrows)
ends_of total d t (scalar p) rest is_located valid borrows =
    let shown = front_located total d t (scalar p) rest is_located valid in
    let some : begins_content true t ≡ true = scalar_content t (ap (begins_scalar true) is_located ∙ scalar_begins true (Some 0) p rest valid) in
    record {
      rest = rest;
      passed = ap (λ v. past_node (all_node true (Some 0) d v)) is_located ∙ ap past_node (all_again true (Some 0) d (scalar p) rest valid);
      start = ap start_of shown ∙ ap (λ (v : List ℕ). total - length v) (sym is_located);
      end = ap end_of shown;
      content = ap content_place shown ∙ (ap (λ (v : List ℕ). Some (total - length v, total - length rest)) (sym is_located) ∙ sym (ap (λ b. cond b (Some (total - length t, total - length rest)) None) some));
    }
ends_of total d t (coll k g is) rest is_located valid borrows =
    let shown = front_located total d t (coll k g is) rest is_located valid in
    let whole : ℕ = total - length (node_text (coll k g is) rest) in
    let some : begins_content true t ≡ true = bracket_content k t valid.0 (ap (begins_with (opening_bracket k)) is_located ∙ eq-eqb (opening_bracket k) (opening_bracket k) refl) in
    record {
      rest = rest;
      passed = ap (λ v. past_node (all_node true (Some 0) d v)) is_located ∙ ap past_node (all_again true (Some 0) d (coll k g is) rest valid);
      start = ap start_of shown ∙ ap (λ (v : List ℕ). total - length v) (sym is_located);
      end = ap end_of shown;
      content = ap content_place shown
          ∙ (holder_place k whole whole (total - length rest) (locate_items total k is rest)
          ∙ (ap (λ (v : List ℕ). Some (total - length v, total - length rest)) (sym is_located)
          ∙ sym (ap (λ b. cond b (Some (total - length t, total - length rest)) None) some)));
    }
  where
    go : (a b c : Bool) → b ≡ true → (a || (b || c)) ≡ true
    go true b c e = refl
    go false b c e = rw e refl

    both : (a b : Bool) → (a || (b || true)) ≡ true
    both true b = refl
    both false true = refl
    both false false = refl

    bracket_content : (k : ℕ) (u : List ℕ) → is_close k ≡ true → begins_with (opening_bracket k) u ≡ true → begins_content true u ≡ true
    bracket_content k u close = bracket_of k (λ b. begins_with b u ≡ true → begins_content true u ≡ true) close
        (λ e. rw e (go (begins_with 42 u) true (begins_with 123 u || begins_scalar true u) refl))
        (λ e. rw e (both (begins_with 42 u) (begins_with 91 u)))
ends_of total d t (anchored n g node) rest is_located valid borrows = absurd (false≢true borrows)

pub ends : (total d : ℕ) (t : List ℕ) → is_borrowed d t ≡ true → Ends total d t
ends total d t borrowed = let x = borrowed_node d t borrowed in ends_of total d t x.node x.rest x.is_located x.valid x.borrowed
