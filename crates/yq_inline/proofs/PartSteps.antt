-- The first item or entry of those that a text lends, as the code takes it.
use Rattle.std.proofs.Common.{◌≡◌, ℕ, zero, suc, ◌-◌, ◌<◌, ◌≤◌, Bool, true, false, not, ◌&&◌, ◌||◌, eqb, List, ◌∷◌, ◌++◌, length, Option}
use Rattle.std.proofs.Common.{Some, None, refl, sym, ap, ◌∙◌, subst, arith, eq-eqb, eqb-true, length-append, option_map, ⊎_elim}
use Rattle.std.{proofs.lemmas.Bool.{false≢true, and_parts, or_cases}, proofs.lemmas.Option.same_Some}
use Rattle.yq_core.{specs.Answers.◌>>=◌, specs.declared.piece.Piece.Piece}
use Rattle.yq_core.specs.Nodes.{Key, bare, keyed, Sep, FlowNode, Items, none, item, key_text, sep_text, node_text, flow_items_text}
use Rattle.yq_core.specs.Nodes.{begins_with, IsInlineKey, IsSep, is_keyed, is_empty_node, is_close, IsFlowNode, AreFlowItems}
use Rattle.yq_core.specs.Places.{Placed, Parts, part, key_placed, key_here, locate, locate_items, end}
use Rattle.yq_core.{specs.PlacedReading.{key_piece, past_sep, split_key, placed_node}, specs.Reading.{all_node, read_flow_key}}
use Rattle.yq_core.{specs.Keys.{has_unique_keys, each_has_unique_keys}, specs.Trees.{tree_of, items_tree, unplaced_key}}
use Rattle.yq_core.specs.Borrowed.{borrows_text, borrows_key, borrows_node, borrows_items, is_borrowed, are_borrowed, leading_node}
use Rattle.yq_core.{specs.Borrowed.{leading_items, located_or_end}, proofs.NodesPieceLaws.sep_again}
use Rattle.yq_core.{proofs.NodeLaws.{all_again, items_done}, proofs.NodeTakes.key_in}
use Rattle.yq_core.proofs.NodeAgain.{key_in_again, item_longer, sep_longer}
use Rattle.yq_core.proofs.BorrowedLaws.{borrowed_items, items_borrowed, items_located, front_located, node_borrowed}
use Rattle.yq_core.{specs.Entries.{entry_start, flow_part_at, start_of}, specs.View.borrowed_view, specs.Paths.{Nth, is_item}}
use Rattle.yq_inline.{specs.BorrowedParts.{IsFirstEntry, borrowed_entry, parts_view}, specs.Measured.{closing_byte, measured, past_node}}
use Rattle.yq_inline.{specs.declared.parts.BorrowedEntry.BorrowedEntry, specs.declared.parts.BorrowedParts.BorrowedParts}

-- the pieces of the first item or entry, of which the text lends each key and scalar
pub record First (d k : ℕ) (t : List ℕ) : Type 0 where
  pub key : Key
  pub node : FlowNode
  pub sep : Sep
  pub items : Items
  pub rest : List ℕ
  pub is_located : t ≡ key_text key (node_text node (sep_text sep (flow_items_text k items rest)))
  pub key_valid : IsInlineKey k key (node_text node (sep_text sep (flow_items_text k items rest)))
  pub some : (is_keyed key || not (is_empty_node node)) ≡ true
  pub valid : IsFlowNode true (Some 0) d node (sep_text sep (flow_items_text k items rest))
  pub sep_valid : IsSep k sep (flow_items_text k items rest)
  pub others : AreFlowItems d k items rest
  pub key_borrows : borrows_key key ≡ true
  pub node_borrows : borrows_node node ≡ true
  pub items_borrow : borrows_items items ≡ true
  pub node_unique : has_unique_keys (tree_of node) ≡ true
  pub items_unique : each_has_unique_keys (items_tree items) ≡ true

first_of : (d k : ℕ) (t : List ℕ) (items : Items) (rest : List ℕ) → begins_with k t ≡ false → t ≡ flow_items_text k items rest →
    AreFlowItems d k items rest → borrows_items items ≡ true → each_has_unique_keys (items_tree items) ≡ true → First d k t
unfolding flow_items_text AreFlowItems items_tree
first_of d k t none rest before is_located valid borrows unique = absurd (false≢true (sym before ∙ (ap (begins_with k) is_located ∙ eq-eqb k k refl)))
first_of d k t (item key n s is) rest before is_located valid borrows unique =
    let b = and_parts (borrows_key key) (borrows_node n && borrows_items is) borrows in
    let c = and_parts (borrows_node n) (borrows_items is) b.1 in
    let u = and_parts (has_unique_keys (tree_of n)) (each_has_unique_keys (items_tree is)) unique in
    record {
      key = key;
      node = n;
      sep = s;
      items = is;
      rest = rest;
      is_located = is_located;
      key_valid = valid.0;
      some = valid.1;
      valid = valid.2;
      sep_valid = valid.3;
      others = valid.4;
      key_borrows = b.0;
      node_borrows = c.0;
      items_borrow = c.1;
      node_unique = u.0;
      items_unique = u.1;
    }

pub first : (d k : ℕ) (t : List ℕ) → begins_with k t ≡ false → are_borrowed d k t ≡ true → First d k t
first d k t before borrowed = let is = borrowed_items d k t borrowed in first_of d k t is.items is.rest before is.are_there is.valid is.borrowed is.unique

not_none : {A : Type 0} {x : A} → Some x ≡ None → ⊥
not_none h = cc

-- a closing bracket is no comma
no_comma : (k : ℕ) → is_close k ≡ true → eqb k 44 ≡ false
no_comma k h = ⊎_elim
    (λ e. let same : k ≡ 93 = eqb-true k 93 e in rw same refl)
    (λ e. let same : k ≡ 125 = eqb-true k 125 e in rw same refl)
    (or_cases (eqb k 93) (eqb k 125) h)

module _ (d k : ℕ) (t : List ℕ) (close : is_close k ≡ true) (x : First d k t) where
  abbrev pub after : List ℕ
  after = flow_items_text k x.items x.rest

  abbrev pub following : List ℕ
  following = sep_text x.sep after

  abbrev pub at : List ℕ
  at = node_text x.node following

  pub key_read : key_in k t ≡ Some (x.key, at)
  key_read = ap (key_in k) x.is_located ∙ key_in_again k x.key at x.key_valid

  pub node_read : past_node (all_node true (Some 0) d at) ≡ Some following
  node_read = ap past_node (all_again true (Some 0) d x.node following x.valid)

  pub sep_read : past_sep k following ≡ Some after
  sep_read = ap (λ o. o >>= λ y. Some y.1) (sep_again k x.sep after (no_comma k close) x.sep_valid)

  pub node_there : is_borrowed d at ≡ true
  node_there = node_borrowed d at (record { node = x.node; rest = following; is_located = refl; valid = x.valid; borrowed = x.node_borrows; unique = x.node_unique })

  pub items_there : are_borrowed d k after ≡ true
  items_there = items_borrowed d k after close (record { items = x.items; rest = x.rest; are_there = refl; valid = x.others; borrowed = x.items_borrow; unique = x.items_unique })

  pub shorter : length after < length t
  shorter = omega (arith, ap length x.is_located, sep_longer x.sep after, item_longer true (Some 0) d x.key x.node following x.some x.valid)

  pub shown : (total : ℕ) → leading_items total d k t ≡ part (key_placed total t x.key) (leading_node total d at) (leading_items total d k after)
  unfolding flow_items_text AreFlowItems locate_items
  shown total =
      items_located total d k t (item x.key x.node x.sep x.items) x.rest close x.is_located (x.key_valid, x.some, x.valid, x.sep_valid, x.others)
      ∙ (λ i. part (key_placed total (sym x.is_located i) x.key) (sym (front_located total d at x.node following refl x.valid) i) (sym (items_located total d k after x.items x.rest close refl x.others) i))

-- where the first item or entry was read, its node is one that the text lends
pub node_found : (d k : ℕ) (t : List ℕ) → is_close k ≡ true → begins_with k t ≡ false → are_borrowed d k t ≡ true → (key : Key) (u : List ℕ) → key_in k t ≡ Some (key, u) → is_borrowed d u ≡ true
node_found d k t close before borrowed key u read =
    let x = first d k t before borrowed in
    let same = same_Some _ _ (sym (key_read d k t close x) ∙ read) in
    subst (λ r. is_borrowed d r ≡ true) (ap (λ (y : Key × List ℕ). y.1) same) (node_there d k t close x)

-- what follows it was passed
pub sep_found : (d k : ℕ) (t : List ℕ) → is_close k ≡ true → begins_with k t ≡ false → are_borrowed d k t ≡ true → (key : Key) (u r : List ℕ) →
    key_in k t ≡ Some (key, u) → past_node (all_node true (Some 0) d u) ≡ Some r → past_sep k r ≡ None → ⊥
sep_found d k t close before borrowed key u r read passed missing =
    let x = first d k t before borrowed in
    let same = same_Some _ _ (sym (key_read d k t close x) ∙ read) in
    let node = ap (λ (y : Key × List ℕ). past_node (all_node true (Some 0) d y.1)) same in
    let rest : following d k t close x ≡ r = same_Some _ _ (sym (node_read d k t close x) ∙ (node ∙ passed)) in
    let some : Some (after d k t close x) ≡ None = sym (sep_read d k t close x) ∙ (ap (past_sep k) rest ∙ missing) in
    cc

-- the items or entries after it are those that are left
pub record Left (total d k : ℕ) (t : List ℕ) (key : Key) (u s : List ℕ) : Type 0 where
  pub shown : leading_items total d k t ≡ part (key_placed total t key) (leading_node total d u) (leading_items total d k s)
  pub borrowed : are_borrowed d k s ≡ true
  pub shorter : length s < length t

pub left_after : (total d k : ℕ) (t : List ℕ) → is_close k ≡ true → begins_with k t ≡ false → are_borrowed d k t ≡ true →
    (key : Key) (u r s : List ℕ) → key_in k t ≡ Some (key, u) → past_node (all_node true (Some 0) d u) ≡ Some r → past_sep k r ≡ Some s →
    Left total d k t key u s
left_after total d k t close before borrowed key u r s read passed sep =
    let x = first d k t before borrowed in
    let same = same_Some _ _ (sym (key_read d k t close x) ∙ read) in
    let key_is : x.key ≡ key = ap (λ (y : Key × List ℕ). y.0) same in
    let at_is : at d k t close x ≡ u = ap (λ (y : Key × List ℕ). y.1) same in
    let rest : following d k t close x ≡ r = same_Some _ _ (sym (node_read d k t close x) ∙ (ap (λ v. past_node (all_node true (Some 0) d v)) at_is ∙ passed)) in
    let after_is : after d k t close x ≡ s = same_Some _ _ (sym (sep_read d k t close x) ∙ (ap (past_sep k) rest ∙ sep)) in
    record {
      shown = shown d k t close x total ∙ (λ i. part (key_placed total t (key_is i)) (leading_node total d (at_is i)) (leading_items total d k (after_is i)));
      borrowed = subst (λ v. are_borrowed d k v ≡ true) after_is (items_there d k t close x);
      shorter = subst (λ (v : List ℕ). length v < length t) after_is (shorter d k t close x);
    }

-- an entry has a key
pub record HasKey (t p u : List ℕ) : Type 0 where
  pub key : Key
  pub read : read_flow_key t ≡ Some (key, u)
  pub piece : (total : ℕ) → Some (key_here total t p) ≡ key_placed total t key
  pub borrows : borrows_text p ≡ true
  pub within : length p ≤ length t

-- a key, as its piece
record KeyPiece (key : Key) (rest : List ℕ) : Type 0 where
  pub borrows : borrows_text (key_piece key) ≡ true
  pub piece : (total : ℕ) (t : List ℕ) → Some (key_here total t (key_piece key)) ≡ key_placed total t key
  pub within : length (key_piece key) ≤ length (key_text key rest)

keyed_first : (key : Key) (rest : List ℕ) → IsInlineKey 125 key rest → borrows_key key ≡ true → KeyPiece key rest
keyed_first bare rest valid borrows = absurd (false≢true (sym valid))
keyed_first (keyed p b g) rest valid borrows = record { borrows = borrows; piece = λ total t. refl; within = omega (arith, length-append p (b ++ (58 ∷ (g ++ rest)))) }

pub key_there : (d : ℕ) (t : List ℕ) → begins_with 125 t ≡ false → are_borrowed d 125 t ≡ true → split_key t ≡ None → ⊥
key_there d t before borrowed missing =
    let x = first d 125 t before borrowed in
    not_none (sym (ap (λ o. o >>= λ y. Some (key_piece y.0, y.1)) (key_read d 125 t refl x)) ∙ missing)

pub key_found : (d : ℕ) (t : List ℕ) → begins_with 125 t ≡ false → are_borrowed d 125 t ≡ true → (p u : List ℕ) → split_key t ≡ Some (p, u) → HasKey t p u
key_found d t before borrowed p u split =
    let x = first d 125 t before borrowed in
    let read = key_read d 125 t refl x in
    let same = same_Some _ _ (sym (ap (λ o. o >>= λ y. Some (key_piece y.0, y.1)) read) ∙ split) in
    let piece_is : key_piece x.key ≡ p = ap (λ (y : List ℕ × List ℕ). y.0) same in
    let rest_is : at d 125 t refl x ≡ u = ap (λ (y : List ℕ × List ℕ). y.1) same in
    let k = keyed_first x.key (at d 125 t refl x) x.key_valid x.key_borrows in
    record {
      key = x.key;
      read = read ∙ ap (λ v. Some (x.key, v)) rest_is;
      piece = λ total. ap (λ v. Some (key_here total t v)) (sym piece_is) ∙ k.piece total t;
      borrows = ap borrows_text (sym piece_is) ∙ k.borrows;
      within = omega (arith, k.within, ap length piece_is, ap length x.is_located);
    }

-- what ends items or entries
pub close_is : (b : Bool) → is_close (closing_byte b) ≡ true
close_is true = refl
close_is false = refl

-- no item or entry is left before the closing bracket
pub none_left : (total d k : ℕ) (t : List ℕ) → begins_with k t ≡ true → leading_items total d k t ≡ end
unfolding leading_items locate_items
none_left total d k t h = ap (located_or_end total k) (items_done d k t h)

-- the first item or entry that the code has, and what is left
pub record PartsLeft (p : BorrowedParts) (e : BorrowedEntry) (s : List ℕ) : Type 0 where
  pub shown : parts_view p ≡ part (borrowed_entry e).0 (borrowed_entry e).1 (leading_items p.total p.depth (closing_byte p.keyed) s)
  pub borrowed : are_borrowed p.depth (closing_byte p.keyed) s ≡ true
  pub shorter : length s < length p.text.now

pub entry_node : (p : BorrowedParts) (e : BorrowedEntry) (r : List ℕ) → IsFirstEntry p e → past_node (all_node true (Some 0) e.node.depth e.node.text.now) ≡ Some r → past_node (all_node true (Some 0) p.depth e.node.text.now) ≡ Some r
entry_node p e r is passed = ap (λ d. past_node (all_node true (Some 0) d e.node.text.now)) (sym is.depth) ∙ passed

pub comma_there : (p : BorrowedParts) (e : BorrowedEntry) (r : List ℕ) (j : ℕ) → begins_with (closing_byte p.keyed) p.text.now ≡ false →
    IsFirstEntry p e → past_node (all_node true (Some 0) e.node.depth e.node.text.now) ≡ Some r → j ≡ closing_byte p.keyed → past_sep j r ≡ None → ⊥
comma_there p e r j before is passed same missing =
    sep_found p.depth (closing_byte p.keyed) p.text.now (close_is p.keyed) before p.borrowed is.key e.node.text.now r is.is_located (entry_node p e r is passed) (ap (λ k. past_sep k r) (sym same) ∙ missing)

pub parts_left : (p : BorrowedParts) (e : BorrowedEntry) (r s : List ℕ) (j : ℕ) → begins_with (closing_byte p.keyed) p.text.now ≡ false →
    IsFirstEntry p e → past_node (all_node true (Some 0) e.node.depth e.node.text.now) ≡ Some r → j ≡ closing_byte p.keyed → past_sep j r ≡ Some s →
    PartsLeft p e s
parts_left p e r s j before is passed same sep =
    let k : ℕ = closing_byte p.keyed in
    let left = left_after p.total p.depth k p.text.now (close_is p.keyed) before p.borrowed is.key e.node.text.now r s is.is_located (entry_node p e r is passed) (ap (λ m. past_sep m r) (sym same) ∙ sep) in
    record {
      shown = left.shown ∙ (λ i. part (sym is.view i) (leading_node (sym is.total i) (sym is.depth i) e.node.text.now) (leading_items p.total p.depth k s));
      borrowed = left.borrowed;
      shorter = left.shorter;
    }

-- the test of the code
pub tested : (j k : ℕ) (t u : List ℕ) (b v : Bool) → j ≡ k → u ≡ t → b ≡ begins_with j u → b ≡ v → begins_with k t ≡ v
tested j k t u b v same text test is = (λ i. begins_with (sym same i) (sym text i)) ∙ (sym test ∙ is)

pub item_further : (i : ℕ) (x : Option (List ℕ × Piece)) (n : Placed) (ps : Parts) → (eqb i 0 && is_item (unplaced_key x)) ≡ false → flow_part_at (Nth i) (part x n ps) ≡ flow_part_at (Nth (i - 1)) ps
item_further zero x n ps h = rw h refl
item_further (suc i) x n ps h = let same : i ≡ suc i - 1 = omega arith in ap (λ j. flow_part_at (Nth j) ps) same

-- a node is in front
pub node_read_here : (d : ℕ) (t r : List ℕ) → past_node (all_node true (Some 0) d t) ≡ Some r → measured (placed_node true (Some 0) 0 d t) ≡ None → ⊥
node_read_here d t r passed missing = go (all_node true (Some 0) d t) passed missing where
  go : (o : Option (FlowNode × List ℕ)) → past_node o ≡ Some r → measured (o >>= λ x. Some (locate 0 x.0 x.1, x.1)) ≡ None → ⊥
  go None p m = cc
  go (Some x) p m = cc

-- an item begins where its node begins
pub item_place : (e : BorrowedEntry) → e.key ≡ None → entry_start (borrowed_entry e) ≡ start_of (borrowed_view e.node)
item_place e is = ap (λ k. entry_start (option_map (λ y. (y.0.now, y.1)) k, borrowed_view e.node)) is
