-- The nodes and collections to which steps lead in the node in front of a text.
use Rattle.std.proofs.Common.{◌≡◌, ℕ, Bool, true, false, cond, List, [], ◌∷◌, ◌++◌, length, Option, Some, None, option_and_then, option_map}
use Rattle.std.{proofs.Common.{refl, sym, ap, ◌∙◌}, proofs.lemmas.Option.same_Some, specs.Prelude.{◌==◌, is_some}}
use Rattle.yq_core.{specs.Answers.◌>>=◌, specs.Collections.{CollPieces, coll_along, coll_in}, proofs.Bools.bind_some}
use Rattle.yq_core.specs.Entries.{EntryPieces, entry_pieces_at, item_at, path_inside}
use Rattle.yq_core.specs.Nodes.{FlowNode, Items, anchored, flow_items_text, item, node_text, none, sep_text}
use Rattle.yq_core.{specs.Paths.{Step, further, is_here}, specs.Places.{Placed, locate}, specs.PlacedReading.placed_node}
use Rattle.yq_core.{specs.Reading.all_node, specs.Tree.key_label, specs.Trees.key_content, proofs.NodeLaws.all_takes}
use Rattle.yq_inline.{specs.Along.{all_in, as_item, located_along, located_from, node_and_rest, one_in}, specs.Measured.closing_byte}
use Rattle.yq_inline.specs.declared.before_offset.LeadingParts.{LeadingParts}
use Rattle.yq_inline.specs.Neighbours.{IsCollectionOf, IsStepPart, IsPassed, PartTexts, PartsAround, around_part, coll_around, coll_end}
use Rattle.yq_inline.specs.Neighbours.{coll_read, first_ends, first_read, first_text, from_read, last_ends, last_read, rest_from}
use Rattle.yq_inline.{specs.Neighbours.{passed_view, past_last, past_passed}, specs.declared.passing.FoundPart.FoundPart}
use Rattle.yq_inline.{specs.declared.passing.PassedPart.PassedPart, proofs.FirstParts.following_is}
use denote.Bor.{Bor}

-- ---- steps

pub none_in : (ss : List Step) → all_in ss None ≡ None
none_in [] = refl
none_in (s ∷ ss) = none_in ss

pub one_more : (ss : List Step) (s : Step) (o : Option (FlowNode × List ℕ)) → all_in (ss ++ (s ∷ [])) o ≡ one_in s (all_in ss o)
one_more [] s o = refl
one_more (t ∷ ss) s o = one_more ss s (one_in t o)

same_pieces : (ss : List Step) (y : EntryPieces) → option_map located_from (entry_pieces_at ss y) ≡ option_map located_from (entry_pieces_at ss (as_item (node_and_rest y)))
same_pieces [] y = refl
same_pieces (s ∷ ss) y = refl

pub located_in : (ss : List Step) (o : Option (FlowNode × List ℕ)) → located_along ss o ≡ located_along [] (all_in ss o)
located_in [] o = refl
located_in (s ∷ ss) None = located_in ss None
located_in (s ∷ ss) (Some x) = go (path_inside s x.0 x.1) (located_in ss) where
  go : (o : Option EntryPieces) → ((z : Option (FlowNode × List ℕ)) → located_along ss z ≡ located_along [] (all_in ss z)) →
      option_map located_from (option_and_then (entry_pieces_at ss) o) ≡ located_along [] (all_in ss (option_map node_and_rest o))
  go None again = again None
  go (Some y) again = same_pieces ss y ∙ again (Some (node_and_rest y))

pub collection_in : (ss : List Step) (o : Option (FlowNode × List ℕ)) → coll_read ss o ≡ coll_read [] (all_in ss o)
collection_in [] o = refl
collection_in (s ∷ ss) None = collection_in ss None
collection_in (s ∷ ss) (Some x) = go (path_inside s x.0 x.1) (collection_in ss) where
  go : (o : Option EntryPieces) → ((z : Option (FlowNode × List ℕ)) → coll_read ss z ≡ coll_read [] (all_in ss z)) →
      option_and_then (λ (y : EntryPieces). coll_along ss y.node y.rest) o ≡ coll_read [] (all_in ss (option_map node_and_rest o))
  go None again = again None
  go (Some y) again = again (Some (node_and_rest y))

-- ---- the node itself

pub front_found : (flow : Bool) (spaces : Option ℕ) (d : ℕ) (t : List ℕ) (p : Placed) (r : List ℕ) → placed_node flow spaces (length t) d t ≡ Some (p, r) → Some (t, p) ≡ located_along [] (all_node flow spaces d t)
front_found flow spaces d t p r read =
    let x = bind_some (all_node flow spaces d t) read in
    let text = (all_takes flow spaces d t x.0 x.1).0 in
    let is = ap (λ (y : Placed × List ℕ). y.0) (same_Some _ _ x.2) in
    (λ i. Some (text i, sym is i)) ∙ ((λ i. Some (node_text x.0.0 x.0.1, locate (length (text i)) x.0.0 x.0.1)) ∙ ap (located_along []) (sym x.1))

-- ---- the item or entry to which a step leads, by those from it on

-- it, and what is next to it
abbrev item_of : ℕ → Items → List ℕ → Option EntryPieces
item_of k none rest = None
item_of k (item key n sep is) rest = Some (record { key = key; node = n; rest = sep_text sep (flow_items_text k is rest) })

abbrev around_of : ℕ → Option PartTexts → Items → List ℕ → Option PartsAround
around_of k o none rest = None
around_of k o (item key n sep is) rest = Some (record { before = o; here = first_ends k key n sep is rest; next = first_text k is rest })

abbrev first_item : ℕ → Option PartTexts × Items × List ℕ → Option EntryPieces
first_item k x = item_of k x.1 x.2

abbrev first_around : ℕ → Option PartTexts × Items × List ℕ → Option PartsAround
first_around k x = around_of k x.0 x.1 x.2

item_from : (k : ℕ) (s : Step) (o : Option PartTexts) (is : Items) (rest : List ℕ) → item_at k s is rest ≡ (rest_from k s o is rest >>= first_item k)
item_from k s o none rest = refl
item_from k s o (item key n sep is) rest =
    go (is_here s (key_label (key_content key))) (rest_from k (further s) (Some (first_ends k key n sep is rest)) is rest) (item_from k (further s) (Some (first_ends k key n sep is rest)) is rest)
  where
    go : (b : Bool) (l : Option (Option PartTexts × Items × List ℕ)) → item_at k (further s) is rest ≡ (l >>= first_item k) →
        cond b (Some (record { key = key; node = n; rest = sep_text sep (flow_items_text k is rest) })) (item_at k (further s) is rest) ≡ (cond b (Some (o, item key n sep is, rest)) l >>= first_item k)
    go true l again = refl
    go false l again = again

around_from : (k : ℕ) (s : Step) (o : Option PartTexts) (is : Items) (rest : List ℕ) → around_part k s o is rest ≡ (rest_from k s o is rest >>= first_around k)
around_from k s o none rest = refl
around_from k s o (item key n sep is) rest =
    go (is_here s (key_label (key_content key))) (rest_from k (further s) (Some (first_ends k key n sep is rest)) is rest) (around_from k (further s) (Some (first_ends k key n sep is rest)) is rest)
  where
    go : (b : Bool) (l : Option (Option PartTexts × Items × List ℕ)) → around_part k (further s) (Some (first_ends k key n sep is rest)) is rest ≡ (l >>= first_around k) →
        cond b (Some (record { before = o; here = first_ends k key n sep is rest; next = first_text k is rest })) (around_part k (further s) (Some (first_ends k key n sep is rest)) is rest) ≡
        (cond b (Some (o, item key n sep is, rest)) l >>= first_around k)
    go true l again = refl
    go false l again = again

-- the items or entries of a node are those of its collection
in_coll : (s : Step) (node : FlowNode) (rest : List ℕ) → path_inside s node rest ≡ (coll_in node rest >>= λ w. item_at w.close s w.items w.rest)
in_coll s (anchored n g node) rest = in_coll s node rest
in_coll s _ rest = refl

pub no_coll : (s : Step) (o : Option (FlowNode × List ℕ)) → coll_read [] o ≡ None → one_in s o ≡ None
no_coll s None absent = refl
no_coll s (Some x) absent = ap (option_map node_and_rest) (in_coll s x.0 x.1 ∙ ap (λ (c : Option CollPieces). c >>= λ w. item_at w.close s w.items w.rest) absent)

-- A collection is found in one that was read.
module _ (s : Step) (w : CollPieces) (x : Bor (List ℕ) × LeadingParts) (h : IsCollectionOf w x) where
  abbrev k : ℕ
  k = closing_byte x.1.keyed

  around_is : coll_around s w ≡ (from_read s None x.1 >>= first_around k)
  around_is = ap (λ (j : ℕ). around_part j s None w.items w.rest) h.close ∙ (around_from k s None w.items w.rest ∙ ap (λ (o : Option (Items × List ℕ)). (o >>= λ y. rest_from k s None y.0 y.1) >>= first_around k) (sym h.read))

  item_is : item_at w.close s w.items w.rest ≡ (from_read s None x.1 >>= first_item k)
  item_is = ap (λ (j : ℕ). item_at j s w.items w.rest) h.close ∙ (item_from k s None w.items w.rest ∙ ap (λ (o : Option (Items × List ℕ)). (o >>= λ y. rest_from k s None y.0 y.1) >>= first_item k) (sym h.read))

  pub no_around : from_read s None x.1 ≡ None → coll_around s w ≡ None
  no_around absent = around_is ∙ ap (λ o. o >>= first_around k) absent

  node_is : (o : Option (FlowNode × List ℕ)) → coll_read [] o ≡ Some w → one_in s o ≡ option_map node_and_rest (from_read s None x.1 >>= first_item k)
  node_is None e = cc
  node_is (Some y) e = ap (option_map node_and_rest) (in_coll s y.0 y.1 ∙ (ap (λ (c : Option CollPieces). c >>= λ w. item_at w.close s w.items w.rest) e ∙ item_is))

  pub no_node : (o : Option (FlowNode × List ℕ)) → coll_read [] o ≡ Some w → from_read s None x.1 ≡ None → one_in s o ≡ None
  no_node o there absent = node_is o there ∙ ap (λ c. option_map node_and_rest (c >>= first_item k)) absent

  module _ (y : FoundPart) (f : IsStepPart s x.1 y) where
    pub node_found : (o : Option (FlowNode × List ℕ)) → coll_read [] o ≡ Some w → all_node true (Some 0) y.parts.depth y.node.now ≡ one_in s o
    node_found o there =
        f.first.read
        ∙ ((λ i. Some (f.first.node, (following_is y.parts y.node.now f.first ∙ ap (λ (b : Bool). sep_text f.first.sep (flow_items_text (closing_byte b) f.first.items f.first.rest)) f.keyed) i))
        ∙ sym (node_is o there ∙ ap (λ c. option_map node_and_rest (c >>= first_item k)) f.found))

    -- what is next to it
    pub around_found : (z : PassedPart × LeadingParts) → IsPassed y.parts y.node.now f.first z → (next : Option (List ℕ)) → next ≡ first_read z.1 →
        Some (record { before = option_map passed_view y.before; here = passed_view z.0; next = next }) ≡ coll_around s w
    around_found z p next is =
        let from : from_read s None x.1 ≡ Some (option_map passed_view y.before, item f.first.key f.first.node f.first.sep f.first.items, f.first.rest) = f.found in
        let others : first_read z.1 ≡ first_text k f.first.items f.first.rest =
        ap (λ (o : Option (Items × List ℕ)). o >>= λ v. first_text (closing_byte z.1.keyed) v.0 v.1) p.others ∙ ap (λ (b : Bool). first_text (closing_byte b) f.first.items f.first.rest) (p.keyed ∙ f.keyed) in
        let here = p.ends ∙ ap (λ (b : Bool). first_ends (closing_byte b) f.first.key f.first.node f.first.sep f.first.items f.first.rest) f.keyed in
        (λ i. Some (record { before = option_map passed_view y.before; here = here i; next = (is ∙ others) i })) ∙ sym (around_is ∙ ap (λ c. c >>= first_around k) from)

-- ---- the end of a collection

closing_keyed : (b : Bool) → (closing_byte b == 125) ≡ b
closing_keyed true = refl
closing_keyed false = refl

some_last : (k : ℕ) (e : PartTexts) (is : Items) (rest : List ℕ) → last_ends k (Some e) is rest ≡ None → ⊥
some_last k e none rest absent = cc
some_last k e (item key n sep is) rest absent = some_last k (first_ends k key n sep is rest) is rest absent

none_last : (k : ℕ) (is : Items) (rest : List ℕ) → last_ends k None is rest ≡ None → flow_items_text k is rest ≡ k ∷ rest
unfolding flow_items_text
none_last k none rest absent = refl
none_last k (item key n sep is) rest absent = absurd (some_last k (first_ends k key n sep is rest) is rest absent)

module _ (w : CollPieces) (x : Bor (List ℕ) × LeadingParts) (h : IsCollectionOf w x) where
  last_is : (o : Option PassedPart) → option_map passed_view o ≡ last_read None x.1 → last_ends w.close None w.items w.rest ≡ option_map passed_view o
  last_is o is =
      ap (λ (k : ℕ). last_ends k None w.items w.rest) h.close
      ∙ (sym (ap (λ (y : Option (Items × List ℕ)). y >>= λ z. last_ends (closing_byte x.1.keyed) None z.0 z.1) h.read) ∙ sym is)

  past_is : (o : Option PassedPart) → last_ends w.close None w.items w.rest ≡ option_map passed_view o → past_passed o x.0.now ≡ past_last w (option_map passed_view o)
  past_is None is = h.inside ∙ ap (λ (l : List ℕ). w.gap ++ l) (none_last w.close w.items w.rest is)
  past_is (Some p) is = refl

  some_is : (o : Option PassedPart) → is_some o ≡ is_some (option_map passed_view o)
  some_is None = refl
  some_is (Some p) = refl

  pub end_is : (o : Option PassedPart) → option_map passed_view o ≡ last_read None x.1 → (x.1.keyed, is_some o, past_passed o x.0.now) ≡ coll_end w
  end_is o is =
      let last = last_is o is in
      (λ i. (sym (closing_keyed x.1.keyed) i, some_is o i, past_is o last i))
      ∙ (λ i. (sym h.close i == 125, is_some (sym last i), past_last w (sym last i)))
