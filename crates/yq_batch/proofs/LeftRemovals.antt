-- An item or entry taken out of what is left of a collection of a head, by what the code finds.
use Rattle.std.proofs.Common.{◌≡◌, ℕ, suc, ◌+◌, ◌-◌, ◌≤◌, ◌<◌, Bool, true, false, ◌&&◌, eqb, cond, List, [], ◌∷◌, ◌++◌, length, Option}
use Rattle.std.proofs.Common.{Some, None, inl, inr, refl, sym, ap, ◌∙◌, subst, append_assoc, arith, length-append}
use Rattle.std.proofs.lemmas.Bool.{cases_lt}
use Rattle.yq_core.{specs.Paths.Step, specs.PlainText.begins_marker, specs.Alike.fresh, specs.Text.is_feed, specs.Collections.CollPieces}
use Rattle.yq_core.specs.Entries.{end_of, parts_in, parts_of}
use Rattle.yq_core.specs.Places.{Parts, Placed, placed, holder, locate, locate_items, mapping, sequence}
use Rattle.yq_core.specs.Nodes.{FlowNode, Items, Key, Sep, item, flow_items_text, key_text, node_text, opening_bracket}
use Rattle.yq_core.{proofs.NodesWrittenLaws.items_append, proofs.NodeAgain.items_longer}
use Rattle.yq_flow_edits.proofs.EditLaws.{Around, around_is}
use Rattle.yq_row_table.specs.Rows.{Cut, cut_text}
use Rattle.yq_places.{specs.FlowViews.{following_anchor, placed_collection}, specs.declared.places.flow_node.FlowHead.FlowHead}
use Rattle.yq_places.proofs.FlowNodeLaws.{with_more}
use Rattle.yq_edit_laws.{proofs.FlowAnswers.CollFound, proofs.FlowHeads.whole_is, specs.NearParts.LeadsToPart}
use Rattle.yq_edit_laws.proofs.SoleEntries.{empty_bytes}
use Rattle.yq_batch.specs.LeftItems.{Ending, closing, others, LeadsToIndex, TakesOut, front_text, gap_at, left_items, text_of_item}
use Rattle.yq_batch.specs.LeftItems.{place_of_part, ending_items, items_after, upto_text}
use Rattle.yq_batch.specs.LeftPlaces.{GoesWith, IsLeftPlace, MoreFollow, NoneFollow}
use Rattle.yq_batch.{specs.RemovalRuns.{AreAfter, content_of, empty_content, empty_text}, specs.declared.left.LeftPlace.LeftPlace}
use Rattle.yq_batch.proofs.LeftItemLaws.{ends_before, more_follow, none_follow}
use Rattle.yq_batch.proofs.LeftPlaceLaws.{after_as_read, after_ending, leads_there, no_space}
use Rattle.yq_batch.proofs.LeftPlaceLaws as laws

core_parts : (q : Placed) → parts_of (following_anchor q) ≡ parts_of q
core_parts (placed a s c e f) = refl

holder_parts : (k : ℕ) (parts : Parts) → parts_in (holder k parts) ≡ parts
holder_parts k parts = elim (eqb k 125) as (λ c. parts_in (cond c (mapping parts) (sequence parts)) ≡ parts) [ true ↦ refl | false ↦ refl ]

coll_parts : (total : ℕ) (w : CollPieces) → parts_of (placed_collection total w) ≡ locate_items total w.close w.items w.rest
unfolding locate
coll_parts total w = holder_parts w.close (locate_items total w.close w.items w.rest)

core_end : (q : Placed) → end_of q ≡ end_of (following_anchor q)
core_end (placed a s c e f) = refl

coll_ends : (total : ℕ) (w : CollPieces) → end_of (placed_collection total w) ≡ total - length w.rest
unfolding locate
coll_ends total w = refl

core_begin : (q : Placed) → content_of q ≡ content_of (following_anchor q)
core_begin (placed a s c e f) = refl

coll_begins : (total : ℕ) (w : CollPieces) → content_of (placed_collection total w) ≡ total - suc (length (w.gap ++ flow_items_text w.close w.items w.rest))
unfolding locate node_text
coll_begins total w = refl

core_empty : (q : Placed) → empty_text q ≡ empty_text (following_anchor q)
core_empty (placed a s c e f) = refl

holder_empty : (k : ℕ) (parts : Parts) → empty_content (holder k parts) ≡ Some (empty_bytes k)
holder_empty k parts = go (eqb k 125)
  where
    go : (b : Bool) → empty_content (cond b (mapping parts) (sequence parts)) ≡ Some (cond b (123 ∷ (125 ∷ [])) (91 ∷ (93 ∷ [])))
    go true = refl
    go false = refl

coll_empty : (total : ℕ) (w : CollPieces) → empty_text (placed_collection total w) ≡ Some (empty_bytes w.close)
unfolding locate
coll_empty total w = holder_empty w.close (locate_items total w.close w.items w.rest)

open_feed : (k : ℕ) → is_feed (opening_bracket k) ≡ false
open_feed k = elim (eqb k 125) as (λ c. is_feed (cond c 123 91) ≡ false) [ true ↦ refl | false ↦ refl ]

-- What goes of the items that are left, with others left after it, between places of the text.
pub record Goes (k : ℕ) (g : List ℕ) (is : Items) (size i j : ℕ) (s : Step) (e : Ending) (rest : List ℕ) (x : LeftPlace) (before : ℕ) : Type 0 where
  pub ending : Ending
  pub ends : AreAfter x.after ending
  pub front : List ℕ
  pub upto : List ℕ
  pub out : TakesOut k rest g s (left_items j is e) (left_items i is ending) front upto
  pub start : before + x.start ≡ size + length front
  pub finish : before + x.end ≡ size + length upto
  pub short : (m : ℕ) → m < i → length (upto_text m is) ≤ length front
  pub within : (m : ℕ) × (m < j) × (length front ≤ length (upto_text m is))

module _ (c : Cut) (n : ℕ) (steps : List Step) (x : FlowHead) (q : Placed) (f : CollFound c n steps x q) where
  abbrev pub own : CollPieces
  own = f.agrees.at.coll

  abbrev pub row : List ℕ
  row = x.text.now

  abbrev pub more : List ℕ
  more = f.agrees.after

  pub parts_are : parts_of q ≡ locate_items (length row) own.close own.items own.rest
  parts_are = sym (core_parts q) ∙ (ap parts_of f.node ∙ coll_parts (length row) own)

  abbrev around : Around f.agrees.at
  around = around_is f.agrees.at f.agrees.is_located

  text : row ≡ around.before ++ (opening_bracket own.close ∷ (own.gap ++ flow_items_text own.close own.items own.rest))
  text = f.agrees.node_is ∙ around.text

  abbrev pub opening : List ℕ
  opening = around.before ++ (opening_bracket own.close ∷ own.gap)

  pub coll_is : f.coll ≡ with_more more own
  coll_is = whole_is (cut_text c) f.coll x f.agrees

  -- the text, from the first item on
  pub opened : cut_text c ≡ (f.agrees.front ++ opening) ++ flow_items_text own.close own.items (own.rest ++ more)
  opened =
      let is : row ≡ opening ++ flow_items_text own.close own.items own.rest = text ∙ sym (append_assoc around.before (opening_bracket own.close ∷ own.gap) (flow_items_text own.close own.items own.rest)) in
      f.agrees.text
      ∙ (ap (λ (l : List ℕ). f.agrees.front ++ (l ++ more)) is
      ∙ (ap (λ (l : List ℕ). f.agrees.front ++ l) (append_assoc opening (flow_items_text own.close own.items own.rest) more ∙ ap (λ (l : List ℕ). opening ++ l) (sym (items_append own.close own.items own.rest more)))
      ∙ sym (append_assoc f.agrees.front opening (flow_items_text own.close own.items (own.rest ++ more)))))

  pub opened_size : length (f.agrees.front ++ opening) ≡ x.before + length opening
  opened_size = omega (arith, length-append f.agrees.front opening, f.agrees.before)

  -- where its content begins
  pub begins_at : content_of q + suc (length own.gap) ≡ length opening
  begins_at =
      omega (
        arith,
        core_begin q ∙ (ap content_of f.node ∙ coll_begins (length row) own),
        ap length text,
        length-append around.before (opening_bracket own.close ∷ (own.gap ++ flow_items_text own.close own.items own.rest)),
        length-append around.before (opening_bracket own.close ∷ own.gap),
      )

  -- and the text of an empty one of its kind
  pub empty_is : empty_text q ≡ Some (empty_bytes own.close)
  empty_is = core_empty q ∙ (ap empty_text f.node ∙ coll_empty (length row) own)

  -- where the collection ends
  pub ends_at : x.before + end_of q ≡ length (cut_text c) - length (own.rest ++ more)
  ends_at =
      omega (
        arith,
        core_end q ∙ (ap end_of f.node ∙ coll_ends (length row) own),
        f.agrees.before,
        ap length f.agrees.text,
        length-append f.agrees.front (row ++ more),
        length-append row more,
        length-append own.rest more,
        ap length text,
        length-append around.before (opening_bracket own.close ∷ (own.gap ++ flow_items_text own.close own.items own.rest)),
        length-append own.gap (flow_items_text own.close own.items own.rest),
        items_longer own.close own.items own.rest,
      )

  -- what the code answers of an item or entry
  module _ (s : Step) (i j : ℕ) (before : Option Bool) (p : LeftPlace) (leads : LeadsToPart s i (parts_of q)) (goes : IsLeftPlace row (parts_of q) i j before p)
      (e : Ending) (ends : AreAfter before e) (rest : List ℕ) where
    abbrev total : ℕ
    total = length row

    abbrev parts : Parts
    parts = locate_items total own.close own.items own.rest

    abbrev pub Out : (i j : ℕ) → Ending → Type 0
    Out i j e = Goes own.close own.gap own.items (x.before + length opening) i j s e rest p x.before

    own_leads : LeadsToIndex s i own.items
    own_leads = leads_there total own.close s i own.items own.rest (subst (LeadsToPart s i) parts_are leads)

    size_at : (m : ℕ) (z : ℕ × ℕ) → place_of_part m parts ≡ Some z → (z.0 ≡ length opening + length (front_text m own.items)) × (z.1 ≡ length opening + length (upto_text m own.items))
    size_at m z at = laws.places around.inner_depth own.close own.gap own.items own.rest row around.before (opening_bracket own.close) around.closes around.items (open_feed own.close) text m z at

    -- others follow it
    more_goes : (marked : Bool) → p.after ≡ Some marked → MoreFollow row parts i j before marked p → Out i j e
    more_goes marked after h = elim (cases_lt (suc i) j) [
      | inl less ↦
          let w = after_as_read total own.close i j own.items own.rest e h.next h.next_at less in
          by w.0 w.1 w.2 w.3 w.4
          (λ own_marked. sym (h.as_read less)
          ∙ laws.own_marked around.inner_depth own.close own.gap own.items own.rest row around.before (opening_bracket own.close) around.closes
          around.items (open_feed own.close) text (suc i) h.next h.next_at (ap begins_marker w.5 ∙ own_marked))
      | inr least ↦ last_of e ends refl (omega (arith, h.within, least))
    ]
      where
        known : (b : Ending) → AreAfter (Some marked) b → AreAfter p.after b
        known b = subst (λ (o : Option Bool). AreAfter o b) (sym after)

        by : (key : Key) (m : FlowNode) (sep : Sep) (os : Items) → items_after i j own.items e ≡ item key m sep os →
            (begins_marker (key_text key (node_text m [])) ≡ true → marked ≡ true) → Out i j e
        by key m sep os after_is next_marked =
            let line = laws.line around.inner_depth own.close own.gap own.items own.rest row around.before (opening_bracket own.close) around.closes around.items (open_feed own.close) text i h.here h.here_at in
            let apart : (fresh false (gap_at i own.gap own.items) && marked) ≡ false = ap (λ (b : Bool). b && marked) (sym line) ∙ h.goes.3 in
            let here = size_at i h.here h.here_at in
            let next = size_at (suc i) h.next h.next_at in
            record {
              ending = others key m sep os;
              ends = known (others key m sep os) next_marked;
              front = front_text i own.items;
              upto = front_text (suc i) own.items;
              out =
                  more_follow own.close rest own.gap s i j own.items e key m sep os own_leads after_is
                  (no_space (fresh false (gap_at i own.gap own.items)) (begins_marker (key_text key (node_text m []))) marked apart next_marked);
              start = omega (arith, h.goes.0, here.0);
              finish = omega (arith, h.goes.1, next.0);
              short = λ m less. ends_before m i own.items less;
              within = (i, h.within, omega (arith, length-append (front_text i own.items) (text_of_item i own.items)));
            }

        last_of : (b : Ending) → AreAfter before b → e ≡ b → suc i ≡ j → Out i j e
        last_of b ends_b same at = go b (subst (λ (o : Option Bool). AreAfter o b) (h.others at) ends_b) same
          where
            go : (b : Ending) → AreAfter (Some marked) b → e ≡ b → Out i j e
            go (closing s2) none same = absurd none
            go (others key m sep os) known same =
                by key m sep os
                (ap (λ (k : ℕ). items_after i k own.items e) (sym at)
                ∙ (after_ending total own.close i own.items own.rest e h.here h.here_at ∙ ap ending_items same)) known

    -- it is the last one
    none_goes : p.after ≡ None → NoneFollow row parts i j before p → Out i j e
    none_goes after h = subst (λ (k : ℕ). Out i k e) (sym h.count) (subst (λ (k : ℕ). Out k (suc k) e) (sym h.index) (go e (subst (λ (o : Option Bool). AreAfter o e) h.alone ends)))
      where
        one : ℕ
        one = h.one

        here : (h.here.0 ≡ length opening + length (front_text (suc one) own.items)) × (h.here.1 ≡ length opening + length (upto_text (suc one) own.items))
        here = size_at (suc one) h.here (ap (λ (k : ℕ). place_of_part k parts) (sym h.index) ∙ h.here_at)

        earlier : (h.earlier.0 ≡ length opening + length (front_text one own.items)) × (h.earlier.1 ≡ length opening + length (upto_text one own.items))
        earlier = size_at one h.earlier h.earlier_at

        no_longer : (m : ℕ) → m < suc one → length (upto_text m own.items) ≤ length (upto_text one own.items)
        no_longer m less = elim (cases_lt m one) [
          | inl lt ↦ omega (arith, ends_before m one own.items lt, length-append (front_text one own.items) (text_of_item one own.items))
          | inr le ↦ let same : m ≡ one = omega (arith, less, le) in omega (arith, ap (λ (k : ℕ). length (upto_text k own.items)) same)
        ]

        go : (b : Ending) → AreAfter None b → Out (suc one) (suc (suc one)) b
        go (others key m sep os) known = absurd known
        go (closing s2) known = record {
          ending = closing s2;
          ends = subst (λ (o : Option Bool). AreAfter o (closing s2)) (sym after) tt;
          front = upto_text one own.items;
          upto = upto_text (suc one) own.items;
          out =
              none_follow own.close rest own.gap s one own.items s2 (subst (λ (k : ℕ). LeadsToIndex s k own.items) h.index own_leads)
              (laws.no_comma around.inner_depth own.close own.gap own.items own.rest row around.before (opening_bracket own.close) around.closes around.items (open_feed own.close) text one h.earlier h.earlier_at h.unmarked);
          start = omega (arith, h.start, earlier.1);
          finish = omega (arith, h.finish, here.1);
          short = no_longer;
          within = (one, omega arith, omega arith);
        }

    -- either
    pub goes_out : Out i j e
    goes_out = go p.after refl (subst (λ (ps : Parts). IsLeftPlace row ps i j before p) parts_are goes)
      where
        go : (a : Option Bool) → p.after ≡ a → GoesWith row parts i j before a p → Out i j e
        go None is h = none_goes is h
        go (Some marked) is h = more_goes marked is h
