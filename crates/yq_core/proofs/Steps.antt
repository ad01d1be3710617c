-- Steps of reading, as the code takes them.
use Rattle.std.proofs.Common.{◌≡◌, ℕ, zero, suc, ◌-◌, Bool, true, false, cond, not, ◌&&◌, ◌||◌, eqb, List, ◌∷◌, ◌++◌, length, drop, Option}
use Rattle.std.{proofs.Common.{Some, None, refl, sym, ap, ◌∙◌, subst, Result, rules}, proofs.lemmas.Bool.false≢true}
use Rattle.std.proofs.lemmas.Option.{same_Some}
use Rattle.yq_core.{specs.Answers.{ReadError, ◌>>=◌, ReadFails, Gives}, specs.declared.piece.Piece.Piece, specs.Text.is_empty}
use Rattle.yq_core.specs.Nodes.{begins_with, Key, bare, FlowNode, anchored, Items, item, key_text, sep_text, node_text, flow_items_text}
use Rattle.yq_core.specs.Nodes.{begins_content, is_keyed, is_empty_node, takes_anchor, IsInlineKey}
use Rattle.yq_core.specs.Places.{Placed, mapping, sequence, Parts, end, part, key_placed, key_here, locate, locate_items, placed_between}
use Rattle.yq_core.specs.Places.{anchored_node, bare_in, bare_placed, holder}
use Rattle.yq_core.specs.PlacedReading.{key_piece, core_between, placed_node, placed_items, placed_content, placed_key, past_sep}
use Rattle.yq_core.specs.PlacedReading.{placed_item, placed_entry, takes_in, takes_placed, then_anchored}
use Rattle.yq_core.specs.Reading.{name_at, lead_at, read_flow_key, sep_at, Kids, read_collection, read_core, read_node, all_items, kids_of}
use Rattle.yq_core.{specs.Reading.all_node, proofs.Binds.{bind_same, bind_bind}}
use Rattle.yq_core.proofs.NodesPieceLaws.{name_takes, lead_takes, key_takes, sep_takes, front_is}
use Rattle.yq_core.proofs.NodeTakes.{content_takes, lead_amp, KidsTake, items_takes}
use Rattle.yq_core.{proofs.NodeLaws.{items_step, items_done, all_takes, then_node, then_sep, then_items}, proofs.NodeAgain.is_anchored}
use Rattle.yq_failure.specs.declared.failure.Failure.TheVariants as errors

bare_holder : (k : ℕ) (s : Parts) → (bare_in None (holder k s) ≡ false) × (takes_in None (holder k s) ≡ true)
bare_holder k s = elim (eqb k 125) as (λ c. (bare_in None (cond c (mapping s) (sequence s)) ≡ false) × (takes_in None (cond c (mapping s) (sequence s)) ≡ true)) [ true ↦ (refl, refl) | false ↦ (refl, refl) ]

pub bare_locate : (total : ℕ) (node : FlowNode) (rest : List ℕ) → bare_placed (locate total node rest) ≡ is_empty_node node
unfolding locate
bare_locate total node rest = search (rules, bare_holder)

-- a node without an anchor looks as its content
locate_content : (total : ℕ) (node : FlowNode) (rest t : List ℕ) → is_anchored node ≡ false → t ≡ node_text node rest → locate total node rest ≡ placed_between total t rest (core_between total t node rest)
unfolding locate
locate_content total node rest t h1 h2 = search (rules, false≢true)

bare_in_place : (total : ℕ) (node : FlowNode) (rest t : List ℕ) → is_anchored node ≡ false →
    (bare_placed (placed_between total t rest (core_between total t node rest)) ≡ is_empty_node node)
    × (takes_placed (placed_between total t rest (core_between total t node rest)) ≡ takes_anchor node)
bare_in_place total node rest t h1 = search (rules, bare_holder, false≢true)

-- items
pub items_end : (total d k : ℕ) (t : List ℕ) → begins_with k t ≡ true → placed_items total d k t ≡ Some (end, drop 1 t)
unfolding locate_items
items_end total d k t h = ap (λ o. o >>= λ x. Some (locate_items total k x.0 x.1, x.1)) (items_done d k t h)

abbrev pub then_entry : ℕ → ℕ → ℕ → Option (List ℕ × Piece) → Placed → List ℕ → Option (Parts × List ℕ)
then_entry total d k key x r = placed_items total d k r >>= λ y. Some (part key x y.0, y.1)

abbrev pub then_value : ℕ → ℕ → ℕ → Option (List ℕ × Piece) → Placed × List ℕ → Option (Parts × List ℕ)
then_value total d k key x = past_sep k x.1 >>= then_entry total d k key x.0

items_text_is : (d k : ℕ) (t : List ℕ) (x : Items × List ℕ) → all_items d k t ≡ Some x → t ≡ flow_items_text k x.0 x.1
items_text_is d k t x h = (items_takes (suc (length t)) d k t x h).0

key_keyed : (t : List ℕ) (x : Key × List ℕ) → read_flow_key t ≡ Some x → is_keyed x.0 ≡ true
key_keyed t x h = go x.0 x.1 (key_takes t x h).1 where
  go : (key : Key) (rest : List ℕ) → IsInlineKey 125 key rest → is_keyed key ≡ true
  go key rest h1 = search (rules, false≢true)

-- after a node
sep_step : (total d k : ℕ) (t : List ℕ) (key : Key) (node : FlowNode × List ℕ) → t ≡ key_text key (node_text node.0 node.1) → (is_keyed key || not (is_empty_node node.0)) ≡ true →
    (then_sep d k key node >>= λ x. Some (locate_items total k x.0 x.1, x.1)) ≡ then_value total d k (key_placed total t key) (locate total node.0 node.1, node.1)
unfolding locate_items
sep_step total d k t key node is some = rw some
    (bind_bind (sep_at k node.1) (then_items d k key node.0) (λ x. Some (locate_items total k x.0 x.1, x.1))
    ∙ (bind_same (λ sep. then_items d k key node.0 sep >>= λ x. Some (locate_items total k x.0 x.1, x.1)) (λ sep. then_entry total d k (key_placed total t key) (locate total node.0 node.1) sep.1) (sep_at k node.1)
    (λ sep e.
    let text = (sep_takes k node.1 sep e).0 in
    bind_bind (all_items d k sep.1) (λ rest. Some (item key node.0 sep.0 rest.0, rest.1)) (λ x. Some (locate_items total k x.0 x.1, x.1))
    ∙ (bind_same (λ rest. Some (locate_items total k (item key node.0 sep.0 rest.0) rest.1, rest.1))
    (λ rest. Some (part (key_placed total t key) (locate total node.0 node.1) (locate_items total k rest.0 rest.1), rest.1)) (all_items d k sep.1)
    (λ rest f. let whole : node.1 ≡ sep_text sep.0 (flow_items_text k rest.0 rest.1) = text ∙ ap (sep_text sep.0) (items_text_is d k sep.1 rest f) in
    ap (λ (r : List ℕ). Some (part (key_placed total (key_text key (node_text node.0 r)) key) (locate total node.0 r) (locate_items total k rest.0 rest.1), rest.1)) (sym whole)
    ∙ ap (λ (u : List ℕ). Some (part (key_placed total u key) (locate total node.0 node.1) (locate_items total k rest.0 rest.1), rest.1)) (sym is))
    ∙ sym (bind_bind (all_items d k sep.1) (λ x. Some (locate_items total k x.0 x.1, x.1)) (λ y. Some (part (key_placed total t key) (locate total node.0 node.1) y.0, y.1)))))
    ∙ sym (bind_bind (sep_at k node.1) (λ x. Some x.1) (then_entry total d k (key_placed total t key) (locate total node.0 node.1)))))

bare_step : (total d : ℕ) (t : List ℕ) (node : FlowNode × List ℕ) →
    (then_sep d 93 bare node >>= λ x. Some (locate_items total 93 x.0 x.1, x.1)) ≡ cond (bare_placed (locate total node.0 node.1)) None
    (then_value total d 93 None (locate total node.0 node.1, node.1))
bare_step total d t node = go (is_empty_node node.0) refl where
  go : (b : Bool) → is_empty_node node.0 ≡ b →
      (then_sep d 93 bare node >>= λ x. Some (locate_items total 93 x.0 x.1, x.1)) ≡ cond (bare_placed (locate total node.0 node.1)) None
      (then_value total d 93 None (locate total node.0 node.1, node.1))
  go true e = rw (bare_locate total node.0 node.1 ∙ e) (rw e refl)
  go false e = rw (bare_locate total node.0 node.1 ∙ e) (sep_step total d 93 (node_text node.0 node.1) bare node refl (rw e refl))

items_by_node : (total d : ℕ) (t : List ℕ) → begins_with 93 t ≡ false → placed_items total d 93 t ≡ (placed_node true (Some 0) total d t >>= λ x. cond (bare_placed x.0) None (then_value total d 93 None x))
items_by_node total d t h =
    ap (λ o. o >>= λ x. Some (locate_items total 93 x.0 x.1, x.1)) (items_step d 93 t h)
    ∙ (bind_bind (all_node true (Some 0) d t) (then_sep d 93 bare) (λ x. Some (locate_items total 93 x.0 x.1, x.1))
    ∙ (bind_same (λ node. then_sep d 93 bare node >>= λ x. Some (locate_items total 93 x.0 x.1, x.1))
    (λ node. cond (bare_placed (locate total node.0 node.1)) None (then_value total d 93 None (locate total node.0 node.1, node.1)))
    (all_node true (Some 0) d t)
    (λ node e. bare_step total d t node)
    ∙ sym (bind_bind (all_node true (Some 0) d t) (λ x. Some (locate total x.0 x.1, x.1)) (λ x. cond (bare_placed x.0) None (then_value total d 93 None x)))))

pub items_more : (total d : ℕ) (t : List ℕ) → begins_with 93 t ≡ false → placed_items total d 93 t ≡ (placed_item total d t >>= λ x. then_entry total d 93 None x.0 x.1)
items_more total d t h = search (rules, items_by_node, bind_same, bind_bind, one, whole_item, item_after)
  where
    whole_item : Placed × List ℕ → Option (Parts × List ℕ)
    whole_item x = then_entry total d 93 None x.0 x.1

    past_item : Placed × List ℕ → Option (Placed × List ℕ)
    past_item x = past_sep 93 x.1 >>= λ r. Some (x.0, r)

    item_after : Placed × List ℕ → Option (Placed × List ℕ)
    item_after x = cond (bare_placed x.0) None (past_item x)

    one : (x : Placed × List ℕ) (b : Bool) → cond b None (then_value total d 93 None x) ≡ (cond b None (past_item x) >>= whole_item)
    one x b = search (rules, bind_bind, whole_item)

-- a key's place
keyed_place : (total : ℕ) (t : List ℕ) (key : Key) → is_keyed key ≡ true → key_placed total t key ≡ Some (key_here total t (key_piece key))
keyed_place total t key h = search rules

key_bind : {A : Type 0} (total : ℕ) (t : List ℕ) (f : (List ℕ × Piece) × List ℕ → Option A) → (placed_key total t >>= f) ≡ (read_flow_key t >>= λ key. f (key_here total t (key_piece key.0), key.1))
key_bind total t f = go (read_flow_key t) where
  key_pieces : Key × List ℕ → Option (List ℕ × List ℕ)
  key_pieces x = Some (key_piece x.0, x.1)

  here : List ℕ × List ℕ → Option ((List ℕ × Piece) × List ℕ)
  here x = Some (key_here total t x.0, x.1)

  go : (o : Option (Key × List ℕ)) → (((o >>= key_pieces) >>= here) >>= f) ≡ (o >>= λ key. f (key_here total t (key_piece key.0), key.1))
  go o = search rules

abbrev then_node_placed : ℕ → ℕ → (List ℕ × Piece) × List ℕ → Option (Parts × List ℕ)
then_node_placed total d key = placed_node true (Some 0) total d key.1 >>= then_value total d 125 (Some key.0)

entry_step : (total d : ℕ) (t : List ℕ) (key : Key × List ℕ) → read_flow_key t ≡ Some key → (then_node d 125 key >>= λ x. Some (locate_items total 125 x.0 x.1, x.1)) ≡ then_node_placed total d (key_here total t (key_piece key.0), key.1)
entry_step total d t key e =
    let place = keyed_place total t key.0 (key_keyed t key e) in
    bind_bind (all_node true (Some 0) d key.1) (then_sep d 125 key.0) (λ x. Some (locate_items total 125 x.0 x.1, x.1))
    ∙ (bind_same (λ node. then_sep d 125 key.0 node >>= λ x. Some (locate_items total 125 x.0 x.1, x.1))
    (λ node. then_value total d 125 (Some (key_here total t (key_piece key.0))) (locate total node.0 node.1, node.1))
    (all_node true (Some 0) d key.1)
    (λ node f.
    let is : t ≡ key_text key.0 (node_text node.0 node.1) = (key_takes t key e).0 ∙ ap (key_text key.0) (all_takes true (Some 0) d key.1 node f).0 in
    sep_step total d 125 t key.0 node is (rw (key_keyed t key e) refl)
    ∙ ap (λ (o : Option (List ℕ × Piece)). then_value total d 125 o (locate total node.0 node.1, node.1)) place)
    ∙ sym (bind_bind (all_node true (Some 0) d key.1) (λ x. Some (locate total x.0 x.1, x.1)) (then_value total d 125 (Some (key_here total t (key_piece key.0))))))

entries_by_key : (total d : ℕ) (t : List ℕ) → begins_with 125 t ≡ false → placed_items total d 125 t ≡ (placed_key total t >>= λ key. placed_node true (Some 0) total d key.1 >>= then_value total d 125 (Some key.0))
entries_by_key total d t h = search (rules, items_step, bind_bind, then_node, bind_same, entry_step, key_bind)

pub entries_more : (total d : ℕ) (t : List ℕ) → begins_with 125 t ≡ false → placed_items total d 125 t ≡ (placed_entry total d t >>= λ x. then_entry total d 125 (Some x.0.0) x.0.1 x.1)
entries_more total d t h = simp (entries_by_key, bind_same, bind_bind)

-- nodes
kids_all : (d n : ℕ) → KidsTake (kids_of d) d
kids_all zero n k t y h = cc
kids_all (suc d) n k t y h = items_takes (suc (length t)) d k t y h

not_anchored : (flow : Bool) (spaces : Option ℕ) (kids : Kids) (t : List ℕ) (x : FlowNode × List ℕ) → read_core flow spaces kids t ≡ Some x → is_anchored x.0 ≡ false
unfolding read_core read_collection
not_anchored flow spaces kids t x h = search (rules, is_anchored, same_Some)

pub node_plain : (flow : Bool) (spaces : Option ℕ) (total d : ℕ) (t : List ℕ) → begins_with 38 t ≡ false → placed_node flow spaces total d t ≡ placed_content flow spaces total d t
unfolding read_node
node_plain flow spaces total d t h = rw h
    (bind_same (λ x. Some (locate total x.0 x.1, x.1)) (λ x. Some (placed_between total t x.1 (core_between total t x.0 x.1), x.1)) (read_core flow spaces (kids_of d) t)
    (λ x e. ap (λ s. Some (s, x.1)) (locate_content total x.0 x.1 t (not_anchored flow spaces (kids_of d) t x e) (content_takes flow spaces (kids_of d) d t x (kids_all d 0) h e).0)))

anchored_step : (total d : ℕ) (t n r g s : List ℕ) (x : FlowNode × List ℕ) → t ≡ 38 ∷ (n ++ r) → r ≡ g ++ s → s ≡ node_text x.0 x.1 → is_anchored x.0 ≡ false →
    (◌>>=◌ {A = FlowNode × List ℕ} {B = Placed × List ℕ}
    (cond ((is_empty_node x.0 || not (is_empty g)) && takes_anchor x.0) (Some (anchored n g x.0, x.1)) None)
    (λ x. Some (locate total x.0 x.1, x.1))) ≡ then_anchored total t n g (placed_between total s x.1 (core_between total s x.0 x.1), x.1)
unfolding locate node_text
anchored_step total d t n r g s x e f h a =
    let same = bare_in_place total x.0 x.1 s a in
    rw (same.0, same.1) (go ((is_empty_node x.0 || not (is_empty g)) && takes_anchor x.0)) where
      go : (b : Bool) → (◌>>=◌ {A = FlowNode × List ℕ} {B = Placed × List ℕ} (cond b (Some (anchored n g x.0, x.1)) None)
          (λ x. Some (locate total x.0 x.1, x.1))) ≡ cond b
          (Some (anchored_node n (total - length t) (placed_between total s x.1 (core_between total s x.0 x.1)), x.1)) None
      go true = ap (λ s. Some (s, x.1)) (search (rules, locate_content))
      go false = refl

pub node_anchored : (flow : Bool) (spaces : Option ℕ) (total d : ℕ) (t n r g s : List ℕ) → begins_with 38 t ≡ true →
    name_at (drop 1 t) ≡ Some (n, r) → lead_at flow (begins_content flow) r ≡ Some (g, s) →
    placed_node flow spaces total d t ≡ (placed_content flow spaces total d s >>= then_anchored total t n g)
unfolding read_node
node_anchored flow spaces total d t n r g s amp name lead =
    let a = name_takes (drop 1 t) (n, r) name in
    let b = lead_takes flow (begins_content flow) r (g, s) lead in
    let whole : t ≡ 38 ∷ (n ++ r) = front_is 38 t amp ∙ ap (λ l. 38 ∷ l) a.0 in
    let after : FlowNode × List ℕ → Option (FlowNode × List ℕ) = λ x. cond ((is_empty_node x.0 || not (is_empty g)) && takes_anchor x.0) (Some (anchored n g x.0, x.1)) None in
    rw amp (rw name (rw lead
    (bind_bind (read_core flow spaces (kids_of d) s) after (λ x. Some (locate total x.0 x.1, x.1))
    ∙ (bind_same (λ x. after x >>= λ x. Some (locate total x.0 x.1, x.1)) (λ x. then_anchored total t n g (placed_between total s x.1 (core_between total s x.0 x.1), x.1)) (read_core flow spaces (kids_of d) s)
    (λ x e. anchored_step total d t n r g s x whole b.0 (content_takes flow spaces (kids_of d) d s x (kids_all d 0) (lead_amp flow r g s a.1.ends b.0 b.1) e).0 (not_anchored flow spaces (kids_of d) s x e))
    ∙ sym (bind_bind (read_core flow spaces (kids_of d) s) (λ x. Some (placed_between total s x.1 (core_between total s x.0 x.1), x.1)) (then_anchored total t n g))))))

pub node_no_name : (flow : Bool) (spaces : Option ℕ) (total d : ℕ) (t : List ℕ) → begins_with 38 t ≡ true → name_at (drop 1 t) ≡ None → placed_node flow spaces total d t ≡ None
unfolding read_node
node_no_name flow spaces total d t amp name = rw amp (rw name refl)

pub node_no_lead : (flow : Bool) (spaces : Option ℕ) (total d : ℕ) (t n r : List ℕ) → begins_with 38 t ≡ true → name_at (drop 1 t) ≡ Some (n, r) → lead_at flow (begins_content flow) r ≡ None → placed_node flow spaces total d t ≡ None
unfolding read_node
node_no_lead flow spaces total d t n r amp name lead = rw amp (rw name (rw lead refl))

pub node_fails : (e : ReadError) (flow : Bool) (spaces : Option ℕ) (total d : ℕ) (t n r g s : List ℕ) → begins_with 38 t ≡ true →
    name_at (drop 1 t) ≡ Some (n, r) → lead_at flow (begins_content flow) r ≡ Some (g, s) → ReadFails e (placed_content flow spaces total d s) →
    ReadFails e (placed_node flow spaces total d t)
node_fails errors.Memory flow spaces total d t n r g s amp name lead h = tt
node_fails (errors.Fault f) flow spaces total d t n r g s amp name lead h = node_anchored flow spaces total d t n r g s amp name lead ∙ rw h refl

pub node_gives : {X : Type 0} (v : X → Placed × List ℕ) (o : Result X ReadError) (flow : Bool) (spaces : Option ℕ) (total d : ℕ) (t n r g s : List ℕ)
    (x : Placed × List ℕ) → begins_with 38 t ≡ true → name_at (drop 1 t) ≡ Some (n, r) → lead_at flow (begins_content flow) r ≡ Some (g, s) →
    placed_content flow spaces total d s ≡ Some x → Gives v o (then_anchored total t n g x) → Gives v o (placed_node flow spaces total d t)
node_gives v o flow spaces total d t n r g s x amp name lead h answer =
    let is : placed_node flow spaces total d t ≡ then_anchored total t n g x = node_anchored flow spaces total d t n r g s amp name lead ∙ rw h refl in
    subst (Gives v o) (sym is) answer

-- the steps of reading a node
pub ruleset node_steps = (node_plain, node_fails, node_gives, node_no_name, node_no_lead)
