-- Steps of finding the ends of nodes, as the code takes them.
use Rattle.std.proofs.Common.{◌≡◌, ℕ, ◌-◌, ◌<◌, ◌≤◌, Bool, true, false, cond, not, ◌&&◌, ◌||◌, List, length, drop, Option, Some, None, refl}
use Rattle.std.{proofs.Common.{sym, ap, ◌∙◌, arith}, proofs.lemmas.Option.same_Some}
use Rattle.yq_core.{specs.Answers.◌>>=◌, specs.Text.is_empty, proofs.Bools.bind_some, specs.declared.piece.Piece.Piece}
use Rattle.yq_core.{specs.declared.style.Style.Style, specs.Nodes.{FlowNode, begins_with, begins_content, coll, Items, opening_bracket}}
use Rattle.yq_core.specs.Places.{Placed, placed, CoreNode, nothing, name, text, sequence, mapping, Parts, part, anchored_node}
use Rattle.yq_core.specs.Places.{placed_between, bare_placed, holder, key_here, locate_items}
use Rattle.yq_core.specs.PlacedReading.{core_between, placed_node, placed_items, placed_content, placed_coll, placed_item, placed_entry}
use Rattle.yq_core.specs.PlacedReading.{split_key, past_sep, may_follow_anchor, then_anchored}
use Rattle.yq_core.specs.Reading.{read_gap, read_scalar, name_at, lead_at, read_collection, read_core, kids_of}
use Rattle.yq_core.{specs.Scalars.{scalar_style, begins_scalar}, proofs.Loops.node_shorter, proofs.NodesPieceLaws.front_is}
use Rattle.yq_core.proofs.Steps.{items_end, items_more, entries_more, node_plain, node_anchored, node_no_name, node_no_lead}
use Rattle.yq_inline.specs.Measured.{kind_of_style, node_measure, measured, past_node, is_no_node, node_may_follow, closing_byte}
use Rattle.yq_inline.{specs.Measured.{from_value, past_value}, specs.Forms.after_bracket}
use Rattle.yq_inline.{specs.declared.measuring.MeasuredKind.MeasuredKind, proofs.FormLaws.{coll_opened, coll_unopened}}
use Rattle.yq_core.specs.declared.style.Style.TheVariants as styles
use Rattle.yq_inline.specs.declared.measuring.MeasuredKind.TheVariants as kinds

pub within : (a b c : ℕ) → a ≤ b → b ≤ c → a ≤ c
within a b c h k = omega arith

-- what was measured was read
pub record Found (o : Option (Placed × List ℕ)) (a : Bool) (k : MeasuredKind) (r : List ℕ) : Type 0 where
  pub node : Placed
  pub read : o ≡ Some (node, r)
  pub measured_as : node_measure node ≡ (a, k)

pub found : (o : Option (Placed × List ℕ)) (a : Bool) (k : MeasuredKind) (r : List ℕ) → measured o ≡ Some ((a, k), r) → Found o a k r
found o a k r h =
    let x = bind_some o h in
    let pair = same_Some _ _ x.2 in
    let rest : x.0.1 ≡ r = ap (λ (y : (Bool × MeasuredKind) × List ℕ). y.1) pair in
    record {
      node = x.0.0;
      read = x.1 ∙ ap (λ (s : List ℕ). Some (x.0.0, s)) rest;
      measured_as = ap (λ (y : (Bool × MeasuredKind) × List ℕ). y.0) pair;
    }

pub unread : (o : Option (Placed × List ℕ)) → measured o ≡ None → o ≡ None
unread None h = refl
unread (Some x) h = cc

style_bare : (y : Style) → false ≡ is_no_node (false, kind_of_style y)
style_bare styles.Plain = refl
style_bare styles.Single = refl
style_bare styles.Double = refl
style_bare styles.Literal = refl
style_bare styles.Folded = refl

bare_measure : (s : Placed) → bare_placed s ≡ is_no_node (node_measure s)
bare_measure (placed None s c e nothing) = refl
bare_measure (placed None s c e (name n)) = refl
bare_measure (placed None s c e (text t p)) = style_bare p.style
bare_measure (placed None s c e (sequence x)) = refl
bare_measure (placed None s c e (mapping x)) = refl
bare_measure (placed (Some a) s c e f) = refl

style_follow : (g : List ℕ) (y : Style) → ((false || not (is_empty g)) && true) ≡ node_may_follow g (false, kind_of_style y)
style_follow g styles.Plain = refl
style_follow g styles.Single = refl
style_follow g styles.Double = refl
style_follow g styles.Literal = refl
style_follow g styles.Folded = refl

follow_measure : (g : List ℕ) (s : Placed) → may_follow_anchor g s ≡ node_may_follow g (node_measure s)
follow_measure g (placed None s c e nothing) = refl
follow_measure g (placed None s c e (name n)) = refl
follow_measure g (placed None s c e (text t p)) = style_follow g p.style
follow_measure g (placed None s c e (sequence x)) = refl
follow_measure g (placed None s c e (mapping x)) = refl
follow_measure g (placed (Some a) s c e f) = refl

with_measure : (n : List ℕ) (i : ℕ) (s : Placed) → node_measure (anchored_node n i s) ≡ (true, (node_measure s).1)
with_measure n i (placed a s c e f) = refl

-- contents
front_parts : (flow : Bool) (t : List ℕ) (s : Bool) → begins_with 42 t ≡ false → begins_with 91 t ≡ false → begins_with 123 t ≡ false → begins_content flow t ≡ s → begins_scalar flow t ≡ s
front_parts flow t s a b c h = rw (a, b, c) at h

pub named_none : (flow : Bool) (spaces : Option ℕ) (d : ℕ) (t : List ℕ) → begins_with 42 t ≡ true → name_at (drop 1 t) ≡ None → measured (placed_content flow spaces 0 d t) ≡ None
unfolding read_core
named_none flow spaces d t star e = rw star (rw e refl)

pub named_some : (flow : Bool) (spaces : Option ℕ) (d : ℕ) (t n r : List ℕ) → begins_with 42 t ≡ true → name_at (drop 1 t) ≡ Some (n, r) → measured (placed_content flow spaces 0 d t) ≡ Some ((false, kinds.Alias), r)
unfolding read_core
named_some flow spaces d t n r star e = rw star (rw e refl)

abbrev as_collection : Option (List ℕ) → Option ((Bool × MeasuredKind) × List ℕ)
as_collection o = o >>= λ r. Some ((false, kinds.Collection), r)

abbrev coll_of : ℕ → List ℕ → Items × List ℕ → Option (FlowNode × List ℕ)
coll_of k g y = Some (coll k g y.0, y.1)

abbrev holder_of : ℕ → Items × List ℕ → Option (CoreNode × List ℕ)
holder_of k x = Some (holder k (locate_items 0 k x.0 x.1), x.1)

abbrev placed_of : List ℕ → FlowNode × List ℕ → Option (Placed × List ℕ)
placed_of t x = Some (placed_between 0 t x.1 (core_between 0 t x.0 x.1), x.1)

sequence_items : (t g : List ℕ) (o : Option (Items × List ℕ)) → measured ((o >>= coll_of 93 g) >>= placed_of t) ≡ as_collection (past_node (o >>= holder_of 93))
sequence_items t g None = refl
sequence_items t g (Some y) = refl

sequence_gap : (d : ℕ) (t : List ℕ) (o : Option (List ℕ × List ℕ)) → measured ((o >>= λ gap. kids_of d 93 gap.1 >>= coll_of 93 gap.0) >>= placed_of t) ≡ as_collection (past_node (o >>= λ gap. kids_of d 93 gap.1 >>= holder_of 93))
sequence_gap d t None = refl
sequence_gap d t (Some g) = sequence_items t g.0 (kids_of d 93 g.1)

sequence_is : (flow : Bool) (spaces : Option ℕ) (d : ℕ) (t : List ℕ) → begins_with 42 t ≡ false → begins_with 91 t ≡ true → measured (placed_content flow spaces 0 d t) ≡ as_collection (past_node (placed_coll 0 d 93 (drop 1 t)))
unfolding read_core read_collection
sequence_is flow spaces d t star opens = rw (star, opens) (sequence_gap d t (read_gap (drop 1 t)))

mapping_items : (t g : List ℕ) (o : Option (Items × List ℕ)) → measured ((o >>= coll_of 125 g) >>= placed_of t) ≡ as_collection (past_node (o >>= holder_of 125))
mapping_items t g None = refl
mapping_items t g (Some y) = refl

mapping_gap : (d : ℕ) (t : List ℕ) (o : Option (List ℕ × List ℕ)) → measured ((o >>= λ gap. kids_of d 125 gap.1 >>= coll_of 125 gap.0) >>= placed_of t) ≡ as_collection (past_node (o >>= λ gap. kids_of d 125 gap.1 >>= holder_of 125))
mapping_gap d t None = refl
mapping_gap d t (Some g) = mapping_items t g.0 (kids_of d 125 g.1)

mapping_is : (flow : Bool) (spaces : Option ℕ) (d : ℕ) (t : List ℕ) → begins_with 42 t ≡ false → begins_with 91 t ≡ false →
    begins_with 123 t ≡ true → measured (placed_content flow spaces 0 d t) ≡ as_collection (past_node (placed_coll 0 d 125 (drop 1 t)))
unfolding read_core read_collection
mapping_is flow spaces d t star other opens = rw (star, other, opens) (mapping_gap d t (read_gap (drop 1 t)))

coll_is : (flow : Bool) (spaces : Option ℕ) (d : ℕ) (t : List ℕ) (keyed : Bool) → begins_with (opening_bracket (closing_byte keyed)) t ≡ true →
    measured (placed_content flow spaces 0 d t) ≡ as_collection (past_node (placed_coll 0 d (closing_byte keyed) (drop 1 t)))
coll_is flow spaces d t true opens = let front = front_is 123 t opens in mapping_is flow spaces d t (ap (begins_with 42) front) (ap (begins_with 91) front) opens
coll_is flow spaces d t false opens = sequence_is flow spaces d t (ap (begins_with 42) (front_is 91 t opens)) opens

pub coll_none : (flow : Bool) (spaces : Option ℕ) (d : ℕ) (t : List ℕ) (keyed : Bool) → begins_with (opening_bracket (closing_byte keyed)) t ≡ true →
    past_node (placed_coll 0 d (closing_byte keyed) (drop 1 t)) ≡ None → measured (placed_content flow spaces 0 d t) ≡ None
coll_none flow spaces d t keyed opens e = coll_is flow spaces d t keyed opens ∙ ap as_collection e

pub coll_some : (flow : Bool) (spaces : Option ℕ) (d : ℕ) (t r : List ℕ) (keyed : Bool) → begins_with (opening_bracket (closing_byte keyed)) t ≡ true →
    past_node (placed_coll 0 d (closing_byte keyed) (drop 1 t)) ≡ Some r → measured (placed_content flow spaces 0 d t) ≡ Some ((false, kinds.Collection), r)
coll_some flow spaces d t r keyed opens e = coll_is flow spaces d t keyed opens ∙ ap as_collection e

-- in what is no collection none is nested
pub leaf_deep : (flow : Bool) (spaces : Option ℕ) (d : ℕ) (t : List ℕ) → begins_with 91 t ≡ false → begins_with 123 t ≡ false → placed_content flow spaces 0 0 t ≡ placed_content flow spaces 0 d t
unfolding read_core
leaf_deep flow spaces d t a b = rw (a, b) refl

pub scalar_none : (flow : Bool) (spaces : Option ℕ) (d : ℕ) (t : List ℕ) → begins_with 42 t ≡ false → begins_with 91 t ≡ false →
    begins_with 123 t ≡ false → begins_content flow t ≡ true → read_scalar flow spaces t ≡ None → measured (placed_content flow spaces 0 d t) ≡ None
unfolding read_core
scalar_none flow spaces d t a b c s e = let f = front_parts flow t true a b c s in rw (a, b, c) (rw f (rw e refl))

pub scalar_some : (flow : Bool) (spaces : Option ℕ) (d : ℕ) (t p r : List ℕ) → begins_with 42 t ≡ false → begins_with 91 t ≡ false →
    begins_with 123 t ≡ false → begins_content flow t ≡ true → read_scalar flow spaces t ≡ Some (p, r) →
    measured (placed_content flow spaces 0 d t) ≡ Some ((false, kind_of_style (scalar_style p)), r)
unfolding read_core
scalar_some flow spaces d t p r a b c s e = let f = front_parts flow t true a b c s in rw (a, b, c) (rw f (rw e refl))

pub nothing_here : (flow : Bool) (spaces : Option ℕ) (d : ℕ) (t : List ℕ) → begins_with 42 t ≡ false → begins_with 91 t ≡ false →
    begins_with 123 t ≡ false → begins_content flow t ≡ false → measured (placed_content flow spaces 0 d t) ≡ Some ((false, kinds.Nothing), t)
unfolding read_core
nothing_here flow spaces d t a b c s = let f = front_parts flow t false a b c s in rw (a, b, c) (rw f refl)

-- nodes
pub node_content : (flow : Bool) (spaces : Option ℕ) (d : ℕ) (t : List ℕ) → begins_with 38 t ≡ false → measured (placed_node flow spaces 0 d t) ≡ measured (placed_content flow spaces 0 d t)
node_content flow spaces d t h = ap measured (node_plain flow spaces 0 d t h)

pub node_nameless : (flow : Bool) (spaces : Option ℕ) (d : ℕ) (t : List ℕ) → begins_with 38 t ≡ true → name_at (drop 1 t) ≡ None → measured (placed_node flow spaces 0 d t) ≡ None
node_nameless flow spaces d t amp e = ap measured (node_no_name flow spaces 0 d t amp e)

pub node_leadless : (flow : Bool) (spaces : Option ℕ) (d : ℕ) (t n r : List ℕ) → begins_with 38 t ≡ true → name_at (drop 1 t) ≡ Some (n, r) → lead_at flow (begins_content flow) r ≡ None → measured (placed_node flow spaces 0 d t) ≡ None
node_leadless flow spaces d t n r amp e f = ap measured (node_no_lead flow spaces 0 d t n r amp e f)

pub node_none : (flow : Bool) (spaces : Option ℕ) (d : ℕ) (t n r g s : List ℕ) → begins_with 38 t ≡ true → name_at (drop 1 t) ≡ Some (n, r) →
    lead_at flow (begins_content flow) r ≡ Some (g, s) → measured (placed_content flow spaces 0 d s) ≡ None →
    measured (placed_node flow spaces 0 d t) ≡ None
node_none flow spaces d t n r g s amp e f h =
    ap measured (node_anchored flow spaces 0 d t n r g s amp e f ∙ ap (λ o. o >>= then_anchored 0 t n g) (unread (placed_content flow spaces 0 d s) h))

-- a node after an anchor, by whether it may be there
anchored_is : (flow : Bool) (spaces : Option ℕ) (d : ℕ) (t n r g s u : List ℕ) (a : Bool) (k : MeasuredKind) → begins_with 38 t ≡ true →
    name_at (drop 1 t) ≡ Some (n, r) → lead_at flow (begins_content flow) r ≡ Some (g, s) →
    measured (placed_content flow spaces 0 d s) ≡ Some ((a, k), u) →
    measured (placed_node flow spaces 0 d t) ≡ cond (node_may_follow g (a, k)) (Some ((true, k), u)) None
anchored_is flow spaces d t n r g s u a k amp e f h =
    let y = found (placed_content flow spaces 0 d s) a k u h in
    let may : may_follow_anchor g y.node ≡ node_may_follow g (a, k) = follow_measure g y.node ∙ ap (node_may_follow g) y.measured_as in
    let is : node_measure (anchored_node n (0 - length t) y.node) ≡ (true, k) = with_measure n (0 - length t) y.node ∙ ap (λ (m : Bool × MeasuredKind). (true, m.1)) y.measured_as in
    ap measured (node_anchored flow spaces 0 d t n r g s amp e f ∙ ap (λ o. o >>= then_anchored 0 t n g) y.read)
    ∙ (go (may_follow_anchor g y.node) (anchored_node n (0 - length t) y.node) u ∙ ap (λ (m : Bool × MeasuredKind). cond (may_follow_anchor g y.node) (Some (m, u)) None) is ∙ ap (λ c. cond c (Some ((true, k), u)) None) may)
  where
    go : (c : Bool) (x : Placed) (v : List ℕ) → measured (cond c (Some (x, v)) None) ≡ cond c (Some (node_measure x, v)) None
    go true x v = refl
    go false x v = refl

pub node_apart : (flow : Bool) (spaces : Option ℕ) (d : ℕ) (t n r g s u : List ℕ) (a : Bool) (k : MeasuredKind) → begins_with 38 t ≡ true →
    name_at (drop 1 t) ≡ Some (n, r) → lead_at flow (begins_content flow) r ≡ Some (g, s) →
    measured (placed_content flow spaces 0 d s) ≡ Some ((a, k), u) →
    node_may_follow g (a, k) ≡ false → measured (placed_node flow spaces 0 d t) ≡ None
node_apart flow spaces d t n r g s u a k amp e f h may = anchored_is flow spaces d t n r g s u a k amp e f h ∙ ap (λ c. cond c (Some ((true, k), u)) None) may

pub node_some : (flow : Bool) (spaces : Option ℕ) (d : ℕ) (t n r g s u : List ℕ) (a : Bool) (k : MeasuredKind) → begins_with 38 t ≡ true →
    name_at (drop 1 t) ≡ Some (n, r) → lead_at flow (begins_content flow) r ≡ Some (g, s) →
    measured (placed_content flow spaces 0 d s) ≡ Some ((a, k), u) →
    node_may_follow g (a, k) ≡ true → measured (placed_node flow spaces 0 d t) ≡ Some ((true, k), u)
node_some flow spaces d t n r g s u a k amp e f h may = anchored_is flow spaces d t n r g s u a k amp e f h ∙ ap (λ c. cond c (Some ((true, k), u)) None) may

-- an opening bracket
past_held : (k : ℕ) (o : Option (Parts × List ℕ)) → past_node (o >>= λ x. Some (holder k x.0, x.1)) ≡ past_node o
past_held k None = refl
past_held k (Some x) = refl

pub unopened : (d k : ℕ) (t : List ℕ) → after_bracket d t ≡ None → past_node (placed_coll 0 d k t) ≡ None
unopened d k t h = ap past_node (coll_unopened 0 d k t h)

pub inside : (d k : ℕ) (t r : List ℕ) → after_bracket d t ≡ Some r → past_node (placed_items 0 (d - 1) k r) ≡ past_node (placed_coll 0 d k t)
inside d k t r h = sym (ap past_node (coll_opened 0 d k t r h) ∙ past_held k (placed_items 0 (d - 1) k r))

-- what follows an entry, or item
abbrev past_part : Bool → ℕ → List ℕ → Option (List ℕ)
past_part true d t = past_node (placed_entry 0 d t)
past_part false d t = past_node (placed_item 0 d t)

-- an entry before what follows it, if anything does
abbrev with_entry : List ℕ × Piece → Placed → Option (List ℕ) → Option (((List ℕ × Piece) × Placed) × List ℕ)
with_entry key x o = o >>= λ r. Some ((key, x), r)

past_entry : (key : List ℕ × Piece) (x : Placed) (o : Option (List ℕ)) → past_node (with_entry key x o) ≡ o
past_entry key x None = refl
past_entry key x (Some r) = refl

past_keyed : (key : List ℕ × Piece) (o : Option (Placed × List ℕ)) → past_node (o >>= λ x. with_entry key x.0 (past_sep 125 x.1)) ≡ (measured o >>= past_value true)
past_keyed key None = refl
past_keyed key (Some x) = past_entry key x.0 (past_sep 125 x.1)

past_bare : (o : Option (Placed × List ℕ)) → past_node (o >>= λ x. cond (bare_placed x.0) None (past_sep 93 x.1 >>= λ r. Some (x.0, r))) ≡ (measured o >>= past_value false)
past_bare None = refl
past_bare (Some x) = rw (bare_measure x.0) (go (is_no_node (node_measure x.0)) (past_sep 93 x.1)) where
  go : (c : Bool) (o : Option (List ℕ)) → past_node (cond c None (o >>= λ r. Some (x.0, r))) ≡ cond c None o
  go true o = refl
  go false None = refl
  go false (Some s) = refl

abbrev placed_here : List ℕ → List ℕ × List ℕ → Option ((List ℕ × Piece) × List ℕ)
placed_here t x = Some (key_here 0 t x.0, x.1)

part_is : (keyed : Bool) (d : ℕ) (t : List ℕ) → past_part keyed d t ≡ (from_value keyed t >>= λ u. measured (placed_node true (Some 0) 0 d u) >>= past_value keyed)
part_is true d t = go (split_key t) where
  go : (o : Option (List ℕ × List ℕ)) → past_node ((o >>= placed_here t) >>= λ key. placed_node true (Some 0) 0 d key.1 >>= λ x. with_entry key.0 x.0 (past_sep 125 x.1)) ≡
      (past_node o >>= λ u. measured (placed_node true (Some 0) 0 d u) >>= past_value true)
  go None = refl
  go (Some x) = past_keyed (key_here 0 t x.0) (placed_node true (Some 0) 0 d x.1)
part_is false d t = past_bare (placed_node true (Some 0) 0 d t)

pub items_last : (d k : ℕ) (t : List ℕ) → begins_with k t ≡ true → past_node (placed_items 0 d k t) ≡ Some (drop 1 t)
items_last d k t h = ap past_node (items_end 0 d k t h)

items_are : (d : ℕ) (t : List ℕ) → begins_with 93 t ≡ false → past_node (placed_items 0 d 93 t) ≡ (past_node (placed_item 0 d t) >>= λ r. past_node (placed_items 0 d 93 r))
items_are d t h = ap past_node (items_more 0 d t h) ∙ go (placed_item 0 d t) where
  after : (x : Placed) (o : Option (Parts × List ℕ)) → past_node (o >>= λ y. Some (part None x y.0, y.1)) ≡ past_node o
  after x None = refl
  after x (Some y) = refl

  go : (o : Option (Placed × List ℕ)) → past_node (o >>= λ x. placed_items 0 d 93 x.1 >>= λ y. Some (part None x.0 y.0, y.1)) ≡ (past_node o >>= λ r. past_node (placed_items 0 d 93 r))
  go None = refl
  go (Some x) = after x.0 (placed_items 0 d 93 x.1)

entries_are : (d : ℕ) (t : List ℕ) → begins_with 125 t ≡ false → past_node (placed_items 0 d 125 t) ≡ (past_node (placed_entry 0 d t) >>= λ r. past_node (placed_items 0 d 125 r))
entries_are d t h = ap past_node (entries_more 0 d t h) ∙ go (placed_entry 0 d t) where
  after : (key : List ℕ × Piece) (x : Placed) (o : Option (Parts × List ℕ)) → past_node (o >>= λ y. Some (part (Some key) x y.0, y.1)) ≡ past_node o
  after key x None = refl
  after key x (Some y) = refl

  go : (o : Option (((List ℕ × Piece) × Placed) × List ℕ)) → past_node (o >>= λ x. placed_items 0 d 125 x.1 >>= λ y. Some (part (Some x.0.0) x.0.1 y.0, y.1)) ≡ (past_node o >>= λ r. past_node (placed_items 0 d 125 r))
  go None = refl
  go (Some x) = after x.0.0 x.0.1 (placed_items 0 d 125 x.1)

parts_are : (keyed : Bool) (d : ℕ) (t : List ℕ) → begins_with (closing_byte keyed) t ≡ false → past_node (placed_items 0 d (closing_byte keyed) t) ≡ (past_part keyed d t >>= λ r. past_node (placed_items 0 d (closing_byte keyed) r))
parts_are true d t h = entries_are d t h
parts_are false d t h = items_are d t h

parts_by : (keyed : Bool) (d : ℕ) (t : List ℕ) → begins_with (closing_byte keyed) t ≡ false → past_node (placed_items 0 d (closing_byte keyed) t) ≡
    ((from_value keyed t >>= λ u. measured (placed_node true (Some 0) 0 d u) >>= past_value keyed) >>= λ r. past_node (placed_items 0 d (closing_byte keyed) r))
parts_by keyed d t h = parts_are keyed d t h ∙ ap (λ o. o >>= λ r. past_node (placed_items 0 d (closing_byte keyed) r)) (part_is keyed d t)

pub no_value : (keyed : Bool) (d : ℕ) (t : List ℕ) → begins_with (closing_byte keyed) t ≡ false → from_value keyed t ≡ None → past_node (placed_items 0 d (closing_byte keyed) t) ≡ None
no_value keyed d t h e = parts_by keyed d t h ∙ rw e refl

pub no_measure : (keyed : Bool) (d : ℕ) (t u : List ℕ) → begins_with (closing_byte keyed) t ≡ false → from_value keyed t ≡ Some u →
    measured (placed_node true (Some 0) 0 d u) ≡ None → past_node (placed_items 0 d (closing_byte keyed) t) ≡ None
no_measure keyed d t u h e f = parts_by keyed d t h ∙ rw e (rw f refl)

pub no_sep : (keyed : Bool) (d : ℕ) (t u : List ℕ) (m : (Bool × MeasuredKind) × List ℕ) → begins_with (closing_byte keyed) t ≡ false → from_value keyed t ≡ Some u →
    measured (placed_node true (Some 0) 0 d u) ≡ Some m → past_value keyed m ≡ None → past_node (placed_items 0 d (closing_byte keyed) t) ≡ None
no_sep keyed d t u m h e f g = parts_by keyed d t h ∙ rw e (rw f (rw g refl))

pub parts_on : (keyed : Bool) (d : ℕ) (t u r : List ℕ) (m : (Bool × MeasuredKind) × List ℕ) → begins_with (closing_byte keyed) t ≡ false → from_value keyed t ≡ Some u →
    measured (placed_node true (Some 0) 0 d u) ≡ Some m → past_value keyed m ≡ Some r → past_node (placed_items 0 d (closing_byte keyed) r) ≡ past_node (placed_items 0 d (closing_byte keyed) t)
parts_on keyed d t u r m h e f g = sym (parts_by keyed d t h ∙ rw e (rw f (rw g refl)))

-- an item is longer than nothing
some_item : (b : Bool) (o : Option (List ℕ)) (r : List ℕ) → cond b None o ≡ Some r → b ≡ false
some_item true o r h = cc
some_item false o r h = refl

pub part_shorter : (keyed : Bool) (d : ℕ) (t u s r : List ℕ) (a : Bool) (k : MeasuredKind) → from_value keyed t ≡ Some u → (keyed ≡ true → length u < length t) →
    measured (placed_node true (Some 0) 0 d u) ≡ Some ((a, k), s) → length s ≤ length u → past_value keyed ((a, k), s) ≡ Some r → length r ≤ length s → length r < length t
part_shorter true d t u s r a k at less is le past short = omega (arith, less refl, le, short)
part_shorter false d t u s r a k at less is le past short =
    let y = found (placed_node true (Some 0) 0 d u) a k s is in
    let some : bare_placed y.node ≡ false = bare_measure y.node ∙ (ap is_no_node y.measured_as ∙ some_item (is_no_node (a, k)) (past_sep 93 s) r past) in
    omega (arith, node_shorter 0 d u y.node s y.read some, ap length (same_Some _ _ at), short)
