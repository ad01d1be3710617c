-- Inline nodes after a mark, as the code lends them.
use Rattle.std.proofs.Common.{rules, ◌≡◌, ℕ, ◌+◌, ◌-◌, ◌<◌, ◌≤◌, Bool, true, false, cond, not, ◌&&◌, ◌||◌, eqb, List, [], ◌∷◌, ◌++◌, length}
use Rattle.std.{proofs.Common.{take, drop, Option, Some, None, refl, sym, ap, ◌∙◌, subst, ℤ}, proofs.lemmas.Bool.{false≢true, cond_both}}
use Rattle.std.{proofs.Math.Seq.{take-append_seam, drop-append_seam}, proofs.lemmas.Option.same_Some, specs.List.prefix_len}
use Rattle.std.specs.Str.{IsUtf8, IsCharBoundary}
use Rattle.yq_core.{specs.Answers.◌>>=◌, specs.Piece.deeper, specs.Text.{cut, no_white, is_empty}, proofs.Bools.bind_some}
use Rattle.yq_core.{proofs.Upto.{cut-append, upto-append, upto_here, upto_unless, upto_le_length}, specs.Inline.depth_limit}
use Rattle.yq_core.specs.Nodes.{FlowNode, empty, alias, scalar, coll, anchored, node_text, flow_items_text, begins_with, in_name}
use Rattle.yq_core.specs.Nodes.{begins_content, is_empty_node, takes_anchor, IsFlowNode, IsLead}
use Rattle.yq_core.specs.Places.{Placed, placed, Parts, mapping, sequence, placed_between, locate, locate_items, anchored_node, holder}
use Rattle.yq_core.{specs.PlacedReading.placed_node, specs.Reading.all_node, specs.Scalars.{is_quoted, begins_scalar, scalar_style}}
use Rattle.yq_core.{proofs.Bounds.boundary_name, proofs.NodeLaws.all_takes, proofs.NodesPieceLaws.{front_not, scalar_begins}}
use Rattle.yq_core.proofs.NodesWrittenLaws.{node_then}
use Rattle.yq_row_table.specs.Grammar.{is_more, is_plain_content}
use Rattle.yq_row_table.specs.Slicing.{cut_anchor, cut_lead, nothing_placed, is_plain_style, plain_placed, inline_sliced}
use Rattle.yq_row_table.{specs.Reading.{read_tail, inline_content_at}, specs.View.anchor_cut, proofs.Fronts.node_starts}
use Rattle.yq_row_table.{proofs.MarkAgain.scalar_node, proofs.FrontLaws.{front_take, front_boundary, front_le}, proofs.NodeFronts.bare_or}

-- the anchor in front
pub anchor_some : (t : List ℕ) (n : ℕ) → begins_with 38 t ≡ true → n ≡ prefix_len in_name (drop 1 t) → (take (n + 1) t, drop (n + 1) t) ≡ cut_anchor t
anchor_some t n h e = search (rules, upto_unless)

pub anchor_none : (t : List ℕ) → begins_with 38 t ≡ false → ([], t) ≡ cut_anchor t
anchor_none t h = rw h refl

pub anchor_within : (t u : List ℕ) (n : ℕ) → u ≡ drop 1 t → length u < length t → n ≡ prefix_len in_name u → n + 1 ≤ length t
anchor_within t u n one short e = search (rules, upto_le_length, upto_unless)

pub anchor_boundary : (t u : List ℕ) (n : ℕ) → u ≡ drop 1 t → length u < length t → n ≡ prefix_len in_name u → IsCharBoundary t (n + 1)
anchor_boundary t u n one short e =
    let at_name : IsCharBoundary (drop 1 t) n = subst (λ (x : List ℕ). IsCharBoundary x n) one (boundary_name u n e) in
    search rules

-- nothing, perhaps after an anchor
abbrev pub is_nothing : FlowNode → Bool
is_nothing empty = true
is_nothing (alias n) = false
is_nothing (scalar p) = false
is_nothing (coll k g is) = false
is_nothing (anchored n g node) = is_empty_node node

nothing_more : (node : FlowNode) → is_more node ≡ not (is_nothing node)
nothing_more node = search rules

nothing_with : (n : List ℕ) (start : ℕ) (s : Placed) → nothing_placed (anchored_node n start s) ≡ nothing_placed s
nothing_with n start (placed a b c e f) = refl

plain_with : (n : List ℕ) (start : ℕ) (s : Placed) → plain_placed (anchored_node n start s) ≡ plain_placed s
plain_with n start (placed a b c e f) = refl

holder_is : (total k : ℕ) (t rest : List ℕ) (s : Parts) → (nothing_placed (placed_between total t rest (holder k s)) ≡ false) × (plain_placed (placed_between total t rest (holder k s)) ≡ false)
holder_is total k t rest s =
    elim (eqb k 125) as (λ d. (nothing_placed (placed_between total t rest (cond d (mapping s) (sequence s))) ≡ false)
    × (plain_placed (placed_between total t rest (cond d (mapping s) (sequence s))) ≡ false)) [ true ↦ (refl, refl) | false ↦ (refl, refl) ]

nothing_inner : (total : ℕ) (node : FlowNode) (rest : List ℕ) → takes_anchor node ≡ true → nothing_placed (locate total node rest) ≡ is_empty_node node
unfolding locate
nothing_inner total node rest h = search (rules, holder_is, false≢true)

nothing_locate : (spaces : Option ℕ) (d total : ℕ) (node : FlowNode) (rest : List ℕ) → IsFlowNode false spaces d node rest → nothing_placed (locate total node rest) ≡ is_nothing node
unfolding locate IsFlowNode
nothing_locate spaces d total node rest h = search (rules, holder_is, nothing_with, nothing_inner)

style_plain : (p : List ℕ) → is_plain_style (scalar_style p) ≡ not (is_quoted p)
style_plain p = search rules

plain_locate : (total : ℕ) (node : FlowNode) (rest : List ℕ) → plain_placed (locate total node rest) ≡ is_plain_content node
unfolding locate
plain_locate total (scalar p) rest = style_plain p
plain_locate total (coll k g is) rest = (holder_is total k (node_text (coll k g is) rest) rest (locate_items total k is rest)).1
plain_locate total (anchored n g node) rest = plain_with n _ (locate total node rest) ∙ plain_locate total node rest
plain_locate total _ rest = refl

-- The pieces of a node in front of a text.
pub record LeadingPieces (node : FlowNode) (t rest : List ℕ) : Type 0 where
  pub anchor : (cut_anchor t).0 ≡ (anchor_cut node).0
  pub apart : (cut_lead (is_nothing node) (cut_anchor t).1).0 ≡ (anchor_cut node).1
  pub head : (cut_lead (is_nothing node) (cut_anchor t).1).1 ≡ (anchor_cut node).2 ++ rest

no_white_cut : (t : List ℕ) → no_white t ≡ true → cut no_white t ≡ ([], t)
no_white_cut t h = rw (upto_here no_white t h) refl

unanchored : (node : FlowNode) (rest : List ℕ) → begins_with 38 (node_text node rest) ≡ false → no_white (node_text node rest) ≡ true →
    is_nothing node ≡ false → anchor_cut node ≡ ([], [], node_text node []) → LeadingPieces node (node_text node rest) rest
unanchored node rest amp white some is = search (rules, anchor_none, no_white_cut, node_then)

-- a content is something
content_some : (spaces : Option ℕ) (d : ℕ) (node : FlowNode) (rest : List ℕ) → IsFlowNode false spaces d node rest → begins_content false (node_text node rest) ≡ true → is_empty_node node ≡ false
unfolding node_text IsFlowNode
content_some spaces d node rest h begins = search (rules, false≢true)

-- what is after an anchor
lead_front : (spaces : Option ℕ) (d : ℕ) (g : List ℕ) (node : FlowNode) (rest : List ℕ) → IsFlowNode false spaces d node rest →
    IsLead false (begins_content false) g (node_text node rest) → (is_empty_node node || not (is_empty g)) ≡ true →
    cut_lead (is_empty_node node) (g ++ node_text node rest) ≡ (g, node_text node rest)
lead_front spaces d g node rest h l some = search (rules, content_some, cut-append, bare_or)

pub before_offset : (spaces : Option ℕ) (d : ℕ) (node : FlowNode) (rest : List ℕ) → IsFlowNode false spaces d node rest → LeadingPieces node (node_text node rest) rest
unfolding node_text IsFlowNode
before_offset spaces d empty rest h = search (rules, anchor_none)
before_offset spaces d (alias n) rest h = unanchored (alias n) rest refl refl refl refl
before_offset spaces d (scalar p) rest h =
    let begins = scalar_begins false spaces p rest h in
    unanchored (scalar p) rest (front_not (begins_scalar false) 38 (λ cs. refl) (p ++ rest) begins) (node_starts (p ++ rest) (scalar_node (p ++ rest) begins)).no_white refl refl
before_offset spaces d (coll k g is) rest h =
    let front : (begins_with 38 (node_text (coll k g is) rest) ≡ false) × (no_white (node_text (coll k g is) rest) ≡ true) =
    cond_both (eqb k 125) 123 91
    (λ (b : ℕ). (begins_with 38 (b ∷ (g ++ flow_items_text k is rest)) ≡ false) × (no_white (b ∷ (g ++ flow_items_text k is rest)) ≡ true))
    (λ _. (refl, refl)) (λ _. (refl, refl)) in
    unanchored (coll k g is) rest front.0 front.1 refl refl
before_offset spaces d (anchored n g node) rest h = search (rules, upto-append, take-append_seam, drop-append_seam, lead_front, node_then)

-- What the code knows of a node in front of a text.
pub record Read (spaces : Option ℕ) (t rest : List ℕ) (s : Placed) : Type 0 where
  pub node : FlowNode
  pub read : all_node false spaces depth_limit t ≡ Some (node, rest)
  pub anchor : (cut_anchor t).0 ≡ (anchor_cut node).0
  pub apart : (cut_lead (nothing_placed s) (cut_anchor t).1).0 ≡ (anchor_cut node).1
  pub head : (cut_lead (nothing_placed s) (cut_anchor t).1).1 ≡ (anchor_cut node).2 ++ rest
  pub more : is_more node ≡ not (nothing_placed s)
  pub plain : is_plain_content node ≡ plain_placed s

pub node_read : (spaces : Option ℕ) (total : ℕ) (t rest : List ℕ) (s : Placed) → placed_node false spaces total depth_limit t ≡ Some (s, rest) → Read spaces t rest s
node_read spaces total t rest s h =
    let x = bind_some (all_node false spaces depth_limit t) h in
    let pair : (locate total x.0.0 x.0.1, x.0.1) ≡ (s, rest) = same_Some _ _ x.2 in
    let after : x.0.1 ≡ rest = ap (λ (y : Placed × List ℕ). y.1) pair in
    let here : locate total x.0.0 x.0.1 ≡ s = ap (λ (y : Placed × List ℕ). y.0) pair in
    let law = all_takes false spaces depth_limit t x.0 x.1 in
    let nothing : nothing_placed s ≡ is_nothing x.0.0 = ap nothing_placed (sym here) ∙ nothing_locate spaces depth_limit total x.0.0 x.0.1 law.1 in
    let f : LeadingPieces x.0.0 t x.0.1 = subst (λ (u : List ℕ). LeadingPieces x.0.0 u x.0.1) (sym law.0) (before_offset spaces depth_limit x.0.0 x.0.1 law.1) in
    record {
      node = x.0.0;
      read = x.1 ∙ ap (λ (r : List ℕ). Some (x.0.0, r)) after;
      anchor = f.anchor;
      apart = rw nothing f.apart;
      head = rw nothing (f.head ∙ ap (λ (r : List ℕ). (anchor_cut x.0.0).2 ++ r) after);
      more = nothing_more x.0.0 ∙ ap not (sym nothing);
      plain = sym (plain_locate total x.0.0 x.0.1) ∙ ap plain_placed here;
    }

pub lead_here : (t a r g u : List ℕ) (b : Bool) (s : Placed) → (a, r) ≡ cut_anchor t → b ≡ nothing_placed s → (g, u) ≡ cut_lead b r → (g, u) ≡ cut_lead (nothing_placed s) (cut_anchor t).1
lead_here t a r g u b s anchor same lead = lead ∙ (ap (λ c. cut_lead c r) same ∙ ap (λ (y : List ℕ × List ℕ). cut_lead (nothing_placed s) y.1) anchor)

-- the head is what comes before what follows the node
pub head_within : (spaces : Option ℕ) (t rest u : List ℕ) (s : Placed) → Read spaces t rest s → u ≡ (cut_lead (nothing_placed s) (cut_anchor t).1).1 → length rest ≤ length u
head_within spaces t rest u s r e = front_le u (anchor_cut r.node).2 rest (e ∙ r.head)

pub head_boundary : (spaces : Option ℕ) (t rest u : List ℕ) (s : Placed) → Read spaces t rest s → u ≡ (cut_lead (nothing_placed s) (cut_anchor t).1).1 → IsUtf8 rest → IsCharBoundary u (length u - length rest)
head_boundary spaces t rest u s r e utf8 = front_boundary u (anchor_cut r.node).2 rest (e ∙ r.head) utf8

-- a node after white space, and its tail
pub inline_some : (n : ℤ) (space t a r g u after tail rest : List ℕ) (s : Placed) (some plain : Bool) → Read (Some (deeper n)) t after s →
    (a, r) ≡ cut_anchor t → (g, u) ≡ cut_lead (nothing_placed s) (cut_anchor t).1 → read_tail after ≡ Some (tail, rest) →
    plain ≡ plain_placed s → some ≡ (is_empty space && not (nothing_placed s)) →
    inline_sliced n space t ≡ Some (record { space = space; anchor = a; apart = g; head = take (length u - length after) u; tail = tail; raw = []; plain = plain; alone = some; rest = rest })
unfolding inline_content_at
inline_some n space t a r g u after tail rest s some plain h anchor lead_is ends plain_is some_is = search (rules, front_take)

abbrev located : ℕ → FlowNode × List ℕ → Option (Placed × List ℕ)
located total x = Some (locate total x.0 x.1, x.1)

no_node : (total : ℕ) (o : Option (FlowNode × List ℕ)) → (o >>= located total) ≡ None → o ≡ None
no_node total o h = search rules

pub inline_no_node : (n : ℤ) (space t : List ℕ) (total : ℕ) → placed_node false (Some (deeper n)) total depth_limit t ≡ None → inline_sliced n space t ≡ None
unfolding inline_content_at
inline_no_node n space t total h = rw (no_node total (all_node false (Some (deeper n)) depth_limit t) h) refl

-- the white space after an anchor, as the code cuts it
pub lead_none : (b : Bool) (t : List ℕ) → b ≡ true → ([], t) ≡ cut_lead b t
lead_none b t h = rw h refl

pub lead_some : (b : Bool) (t : List ℕ) (x : List ℕ × List ℕ) → b ≡ false → x ≡ cut no_white t → x ≡ cut_lead b t
lead_some b t x h e = rw h e

pub inline_no_tail : (n : ℤ) (space t after : List ℕ) (s : Placed) → Read (Some (deeper n)) t after s → read_tail after ≡ None → inline_sliced n space t ≡ None
unfolding inline_content_at
inline_no_tail n space t after s h ends = rw (h.read, ends) refl
