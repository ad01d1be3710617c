-- The places of a node lie in order, at whole characters.
use Rattle.std.proofs.Common.{◌≡◌, ℕ, zero, suc, ◌+◌, ◌-◌, ◌≤◌, Bool, true, false, cond, eqb, List, [], ◌∷◌, ◌++◌, length, take, Option}
use Rattle.std.proofs.Common.{Some, None, refl, sym, ap, ◌∙◌, subst, append_assoc, arith, length-append, ℤ, Result, Ok, Err, IfOk, rules}
use Rattle.std.{proofs.lemmas.Str.{IsCharBoundary-at_seam, IsUtf8-drop}, proofs.lemmas.List.take-append-drop}
use Rattle.std.specs.Str.{IsUtf8, IsCharBoundary}
use Rattle.yq_core.{specs.Answers.{ReadError, Gives}, specs.declared.style.Place.Place, specs.Piece.further_spaces, specs.Writable.in_flow}
use Rattle.yq_core.specs.Inline.{depth_limit, IsInlineAt, inline_at}
use Rattle.yq_core.specs.Nodes.{Key, bare, keyed, Sep, FlowNode, empty, alias, scalar, coll, anchored, Items, none, item, key_text}
use Rattle.yq_core.specs.Nodes.{sep_text, node_text, flow_items_text, is_close, opening_bracket, begins_content, IsInlineKey, IsSep}
use Rattle.yq_core.specs.Nodes.{IsFlowNode, AreFlowItems}
use Rattle.yq_core.specs.Places.{Placed, placed, sequence, mapping, Parts, holder, key_placed, locate, locate_items, anchored_node}
use Rattle.yq_core.{specs.Spans.{IsSpan, HasKeySpan, HasSpans, ContentHasSpans, PartsHaveSpans}, proofs.InlineLaws.inline_takes}
use Rattle.yq_core.proofs.NodeAgain.{node_longer}
use Rattle.yq_core.proofs.PastLaws.{byte_past, gap_past, name_past, lead_past, key_past, sep_past, scalar_past, node_past, items_past}
use Rattle.yq_core.{proofs.PastLaws.open_low, proofs.NodesWrittenLaws.{key_append, sep_append, node_append, items_append}}

-- what is left of a text from a character on
record IsLeft (t r : List ℕ) : Type 0 where
  before : List ℕ
  is : t ≡ before ++ r
  utf8 : IsUtf8 r

boundary : (t r : List ℕ) → IsLeft t r → IsCharBoundary t (length t - length r)
boundary t r h =
    let there : length h.before ≡ length t - length r = omega (arith, ap length h.is, length-append h.before r) in
    subst (λ (n : ℕ). IsCharBoundary t n) there (IsCharBoundary-at_seam t h.before r h.is h.utf8)

-- a piece less
less : (t a p r : List ℕ) → a ≡ p ++ r → IsLeft t a → IsUtf8 r → IsLeft t r
less t a p r same h u = record { before = h.before ++ p; is = h.is ∙ (ap (λ l. h.before ++ l) same ∙ sym (append_assoc h.before p r)); utf8 = u }

span : (t a b : List ℕ) → IsLeft t a → IsLeft t b → length b ≤ length a → IsSpan t (length t - length a) (length t - length b)
span t a b x y le = record { ordered = omega (arith, le); begins = boundary t a x; ends = boundary t b y }

empty_span : (t a : List ℕ) → IsLeft t a → IsSpan t (length t - length a) (length t - length a)
empty_span t a x = span t a a x x (omega arith)

holder_spans : (t : List ℕ) (k : ℕ) (parts : Parts) → PartsHaveSpans t parts → ContentHasSpans t (holder k parts)
holder_spans t k parts h = elim (eqb k 125) as (λ c. ContentHasSpans t (cond c (mapping parts) (sequence parts))) [ true ↦ h | false ↦ h ]

-- a node with an anchor before it
abbrev content_of : Placed → ℕ
content_of (placed a s c e f) = c

anchor_spans : (t n : List ℕ) (start : ℕ) (p : Placed) → IsSpan t start (content_of p) → HasSpans t p → HasSpans t (anchored_node n start p)
anchor_spans t n start (placed a s c e f) first h = (first, h.1, h.2)

content_from : (total : ℕ) (node : FlowNode) (rest : List ℕ) → total - length (node_text node rest) ≤ content_of (locate total node rest)
unfolding locate node_text
content_from total (anchored n g node) rest =
    let a : List ℕ = 38 ∷ (n ++ (g ++ node_text node rest)) in
    search (rules, length-append, a, content_from total node rest)
content_from total _ rest = omega arith

content_ends : (t : List ℕ) (p : Placed) → HasSpans t p → IsCharBoundary t (content_of p)
content_ends t (placed a s c e f) h = h.0.ends

key_spans : (t : List ℕ) (k : ℕ) (key : Key) (r : List ℕ) → IsInlineKey k key r → IsLeft t (key_text key r) → HasKeySpan t (key_placed (length t) (key_text key r) key)
key_spans t k bare r h x = tt
key_spans t k (keyed p b g) r h x =
    let more : List ℕ = b ++ (58 ∷ (g ++ r)) in
    let after = less t (p ++ more) p more refl x (scalar_past true None p more h.1 x.utf8) in
    let there : length t - length (p ++ more) + length p ≡ length t - length more = search (rules, length-append, more) in
    subst (λ (n : ℕ). IsSpan t (length t - length (p ++ more)) n) (sym there) (span t (p ++ more) more x after (omega (arith, length-append p more)))

past_key : (t : List ℕ) (k : ℕ) (key : Key) (r : List ℕ) → IsInlineKey k key r → IsLeft t (key_text key r) → IsLeft t r
past_key t k key r h x = less t (key_text key r) (key_text key []) r (key_append key [] r) x (key_past k key r h x.utf8)

past_sep : (t : List ℕ) (k : ℕ) (s : Sep) (r : List ℕ) → IsSep k s r → IsLeft t (sep_text s r) → IsLeft t r
past_sep t k s r h x = less t (sep_text s r) (sep_text s []) r (sep_append s [] r) x (sep_past k s r h x.utf8)

past_node : (t : List ℕ) (flow : Bool) (spaces : Option ℕ) (node : FlowNode) (d : ℕ) (r : List ℕ) → IsFlowNode flow spaces d node r → IsLeft t (node_text node r) → IsLeft t r
past_node t flow spaces node d r h x = less t (node_text node r) (node_text node []) r (node_append node [] r) x (node_past flow spaces node d r h x.utf8)

past_items : (t : List ℕ) (k : ℕ) (is : Items) (d : ℕ) (r : List ℕ) → is_close k ≡ true → AreFlowItems d k is r → IsLeft t (flow_items_text k is r) → IsLeft t r
past_items t k is d r c h x = less t (flow_items_text k is r) (flow_items_text k is []) r (items_append k is [] r) x (items_past k is d r c h x.utf8)

past_anchor : (t : List ℕ) (flow : Bool) (spaces : Option ℕ) (n g : List ℕ) (node : FlowNode) (d : ℕ) (rest : List ℕ) →
    IsFlowNode flow spaces d (anchored n g node) rest → IsLeft t (38 ∷ (n ++ (g ++ node_text node rest))) → IsLeft t (node_text node rest)
unfolding IsFlowNode
past_anchor t flow spaces n g node d rest h x =
    let inner : List ℕ = node_text node rest in
    let named = name_past n (g ++ inner) h.0 (byte_past 38 (n ++ (g ++ inner)) (omega arith) x.utf8) in
    less t (38 ∷ (n ++ (g ++ inner))) (38 ∷ (n ++ g)) inner (ap (λ l. 38 ∷ l) (sym (append_assoc n g inner))) x (lead_past flow (begins_content flow) g inner h.1 named)

mutual
  unfolding locate locate_items node_text flow_items_text IsFlowNode AreFlowItems

  node_spans : (t : List ℕ) (flow : Bool) (spaces : Option ℕ) (node : FlowNode) (d : ℕ) (rest : List ℕ) → IsFlowNode flow spaces d node rest → IsLeft t (node_text node rest) → HasSpans t (locate (length t) node rest)
  node_spans t flow spaces empty d rest h x = (empty_span t rest x, empty_span t rest x, tt)
  node_spans t flow spaces (alias n) d rest h x =
      let a : List ℕ = 42 ∷ (n ++ rest) in
      (empty_span t a x, span t a rest x (past_node t flow spaces (alias n) d rest h x) (node_longer (alias n) rest), tt)
  node_spans t flow spaces (scalar p) d rest h x =
      let s = span t (p ++ rest) rest x (past_node t flow spaces (scalar p) d rest h x) (node_longer (scalar p) rest) in
      (empty_span t (p ++ rest) x, s, s)
  node_spans t flow spaces (coll k g is) zero rest h x = absurd h.2
  node_spans t flow spaces (coll k g is) (suc d) rest h x =
      let a : List ℕ = opening_bracket k ∷ (g ++ flow_items_text k is rest) in
      let inner_utf8 = gap_past g (flow_items_text k is rest) h.1 (byte_past (opening_bracket k) (g ++ flow_items_text k is rest) (open_low k) x.utf8) in
      let inner = less t a (opening_bracket k ∷ g) (flow_items_text k is rest) refl x inner_utf8 in (
        empty_span t a x,
        span t a rest x (past_items t k is d rest h.0 h.2 inner) (node_longer (coll k g is) rest),
        holder_spans t k (locate_items (length t) k is rest) (items_spans t k is d rest h.0 h.2 inner),
      )
  node_spans t flow spaces (anchored n g node) d rest h x =
      let a : List ℕ = 38 ∷ (n ++ (g ++ node_text node rest)) in
      let spans = node_spans t flow spaces node d rest h.4 (past_anchor t flow spaces n g node d rest h x) in
      let from = content_from (length t) node rest in
      let longer : length (node_text node rest) ≤ length a = omega (arith, length-append n (g ++ node_text node rest), length-append g (node_text node rest)) in
      anchor_spans t n (length t - length a) (locate (length t) node rest)
      (record { ordered = omega (arith, from, longer); begins = boundary t a x; ends = content_ends t (locate (length t) node rest) spans }) spans

  items_spans : (t : List ℕ) (k : ℕ) (is : Items) (d : ℕ) (rest : List ℕ) → is_close k ≡ true → AreFlowItems d k is rest → IsLeft t (flow_items_text k is rest) → PartsHaveSpans t (locate_items (length t) k is rest)
  items_spans t k none d rest c h x = tt
  items_spans t k (item key n s is) d rest c h x =
      let after : List ℕ = sep_text s (flow_items_text k is rest) in
      let inner = past_key t k key (node_text n after) h.0 x in
      let y = past_node t true (Some 0) n d after h.2 inner in
      let z = past_sep t k s (flow_items_text k is rest) h.3 y in
      (key_spans t k key (node_text n after) h.0 x, node_spans t true (Some 0) n d after h.2 inner, items_spans t k is d rest c h.4 z)

-- the node at an offset of a text
pub inline_spans : (place : Place) (n : ℤ) (depth at : ℕ) (t : List ℕ) (p : Placed) → IsInlineAt place n depth at t p → IsUtf8 t → IsCharBoundary t at → HasSpans t p
inline_spans place n depth at t p h u b =
    let x : IsLeft t (node_text h.node h.rest) = record {
      before = take at t;
      is = sym (take-append-drop at t) ∙ ap (λ l. take at t ++ l) h.is_located;
      utf8 = subst IsUtf8 h.is_located (IsUtf8-drop t at u b);
    } in
    subst (HasSpans t) (sym h.places) (node_spans t (in_flow place) (further_spaces place n) h.node (depth_limit - depth) h.rest h.inline.valid x)

pub spans_by : {X : Type 0} (v : X → Placed) (place : Place) (n : ℤ) (depth at : ℕ) (t : List ℕ) (r : Result X ReadError) → Gives v r (inline_at place n depth at t) → IsUtf8 t → IsCharBoundary t at → IfOk r (λ x. HasSpans t (v x))
spans_by v place n depth at t (Ok x) h u b = inline_spans place n depth at t (v x) (inline_takes place n depth at t (v x) h) u b
spans_by v place n depth at t (Err e) h u b = tt
