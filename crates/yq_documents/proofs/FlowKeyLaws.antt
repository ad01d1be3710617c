-- The keys of a node by their places are its keys.
use Rattle.std.proofs.Common.{rules, ◌≡◌, ℕ, ◌+◌, ◌-◌, true, false, cond, ◌&&◌, eqb, List, [], ◌∷◌, ◌++◌, length, take, drop, refl, sym, ap}
use Rattle.std.{proofs.Common.{◌∙◌, append_assoc, length-append, get_or, ◌<◌}, specs.Prelude.String, specs.declared.alloc.Global.Global}
use Rattle.std.proofs.lemmas.List.{take_at, drop_at, drop_more}
use Rattle.yq_core.{specs.declared.piece.Piece.Piece, specs.declared.inline.Inline.Inline, specs.View.{inline_view, items_end, entries_end}}
use Rattle.yq_core.specs.Nodes.{Key, bare, keyed, Sep, last, comma, FlowNode, empty, alias, scalar, coll, anchored, Items, none, item}
use Rattle.yq_core.specs.Nodes.{key_text, sep_text, node_text, flow_items_text, opening_bracket}
use Rattle.yq_core.specs.Places.{Placed, placed, sequence, mapping, Parts, holder, key_placed, anchored_node, locate, locate_items}
use Rattle.yq_core.{proofs.NodesWrittenLaws.node_then, specs.Spans.{HasSpans, PartsHaveSpans}}
use Rattle.yq_core.specs.FitKeys.{has_fit_key, has_fit_keys, each_has_fit_keys}
use Rattle.yq_documents.specs.KeyReading.{EndsIn, key_place_fits, node_fits, form_fits, parts_fit}

pub past : (whole a t : List ℕ) → EndsIn whole (a ++ t) → EndsIn whole t
past whole a t h = (h.0 ++ a, h.1 ∙ sym (append_assoc h.0 a t))

past_node : (whole : List ℕ) (n : FlowNode) (t : List ℕ) → EndsIn whole (node_text n t) → EndsIn whole t
past_node whole n t h = past whole (node_text n []) t (h.0, h.1 ∙ ap (λ l. h.0 ++ l) (node_then n t))

past_sep : (whole : List ℕ) (s : Sep) (t : List ℕ) → EndsIn whole (sep_text s t) → EndsIn whole t
past_sep whole (last b) t h = past whole b t h
past_sep whole (comma b g) t h = past whole g t (past whole (44 ∷ []) (g ++ t) (past whole b (44 ∷ (g ++ t)) h))

past_key : (whole : List ℕ) (key : Key) (t : List ℕ) → EndsIn whole (key_text key t) → EndsIn whole t
past_key whole bare t h = h
past_key whole (keyed p b g) t h = past whole g t (past whole (58 ∷ []) (g ++ t) (past whole b (58 ∷ (g ++ t)) (past whole p (b ++ (58 ∷ (g ++ t))) h)))

-- a key is where its place says
piece_there : (whole p rest : List ℕ) → EndsIn whole (p ++ rest) → take (length whole - length (p ++ rest) + length p - (length whole - length (p ++ rest))) (drop (length whole - length (p ++ rest)) whole) ≡ p
piece_there whole p rest h = search (rules, length-append, drop_at, take_at)

key_there : (whole : List ℕ) (key : Key) (t : List ℕ) → EndsIn whole (key_text key t) → key_place_fits whole (key_placed (length whole) (key_text key t) key) ≡ has_fit_key key
key_there whole key t h = search (rules, piece_there)

-- the same of nodes
held : (whole : List ℕ) (k : ℕ) (parts : Parts) → form_fits whole (holder k parts) ≡ parts_fit whole parts
held whole k parts = elim (eqb k 125) as (λ c. form_fits whole (cond c (mapping parts) (sequence parts)) ≡ parts_fit whole parts) [ true ↦ refl | false ↦ refl ]

with_name : (whole n : List ℕ) (start : ℕ) (p : Placed) → node_fits whole (anchored_node n start p) ≡ node_fits whole p
with_name whole n start (placed a s c e f) = refl

mutual
  unfolding locate locate_items node_text flow_items_text

  -- each key of a node is fit where the key at each place is
  pub keys_there : (whole : List ℕ) (node : FlowNode) (rest : List ℕ) → EndsIn whole (node_text node rest) → node_fits whole (locate (length whole) node rest) ≡ has_fit_keys node
  keys_there whole empty rest h = refl
  keys_there whole (alias n) rest h = refl
  keys_there whole (scalar p) rest h = refl
  keys_there whole (coll k g is) rest h =
      held whole k (locate_items (length whole) k is rest) ∙ items_there whole k is rest (past whole g (flow_items_text k is rest) (past whole (opening_bracket k ∷ []) (g ++ flow_items_text k is rest) h))
  keys_there whole (anchored n g node) rest h =
      with_name whole n _ (locate (length whole) node rest) ∙ keys_there whole node rest (past whole g (node_text node rest) (past whole n (g ++ node_text node rest) (past whole (38 ∷ []) (n ++ (g ++ node_text node rest)) h)))

  pub items_there : (whole : List ℕ) (k : ℕ) (is : Items) (rest : List ℕ) → EndsIn whole (flow_items_text k is rest) → parts_fit whole (locate_items (length whole) k is rest) ≡ each_has_fit_keys is
  items_there whole k none rest h = refl
  items_there whole k (item key n s is) rest h =
      let after = flow_items_text k is rest in
      let at_node = past_key whole key (node_text n (sep_text s after)) h in
      let one = key_there whole key (node_text n (sep_text s after)) h in
      let two = keys_there whole n (sep_text s after) at_node in
      let three = items_there whole k is rest (past_sep whole s after (past_node whole n (sep_text s after) at_node)) in
      λ i. one i && (two i && three i)

-- an entry of the code is one of those that are
pub entry_is_there : (t : List ℕ) (xs : List (String Global × Piece × Inline)) (i : ℕ) (x : String Global × Piece × Inline) → i < length xs → x ≡ get_or xs i x → PartsHaveSpans t (entries_end (drop i xs)) → HasSpans t (inline_view x.2)
entry_is_there t xs i x within is h = search (rules, drop_more)

pub item_is_there : (t : List ℕ) (xs : List Inline) (i : ℕ) (x : Inline) → i < length xs → x ≡ get_or xs i x → PartsHaveSpans t (items_end (drop i xs)) → HasSpans t (inline_view x)
item_is_there t xs i x within is h = search (rules, drop_more)
