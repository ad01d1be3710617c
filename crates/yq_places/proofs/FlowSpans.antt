-- The spans of items and entries in flow.
use Rattle.std.proofs.Common.{◌≡◌, ℕ, ◌+◌, ◌-◌, List, [], ◌∷◌, ◌++◌, length, option_map, refl, sym, ap, ◌∙◌, arith, append_assoc}
use Rattle.std.proofs.Common.{length-append, rules}
use Rattle.yq_core.specs.Entries.{entry_place, content_place, locate_entry}
use Rattle.yq_core.specs.Nodes.{Key, bare, keyed, FlowNode, empty, alias, scalar, coll, anchored, key_text, node_text}
use Rattle.yq_core.{specs.Places.{Placed, placed, locate, anchored_node}, proofs.NodesWrittenLaws.{key_append, node_then}}
use Rattle.yq_core.proofs.EditPlaces.{start_placed, end_placed}
use Rattle.yq_documents.specs.Pieces.{piece_span, node_piece}
use Rattle.yq_places.{specs.PathPieces.{FlowEntry, flow_piece, flow_content}, proofs.PieceTexts.item_text, proofs.FlowPieces.pieces}

-- pieces of items by their places
pub item_place : (y : FlowEntry) (total : ℕ) → total ≡ length (item_text y) → entry_place (locate_entry total (pieces y)) ≡ piece_span (flow_piece y)
item_place y total e = (λ i. (start y.key refl i, stop i))
  where
    text : length (item_text y) ≡ length y.before + length (key_text y.key (node_text y.node y.after))
    text = length-append y.before (key_text y.key (node_text y.node y.after))

    split : length (key_text y.key (node_text y.node y.after)) ≡ length (key_text y.key (node_text y.node [])) + length y.after
    split = ap length (ap (key_text y.key) (node_then y.node y.after) ∙ key_append y.key (node_text y.node []) y.after) ∙ length-append (key_text y.key (node_text y.node [])) y.after

    start : (k : Key) → y.key ≡ k → (entry_place (locate_entry total (record { key = k; node = y.node; rest = y.after }))).0 ≡ length y.before
    start bare is = start_placed total y.node y.after ∙ omega (arith, e, text, ap (λ j. length (key_text j (node_text y.node y.after))) is)
    start (keyed t b g) is = omega (arith, e, text, ap (λ j. length (key_text j (node_text y.node y.after))) is)

    stop : (entry_place (locate_entry total (pieces y))).1 ≡ length y.before + length (key_text y.key (node_text y.node []))
    stop = end_placed total y.node y.after ∙ omega (arith, e, text, split)

pub anchor_place : (n : List ℕ) (start : ℕ) (p : Placed) → content_place (anchored_node n start p) ≡ content_place p
anchor_place n start (placed a s c e f) = refl

pub node_place : (total : ℕ) (before : List ℕ) (node : FlowNode) (rest : List ℕ) → total ≡ length (before ++ node_text node rest) → content_place (locate total node rest) ≡ option_map piece_span (node_piece before node rest)
unfolding locate node_text
node_place total before empty rest e = refl
node_place total before (alias n) rest e = search (rules, length-append, node_then)
node_place total before (scalar p) rest e = search (rules, length-append, node_then)
node_place total before (coll k g is) rest e =
    let text = length-append before (node_text (coll k g is) rest) in
    let split = ap length (node_then (coll k g is) rest) ∙ length-append (node_text (coll k g is) []) rest in
    search (rules, text, split)
node_place total before (anchored n g node) rest e =
    anchor_place n (total - length (node_text (anchored n g node) rest)) (locate total node rest)
    ∙ node_place total (before ++ 38 ∷ (n ++ g)) node rest (e ∙ ap length (ap (λ l. before ++ (38 ∷ l)) (sym (append_assoc n g (node_text node rest))) ∙ sym (append_assoc before (38 ∷ (n ++ g)) (node_text node rest))))

pub value_place : (y : FlowEntry) (total : ℕ) → total ≡ length (item_text y) → content_place (locate total y.node y.after) ≡ option_map piece_span (flow_content y)
value_place y total e = search (rules, node_place, key_append, append_assoc)
