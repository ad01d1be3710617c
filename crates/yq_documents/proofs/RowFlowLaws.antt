-- The alias or flow collection in a row's head is where its pieces say.
use Rattle.std.proofs.Common.{rules, ◌≡◌, ℕ, ℤ, ◌-◌, true, false, List, [], ◌++◌, length, Some, None, refl, sym, ap, ◌∙◌, ⊎_elim}
use Rattle.std.{proofs.Common.{append-nil, subst}, proofs.lemmas.Bool.{false≢true, cases_Bool}}
use Rattle.yq_core.{specs.Answers.◌>>=◌, specs.Piece.deeper, specs.Text.is_empty, specs.Inline.{depth_limit, IsInlineAt}}
use Rattle.yq_core.{specs.Nodes.{FlowNode, empty, scalar, node_text, is_empty_node, IsFlowNode, without_anchor}, specs.Places.locate}
use Rattle.yq_core.{specs.Scalars.is_quoted, proofs.InlineLaws.inline_again, proofs.NodeAgain.{is_anchored, takes_unanchored}}
use Rattle.yq_core.proofs.NodesWrittenLaws.{node_then}
use Rattle.yq_row_table.{specs.Grammar.IsContent, specs.Rows.{Content, parent_indent}, specs.View.{Slices, anchor_cut, content_cut}}
use Rattle.yq_documents.specs.FlowReading.{alias_or_collection, node_flow_at, head_flow_at, content_core, row_flow}
use Rattle.yq_documents.{specs.KeyReading.EndsIn, specs.RowReading.{is_short_plain, is_block_head, HasHead}}
use Rattle.yq_documents.proofs.HeadLaws.{ends_drop, head_text, opens, block_marks, scalar_some_is}
use Rattle.yq_outline.specs.Lines.{tail_of}
use Rattle.yq_core.specs.declared.style.Place.TheVariants as places

-- an inline node that is read
pub node_again : (whole : List ℕ) (n : ℤ) (node : FlowNode) (rest : List ℕ) → is_empty_node node ≡ false → EndsIn whole (node_text node rest) →
    IsFlowNode false (Some (deeper n)) depth_limit node rest →
    node_flow_at whole n (node_text node rest) ≡ alias_or_collection (locate (length whole) node rest)
node_again whole n node rest some ends h =
    let at : ℕ = length whole - length (node_text node rest) in
    let p = locate (length whole) node rest in
    let is : IsInlineAt places.Block n 0 at whole p = search (rules, ends_drop) in
    ap (λ o. o >>= alias_or_collection) (inline_again places.Block n 0 at whole p is)

-- which head a text is
pub by_node : (whole : List ℕ) (n : ℤ) (head t : List ℕ) → is_empty head ≡ false → is_block_head head ≡ false → is_quoted head ≡ false → is_short_plain head ≡ false → head_flow_at whole n head t ≡ node_flow_at whole n t
unfolding head_flow_at
by_node whole n head t some block quoted short = rw (some, block, short, quoted) refl

by_plain : (whole : List ℕ) (n : ℤ) (head t : List ℕ) → is_empty head ≡ false → is_block_head head ≡ false → is_quoted head ≡ false → is_short_plain head ≡ true → head_flow_at whole n head t ≡ None
unfolding head_flow_at
by_plain whole n head t some block quoted short = rw (some, block, short, quoted) refl

by_quotes : (whole : List ℕ) (n : ℤ) (head t : List ℕ) → is_empty head ≡ false → is_block_head head ≡ false → is_quoted head ≡ true → head_flow_at whole n head t ≡ None
unfolding head_flow_at
by_quotes whole n head t some block quoted = rw (some, block, quoted) refl

by_block : (whole : List ℕ) (n : ℤ) (head t : List ℕ) → is_empty head ≡ false → is_block_head head ≡ true → head_flow_at whole n head t ≡ None
unfolding head_flow_at
by_block whole n head t some block = rw (some, block) refl

by_nothing : (whole : List ℕ) (n : ℤ) (t : List ℕ) → head_flow_at whole n [] t ≡ None
unfolding head_flow_at
by_nothing whole n t = refl

-- nothing and scalars aren't kept
empty_none : (total : ℕ) (rest : List ℕ) → None ≡ alias_or_collection (locate total empty rest)
unfolding locate
empty_none total rest = refl

scalar_none : (total : ℕ) (p rest : List ℕ) → None ≡ alias_or_collection (locate total (scalar p) rest)
unfolding locate
scalar_none total p rest = refl

scalar_is : (whole : List ℕ) (n : ℤ) (p rest : List ℕ) → EndsIn whole (node_text (scalar p) rest) →
    IsFlowNode false (Some (deeper n)) depth_limit (scalar p) rest →
    head_flow_at whole n p (node_text (scalar p) rest) ≡ alias_or_collection (locate (length whole) (scalar p) rest)
unfolding IsFlowNode
scalar_is whole n p rest ends h =
    let s = scalar_some_is n p rest h in
    search (rules, ⊎_elim, by_quotes, scalar_none, by_plain, by_node, node_again, cases_Bool)

-- a node without an anchor
unnamed_is : (whole : List ℕ) (n : ℤ) (node : FlowNode) (rest : List ℕ) → is_anchored node ≡ false → EndsIn whole (node_text node rest) → IsFlowNode false (Some (deeper n)) depth_limit node rest →
    head_flow_at whole n (node_text node []) (node_text node rest) ≡ alias_or_collection (locate (length whole) node rest)
unfolding node_text
unnamed_is whole n node rest a ends h = search (rules, by_nothing, empty_none, by_node, node_again, append-nil, scalar_is, opens, false≢true)

written_is : (whole : List ℕ) (n : ℤ) (node : FlowNode) (rest : List ℕ) → is_anchored node ≡ false → EndsIn whole (node_text node [] ++ rest) → IsFlowNode false (Some (deeper n)) depth_limit node rest →
    head_flow_at whole n (node_text node []) (node_text node [] ++ rest) ≡ alias_or_collection (locate (length whole) node rest)
written_is whole n node rest a ends h =
    ap (head_flow_at whole n (node_text node [])) (sym (node_then node rest)) ∙ unnamed_is whole n node rest a (subst (EndsIn whole) (sym (node_then node rest)) ends) h

node_is : (whole : List ℕ) (n : ℤ) (node : FlowNode) (rest : List ℕ) → EndsIn whole ((anchor_cut node).2 ++ rest) → IsFlowNode false (Some (deeper n)) depth_limit node rest →
    head_flow_at whole n (anchor_cut node).2 ((anchor_cut node).2 ++ rest) ≡ alias_or_collection (locate (length whole) (without_anchor node) rest)
unfolding IsFlowNode
node_is whole n node rest ends h = search (rules, by_nothing, empty_none, written_is, takes_unanchored)

-- that of a row's content
pub flow_is : (whole : List ℕ) (n : ℤ) (c : Content) (rest : List ℕ) → EndsIn whole (head_text c rest) → IsContent n c rest →
    head_flow_at whole n (content_cut c).3 (head_text c rest) ≡ alias_or_collection (locate (length whole) (content_core c) (tail_of c ++ rest))
flow_is whole n c rest ends h = search (rules, by_nothing, empty_none, node_is, by_block, head_text, block_marks)

-- the alias or flow collection in a row's head that is read again
pub flow_again : (whole : List ℕ) (s : Slices) (t : List ℕ) (h : HasHead s t) → EndsIn whole t → head_flow_at whole s.parent s.head t ≡ row_flow (length whole) h.row h.rest
flow_again whole s t h ends = (λ i. head_flow_at whole (h.pieces i).parent (h.pieces i).head (h.text i)) ∙ flow_is whole (parent_indent h.row) h.row.content h.rest (subst (EndsIn whole) h.text ends) h.valid.content
