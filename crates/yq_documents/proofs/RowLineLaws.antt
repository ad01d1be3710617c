-- What a row's anchor, head and tail are by its pieces, and its head again.
use Rattle.std.{proofs.Common.{rules, ◌≡◌, ℕ, ℤ, true, false, List, [], ◌∷◌, Some, refl, append-nil}, proofs.lemmas.Bool.false≢true}
use Rattle.yq_core.{specs.declared.block_header.BlockStyle.BlockStyle, specs.Block.style_indicator as block_mark, specs.Piece.deeper}
use Rattle.yq_core.{specs.Quoted.IsQuotedText, specs.Inline.depth_limit}
use Rattle.yq_core.specs.Nodes.{FlowNode, empty, alias, scalar, coll, anchored, node_text, IsFlowNode}
use Rattle.yq_core.{proofs.NodeAgain.{is_anchored, takes_unanchored}, specs.Scalars.is_quoted}
use Rattle.yq_row_table.{specs.Grammar.IsContent, specs.Rows.Content, specs.View.{Slices, anchor_cut, content_cut}}
use Rattle.yq_outline.{specs.Lines.{content_anchor, head_of, tail_of}, proofs.RowLaws.scalar_quoted}
use Rattle.yq_documents.{specs.KeyReading.EndsIn, specs.RowReading.{name_in, read_head, HasHead}, proofs.HeadLaws.{fitting, head_is, opens}}

-- the pieces of a row tell its anchor and its tail
pub anchor_is : (c : Content) → name_in (content_cut c).1 ≡ content_anchor c
anchor_is c = search rules

pub tail_is : (c : Content) → (content_cut c).4 ≡ tail_of c
tail_is c = search rules

-- a quoted head is a quoted scalar
written_quoted : (n : ℤ) (node : FlowNode) (rest : List ℕ) → is_anchored node ≡ false → IsFlowNode false (Some (deeper n)) depth_limit node rest → is_quoted (node_text node []) ≡ true → IsQuotedText (node_text node [])
unfolding IsFlowNode node_text
written_quoted n node rest a h q = search (rules, false≢true, append-nil, scalar_quoted, opens)

node_quoted : (n : ℤ) (node : FlowNode) (rest : List ℕ) → IsFlowNode false (Some (deeper n)) depth_limit node rest → is_quoted (anchor_cut node).2 ≡ true → IsQuotedText (anchor_cut node).2
unfolding IsFlowNode
node_quoted n empty rest h q = absurd (false≢true q)
node_quoted n (alias name) rest h q = written_quoted n (alias name) rest refl h q
node_quoted n (scalar p) rest h q = written_quoted n (scalar p) rest refl h q
node_quoted n (coll k g is) rest h q = written_quoted n (coll k g is) rest refl h q
node_quoted n (anchored name g node) rest h q = written_quoted n node rest (takes_unanchored node h.3) h.4 q

block_quoted : (style : BlockStyle) (t : List ℕ) → is_quoted (block_mark style ∷ t) ≡ false
block_quoted style t = search rules

pub content_quoted : (n : ℤ) (c : Content) (rest : List ℕ) → IsContent n c rest → is_quoted (content_cut c).3 ≡ true → IsQuotedText (content_cut c).3
content_quoted n c rest h q = search (rules, false≢true, node_quoted, block_quoted)

-- the head of a row is read again
pub quoted_again : (s : Slices) (t : List ℕ) → HasHead s t → is_quoted s.head ≡ true → IsQuotedText s.head
quoted_again s t h = search (rules, content_quoted)

pub head_again : (whole : List ℕ) (s : Slices) (t : List ℕ) (h : HasHead s t) → EndsIn whole t → read_head whole s.parent s.head t ≡ Some (head_of h.row.content)
head_again whole s t h ends = search (rules, head_is, fitting, h.pieces, h.text)
