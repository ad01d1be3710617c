-- What a gap after a block scalar asks of it, by the pieces of its row.
use Rattle.std.proofs.Common.{rules, ◌≡◌, ℕ, ℤ, true, false, eqb, cond, List, [], ◌∷◌, ◌++◌, Some, None, refl, sym, ap, ◌∙◌, append-nil}
use Rattle.std.{proofs.Common.option_map, proofs.lemmas.Bool.{cond_both, false≢true}}
use Rattle.yq_core.{specs.Block.{BlockText, IsBlock, ends_block, style_indicator}, specs.BlockReading.{indent_at, indicators_at}}
use Rattle.yq_core.{specs.Piece.deeper, specs.Text.{front, joined, text_lines}, specs.declared.block_header.BlockStyle.BlockStyle}
use Rattle.yq_core.{proofs.DetectedLaws.indent_again, proofs.HeaderLaws.indicators_again, proofs.RawLaws.raw_lines}
use Rattle.yq_core.{specs.Inline.depth_limit, specs.Nodes.{FlowNode, node_text, takes_anchor, IsFlowNode}, specs.Scalars.IsScalarAt}
use Rattle.yq_core.proofs.NodesPieceLaws.{front_not, scalar_begins}
use Rattle.yq_row_table.{specs.BlockNumbers.block_numbers_of, specs.Grammar.IsContent, specs.Removal.{block_numbers, block_of}}
use Rattle.yq_row_table.{specs.Rows.Content, specs.View.{anchor_cut, content_cut}, proofs.NodeFronts.is_block_mark}

-- no inline node begins as a block scalar does
scalar_no_mark : (n : ℤ) (p rest : List ℕ) → IsScalarAt false (Some (deeper n)) p rest → front is_block_mark p ≡ false
scalar_no_mark n p rest h = search (rules, scalar_begins, front_not)

abbrev Opens : ℕ → Type 0
Opens b = (t : List ℕ) → front is_block_mark (b ∷ t) ≡ false

opens : (k : ℕ) → Opens (cond (eqb k 125) 123 91)
opens k = cond_both (eqb k 125) 123 91 Opens (λ _ t. refl) (λ _ t. refl)

following_anchor : (n : ℤ) (node : FlowNode) (rest : List ℕ) → takes_anchor node ≡ true → IsFlowNode false (Some (deeper n)) depth_limit node rest → front is_block_mark (node_text node []) ≡ false
unfolding node_text IsFlowNode
following_anchor n node rest a h = search (rules, is_block_mark, append-nil, scalar_no_mark, opens, false≢true)

pub head_no_mark : (n : ℤ) (node : FlowNode) (rest : List ℕ) → IsFlowNode false (Some (deeper n)) depth_limit node rest → front is_block_mark (anchor_cut node).2 ≡ false
unfolding node_text IsFlowNode
head_no_mark n node rest h = search (rules, is_block_mark, append-nil, scalar_no_mark, opens, following_anchor)

-- the numbers of a block scalar, by its header and its raw lines
no_block : (n : ℤ) (head raw : List ℕ) → front is_block_mark head ≡ false → block_numbers_of n head raw ≡ None
no_block n head raw h = search rules

block_mark : (style : BlockStyle) → is_block_mark (style_indicator style) ≡ true
block_mark style = search rules

numbers_agrees : (n : ℤ) (b : BlockText) (rest : List ℕ) → IsBlock (deeper n) b rest → block_numbers_of n (style_indicator b.style ∷ b.indicators) (joined b.raw) ≡ Some (block_numbers b)
unfolding ends_block
numbers_agrees n b rest h =
    let own : indicators_at b.indicators ≡ (b.digit, b.chomping, b.indicators, []) = ap indicators_at (sym (append-nil b.indicators)) ∙ indicators_again b.digit b.chomping b.indicators [] h.indicators (refl, refl) in
    let lines : text_lines (joined b.raw) ≡ b.raw ++ [] = raw_lines b.indent b.raw h.lines ∙ sym (append-nil b.raw) in
    let indent : indent_at (deeper n) b.digit (text_lines (joined b.raw)) ≡ Some b.indent = ap (indent_at (deeper n) b.digit) lines ∙ indent_again (deeper n) b.digit false b.indent b.raw [] h.indent refl in
    rw (block_mark b.style, own, indent) refl

pub block_by_pieces : (n : ℤ) (c : Content) (rest : List ℕ) → IsContent n c rest → block_numbers_of n (content_cut c).3 (content_cut c).5 ≡ option_map block_numbers (block_of c)
block_by_pieces n c rest h = search (rules, no_block, head_no_mark, numbers_agrees)
