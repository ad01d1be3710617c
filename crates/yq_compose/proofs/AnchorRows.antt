-- Anchors of neighbouring lines, by the rows of these.
use Rattle.std.proofs.Common.{rules, ◌≡◌, ℕ, ℤ, eqb, List, [], ◌∷◌, ◌++◌, Option, Some, None, true, false, cond, not, ◌&&◌, refl, sym, ap}
use Rattle.std.{proofs.Common.{◌∙◌, append-nil}, proofs.lemmas.Bool.{false≢true, cond_both}, proofs.lemmas.Option.same_Some}
use Rattle.std.{specs.List.slice_get, specs.Prelude.is_none}
use Rattle.yq_core.{specs.declared.block_header.BlockStyle.BlockStyle, specs.Block.style_indicator as block_mark, specs.Piece.deeper}
use Rattle.yq_core.{specs.Text.is_empty, specs.Inline.depth_limit, specs.Nodes.{FlowNode, node_text, IsFlowNode, begins_with}}
use Rattle.yq_core.{specs.Scalars.{IsScalarAt, begins_scalar}, specs.Trees.{tree_collection, node_head, tree_of}}
use Rattle.yq_core.{proofs.NodeAgain.{is_anchored, takes_unanchored}, proofs.NodesPieceLaws.{front_not, scalar_begins}}
use Rattle.yq_outline.{specs.LinesReading.{is_free, is_no_alias, may_take}, specs.Outline.{LineMark, Bare, Key, Dash, Line}}
use Rattle.yq_outline.{specs.Positions.has_no_mark, specs.Lines.{content_anchor, head_of, lines_from, row_lines}}
use Rattle.yq_row_table.{specs.Grammar.IsContent, specs.Rows.{Content, Nothing, Inline, Block, Row}, specs.View.{anchor_cut, content_cut}}
use Rattle.yq_core.specs.declared.block_header.BlockStyle.TheVariants as styles
use Rattle.yq_core.specs.Tree as tree
use Rattle.yq_row_table.specs.Rows as rows

-- whether a row has an anchor
pub anchor_some : (c : Content) → is_empty (content_cut c).1 ≡ is_none (content_anchor c)
anchor_some c = search rules

-- whether an anchor before lines is the only one of their node, by their first one
pub first_of : (a : List ℕ) (xs : List Line) (l : Line) (ys : List Line) → slice_get xs 0 ≡ Some l → is_free (Some a) (xs ++ ys) ≡ may_take l.mark l.anchor l.head
first_of a [] l ys e = absurd (cc)
first_of a (x ∷ xs) l ys e = ap (λ (y : Line). may_take y.mark y.anchor y.head) (same_Some _ _ e)

-- an alias is in front
pub opens : (k : ℕ) (t : List ℕ) → begins_with 42 (cond (eqb k 125) 123 91 ∷ t) ≡ false
opens k t = cond_both (eqb k 125) 123 91 (λ b. begins_with 42 (b ∷ t) ≡ false) (λ _. refl) (λ _. refl)

not_alias : (k : ℕ) (cs : tree.Children) → is_no_alias (Some (tree_collection k cs)) ≡ true
not_alias k cs = elim (eqb k 125) as (λ x. is_no_alias (Some (cond x (tree.map None cs) (tree.list None cs))) ≡ true) [ true ↦ refl | false ↦ refl ]

pub scalar_star : (n : ℤ) (p rest : List ℕ) → IsScalarAt false (Some (deeper n)) p rest → begins_with 42 p ≡ false
scalar_star n [] rest h = refl
scalar_star n (b ∷ bs) rest h = front_not (begins_scalar false) 42 (λ cs. refl) (b ∷ (bs ++ rest)) (scalar_begins false (Some (deeper n)) (b ∷ bs) rest h)

unnamed_star : (n : ℤ) (node : FlowNode) (rest : List ℕ) → is_anchored node ≡ false → IsFlowNode false (Some (deeper n)) depth_limit node rest → not (begins_with 42 (node_text node [])) ≡ is_no_alias (node_head node)
unfolding node_text IsFlowNode tree_of
unnamed_star n node rest a h = search (rules, append-nil, scalar_star, opens, not_alias, false≢true)

node_star : (n : ℤ) (node : FlowNode) (rest : List ℕ) → IsFlowNode false (Some (deeper n)) depth_limit node rest → not (begins_with 42 (anchor_cut node).2) ≡ is_no_alias (node_head node)
unfolding IsFlowNode tree_of node_text
node_star n node rest h = search (rules, unnamed_star, takes_unanchored)

pub block_star : (style : BlockStyle) (t : List ℕ) → begins_with 42 (block_mark style ∷ t) ≡ false
block_star styles.Literal t = refl
block_star styles.Folded t = refl

pub alias_is : (n : ℤ) (c : Content) (rest : List ℕ) → IsContent n c rest → not (begins_with 42 (content_cut c).3) ≡ is_no_alias (head_of c)
alias_is n (Nothing tail) rest h = refl
alias_is n (Inline space node tail) rest h = node_star n node (tail ++ rest) h.1.valid
alias_is n (Block space anchor block) rest h = ap not (block_star block.style block.indicators)

-- what a line takes, by its mark
pub mark_takes : (m : LineMark) (a : Option (List ℕ)) (h : Option tree.Node) → false ≡ has_no_mark m → true ≡ may_take m a h
mark_takes Bare a h e = absurd (false≢true e)
mark_takes (Key k) a h e = refl
mark_takes Dash a h e = refl

bare_takes : (a : Option (List ℕ)) (h : Option tree.Node) → (is_none a && is_no_alias h) ≡ may_take Bare a h
bare_takes None h = refl
bare_takes (Some x) h = refl

-- the first line of a row that is a node itself
first_bare : (above : List (List ℕ)) (column : ℕ) (ns : List ℕ) (m : rows.RowMark) (c : Content) (l : Line) →
    slice_get (lines_from above column ns m c) 0 ≡ Some l → true ≡ has_no_mark l.mark → (content_anchor c ≡ l.anchor) × (head_of c ≡ l.head)
first_bare above column [] m c l e bare = (ap (λ (y : Line). y.anchor) (same_Some _ _ e), ap (λ (y : Line). y.head) (same_Some _ _ e))
first_bare above column (n ∷ ns) m c l e bare = absurd (false≢true (ap (λ (y : Line). has_no_mark y.mark) (same_Some _ _ e) ∙ sym bare))

pub bare_agrees : (n : ℤ) (r : Row) (rest : List ℕ) (l : Line) → IsContent n r.content rest → slice_get (row_lines r) 0 ≡ Some l → true ≡ has_no_mark l.mark →
    (is_empty (content_cut r.content).1 && not (begins_with 42 (content_cut r.content).3)) ≡ may_take l.mark l.anchor l.head
bare_agrees n r rest l valid e bare = search (rules, first_bare, anchor_some, alias_is, bare_takes, false≢true)
