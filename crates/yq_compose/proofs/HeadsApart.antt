-- The lines of rows have their anchors apart from their heads.
use Rattle.std.proofs.Common.{rules, ◌≡◌, ℕ, ℤ, suc, ◌+◌, eqb, cond, List, [], ◌∷◌, ◌++◌, Option, Some, None, Bool, true, false}
use Rattle.std.proofs.lemmas.Bool.{false≢true}
use Rattle.yq_core.specs.declared.kind.Kind.TheVariants.{Text}
use Rattle.yq_core.specs.Nodes.{FlowNode, empty, alias, scalar, coll, anchored, takes_anchor, IsFlowNode}
use Rattle.yq_core.{specs.Trees.{tree_of, items_tree, node_anchor, node_head}, specs.Anchors.IsNoAlias}
use Rattle.yq_outline.specs.Comments.{head_comment}
use Rattle.yq_outline.specs.Lines.{block_anchor, content_anchor, head_of, lines_from, row_lines, lines_of_rows}
use Rattle.yq_outline.{specs.Names.{IsUnnamed, MayBeNamed, HaveHeadsApart}, specs.Outline.Line}
use Rattle.yq_row_table.specs.Grammar.{Limit, limit_after, IsContent, AreRows}
use Rattle.yq_row_table.specs.Rows.{Anchor, Content, Nothing, Inline, Row, parent_indent}
use Rattle.yq_core.specs.Tree as tree
use Rattle.yq_row_table.specs.Rows as rows

-- a head and the anchor before it
abbrev IsApart : Option (List ℕ) → Option tree.Node → Type 0
IsApart a h = IsUnnamed h × MayBeNamed a h

-- a collection has no anchor of its own, and is no alias
collection_apart : (k : ℕ) (cs : tree.Children) → IsUnnamed (Some (cond (eqb k 125) (tree.map None cs) (tree.list None cs))) × IsNoAlias (Some (cond (eqb k 125) (tree.map None cs) (tree.list None cs)))
collection_apart k cs = elim (eqb k 125) as (λ b. IsUnnamed (Some (cond b (tree.map None cs) (tree.list None cs))) × IsNoAlias (Some (cond b (tree.map None cs) (tree.list None cs)))) [ true ↦ (tt, tt) | false ↦ (tt, tt) ]

unnamed : (node : FlowNode) → IsUnnamed (node_head node)
unfolding tree_of
unnamed empty = tt
unnamed (alias name) = tt
unnamed (scalar p) = tt
unnamed (coll k gap items) = (collection_apart k (items_tree items)).0
unnamed (anchored name gap node) = unnamed node

no_alias : (node : FlowNode) → takes_anchor node ≡ true → IsNoAlias (node_head node)
unfolding tree_of
no_alias node h = search (rules, false≢true, collection_apart)

node_apart : (flow : Bool) (spaces : Option ℕ) (d : ℕ) (node : FlowNode) (rest : List ℕ) → IsFlowNode flow spaces d node rest → IsApart (node_anchor node) (node_head node)
unfolding IsFlowNode
node_apart flow spaces d node rest h = search (rules, unnamed, no_alias)

block_apart : (a : Option Anchor) (t : List ℕ) → MayBeNamed (block_anchor a) (Some (tree.scalar None Text t))
block_apart None t = tt
block_apart (Some a) t = tt

content_apart : (n : ℤ) (c : Content) (rest : List ℕ) → IsContent n c rest → IsApart (content_anchor c) (head_of c)
content_apart n (Nothing tail) rest h = (tt, tt)
content_apart n (Inline space node tail) rest h = node_apart _ _ _ node (tail ++ rest) h.1.valid
content_apart n (rows.Block space anchor block) rest h = (tt, block_apart anchor _)

from_apart : (above : List (List ℕ)) (column : ℕ) (dashes : List ℕ) (mark : rows.RowMark) (c : Content) → IsApart (content_anchor c) (head_of c) → HaveHeadsApart (lines_from above column dashes mark c)
from_apart above column [] mark c h = (h, tt)
from_apart above column (n ∷ ns) mark c h = ((tt, tt), from_apart [] (suc (column + n)) ns mark c h)

both_apart : (xs ys : List Line) → HaveHeadsApart xs → HaveHeadsApart ys → HaveHeadsApart (xs ++ ys)
both_apart [] ys h k = k
both_apart (l ∷ xs) ys h k = (h.0, both_apart xs ys h.1 k)

-- No line of rows has a head with an anchor of its own, and none with an anchor has an alias as its head.
pub heads_apart : (limit : Limit) (rs : List Row) (end rest : List ℕ) → AreRows limit rs end rest → HaveHeadsApart (lines_of_rows rs)
heads_apart limit [] end rest h = tt
heads_apart limit (r ∷ rs) end rest h =
    both_apart (row_lines r) (lines_of_rows rs) (from_apart (head_comment r.gap) r.column r.dashes r.mark r.content (content_apart (parent_indent r) r.content _ h.0.content))
    (heads_apart (limit_after r) rs end rest h.1)
