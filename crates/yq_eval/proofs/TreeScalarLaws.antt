-- The scalars of documents have the kinds of their texts.
use Rattle.std.proofs.Common.{rules, ◌≡◌, ℕ, zero, suc, ◌+◌, ◌==◌, nat_lt, Bool, true, false, cond, List, [], ◌∷◌, ◌++◌, map, Option, Some}
use Rattle.std.{proofs.Common.{None, refl, subst}, proofs.lemmas.Option.none-some, specs.List.slice_get}
use Rattle.yq_core.{specs.declared.kind.Kind.Kind, specs.Scalar.{IsScalar, of_kind, string_of, plain_of}}
use Rattle.yq_core.{specs.ContentReading.{plain_content, quoted_content}, specs.SchemaReading.resolve, specs.Tree.{Node, Children}}
use Rattle.yq_core.{specs.Scalars.{is_quoted, scalar_of}, specs.Trees.{tree_of, items_tree, with_name, node_head}}
use Rattle.yq_documents.{specs.Documents.Document, specs.Reading.part_document}
use Rattle.yq_outline.{specs.Group.{deeper_lines, shallow, group}, specs.Lines.{head_of, lines_from, row_lines, lines_of_rows}}
use Rattle.yq_outline.specs.Outline.{Line, level, Outline, end, row, anchored, head_or, shaped, children}
use Rattle.yq_eval.specs.TreeScalars.{HasScalars, EachHasScalars}
use Rattle.yq_core.specs.Tree as tree
use Rattle.yq_core.specs.Nodes as inline
use Rattle.yq_row_table.specs.Rows as rows

-- ---- inline nodes

of_kind_is : (t : List ℕ) (k : Kind) → resolve t ≡ k → IsScalar (of_kind k t).kind (of_kind k t).text
of_kind_is t k h = search rules

plain_is : (t : List ℕ) → IsScalar (plain_of t).kind (plain_of t).text
plain_is t = of_kind_is t (resolve t) refl

scalar_is : (p : List ℕ) → IsScalar (scalar_of p).kind (scalar_of p).text
unfolding scalar_of
scalar_is p = go (is_quoted p)
  where
    go : (b : Bool) → let s = cond b (string_of (quoted_content p)) (plain_of (plain_content p)) in IsScalar s.kind s.text
    go true = tt
    go false = plain_is (plain_content p)

name_has : (a : List ℕ) (n : Node) → HasScalars n → HasScalars (with_name a n)
name_has a n h = search rules

collection_has : (b : Bool) (cs : Children) → EachHasScalars cs → HasScalars (cond b (tree.map None cs) (tree.list None cs))
collection_has b cs h = search rules

mutual
  unfolding tree_of items_tree

  tree_has : (n : inline.FlowNode) → HasScalars (tree_of n)
  tree_has inline.empty = refl
  tree_has (inline.alias name) = tt
  tree_has (inline.scalar p) = scalar_is p
  tree_has (inline.coll k gap is) = collection_has (k == 125) (items_tree is) (items_have is)
  tree_has (inline.anchored name gap n) = name_has name (tree_of n) (tree_has n)

  items_have : (is : inline.Items) → EachHasScalars (items_tree is)
  items_have inline.none = tt
  items_have (inline.item key n sep is) = (tree_has n, items_have is)

-- ---- lines

-- what a head spells has such scalars
abbrev HeadHas : Option Node → Type 0
HeadHas None = Unit {0}
HeadHas (Some n) = HasScalars n

abbrev LinesHave : List Line → Type 0
LinesHave [] = Unit {0}
LinesHave (l ∷ ls) = HeadHas l.head × LinesHave ls

abbrev OutlineHas : Outline → Type 0
OutlineHas end = Unit {0}
OutlineHas (row l under after) = HeadHas l.head × (OutlineHas under × OutlineHas after)

node_head_has : (n : inline.FlowNode) → HeadHas (node_head n)
node_head_has inline.empty = tt
node_head_has (inline.alias name) = tree_has (inline.alias name)
node_head_has (inline.scalar p) = tree_has (inline.scalar p)
node_head_has (inline.coll k gap is) = tree_has (inline.coll k gap is)
node_head_has (inline.anchored name gap n) = node_head_has n

head_has : (c : rows.Content) → HeadHas (head_of c)
head_has c = search (rules, node_head_has)

from_has : (above : List (List ℕ)) (column : ℕ) (dashes : List ℕ) (mark : rows.RowMark) (c : rows.Content) → LinesHave (lines_from above column dashes mark c)
from_has above column [] mark c = (head_has c, tt)
from_has above column (n ∷ ns) mark c = (tt, from_has [] (suc (column + n)) ns mark c)

join_have : (ls ms : List Line) → LinesHave ls → LinesHave ms → LinesHave (ls ++ ms)
join_have [] ms h k = k
join_have (l ∷ ls) ms h k = (h.0, join_have ls ms h.1 k)

lines_have : (rs : List rows.Row) → LinesHave (lines_of_rows rs)
lines_have [] = tt
lines_have (r ∷ rs) = join_have (row_lines r) (lines_of_rows rs) (from_has _ r.column r.dashes r.mark r.content) (lines_have rs)

-- ---- outlines

deeper_has : (n : ℕ) (o : Outline) → OutlineHas o → OutlineHas (deeper_lines n o)
deeper_has n end h = tt
deeper_has n (row l under after) h = go (nat_lt n (level l)) (deeper_has n after h.1.1)
  where
    go : (b : Bool) → OutlineHas (deeper_lines n after) → OutlineHas (cond b (row l under (deeper_lines n after)) end)
    go true rest = (h.0, (h.1.0, rest))
    go false rest = tt

shallow_has : (n : ℕ) (o : Outline) → OutlineHas o → OutlineHas (shallow n o)
shallow_has n end h = tt
shallow_has n (row l under after) h = go (nat_lt n (level l)) (shallow_has n after h.1.1)
  where
    go : (b : Bool) → OutlineHas (shallow n after) → OutlineHas (cond b (shallow n after) (row l under after))
    go true rest = rest
    go false rest = h

group_has : (ls : List Line) → LinesHave ls → OutlineHas (group ls)
group_has [] h = tt
group_has (l ∷ ls) h =
    let rest = group_has ls h.1 in (h.0, (deeper_has (level l) (group ls) rest, shallow_has (level l) (group ls) rest))

anchored_has : (a : Option (List ℕ)) (n : Node) → HasScalars n → HasScalars (anchored a n)
anchored_has a n h = search rules

head_or_has : (head : Option Node) (n : Node) → HeadHas head → HasScalars n → HasScalars (head_or head n)
head_or_has head n h k = search rules

shaped_has : (o : Outline) (cs : Children) → EachHasScalars cs → HasScalars (shaped o cs)
shaped_has o cs h = search rules

children_have : (o : Outline) → OutlineHas o → EachHasScalars (children o)
children_have end h = tt
children_have (row l under after) h =
    (anchored_has l.anchor _ (head_or_has l.head (shaped under (children under)) h.0 (shaped_has under (children under) (children_have under h.1.0))), children_have after h.1.1)

-- ---- documents

pub documents_have : (ps : List rows.Part) (i : ℕ) (d : Document) → slice_get (map part_document ps) i ≡ Some d → HasScalars d.root
documents_have [] i d h = absurd (none-some _ h)
documents_have (p ∷ ps) zero d h =
    let same : part_document p ≡ d = cc in
    let ls = group (lines_of_rows p.rows) in
    subst (λ (e : Document). HasScalars e.root) same (shaped_has ls (children ls) (children_have ls (group_has (lines_of_rows p.rows) (lines_have p.rows))))
documents_have (p ∷ ps) (suc i) d h = documents_have ps i d h
