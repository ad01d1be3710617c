-- What is written in block style has no anchors, and no keys that would merge mappings.
use Rattle.std.proofs.Common.{◌≡◌, ℕ, Bool, true, false, List, [], ◌∷◌, ◌++◌, Option, None, refl, sym, subst, rules}
use Rattle.yq_core.{specs.Tree.Children, specs.Anchors.{names_of, names_in, AreBound}}
use Rattle.yq_flow_edits.specs.Valued.{IsValueTree, AreValueTrees}
use Rattle.yq_row_table.specs.Rows.{Row}
use Rattle.yq_outline.{specs.LineAnchors.HaveOneAnchorEach, specs.Lines.{content_anchor, lines_from, lines_of_rows}, specs.Outline.Line}
use Rattle.yq_documents.specs.Documents.{MarkIsFit, ContentHasFitKeys, HaveFitKeys}
use Rattle.yq_edit_rules.specs.BlockRows.{children_rows, column_below, end_of_line_before, entry_rows, inline_of, node_rows}
use Rattle.yq_edit_rules.{specs.declared.layout.Layout.Layout, proofs.KeyLaws.key_apart, proofs.ScalarLaws.{Heads, heads}}
use Rattle.yq_core.specs.Tree as tree
use Rattle.yq_core.specs.Nodes as inline
use Rattle.yq_row_table.specs.Rows as rows

-- rows without anchors, whose keys are fit
abbrev RowIsFit : Row → Type 0
RowIsFit r = MarkIsFit r.mark × ContentHasFitKeys r.content × (content_anchor r.content ≡ None)

abbrev pub RowsAreFit : List Row → Type 0
RowsAreFit [] = Unit {0}
RowsAreFit (r ∷ rs) = RowIsFit r × RowsAreFit rs

fit_append : (xs ys : List Row) → RowsAreFit xs → RowsAreFit ys → RowsAreFit (xs ++ ys)
fit_append [] ys h k = k
fit_append (x ∷ xs) ys h k = (h.0, fit_append xs ys h.1 k)

entry_fit : (l : Layout) (column : ℕ) (end : List ℕ) (key : Option (List ℕ)) (n : tree.Node) (node : Option inline.FlowNode) (below : List Row) → Heads n node → RowsAreFit below → RowsAreFit (entry_rows l column end key node below)
entry_fit l column end key n node below h1 h2 = search (rules, key_apart)

mutual
  unfolding node_rows children_rows

  pub node_fit : (n : tree.Node) (l : Layout) (column : ℕ) (end : List ℕ) → IsValueTree n → RowsAreFit (node_rows l column end n)
  node_fit (tree.alias name) l column end h = tt
  node_fit (tree.scalar a kind t) l column end h = tt
  node_fit (tree.list a cs) l column end h = children_fit cs l column end false h.1
  node_fit (tree.map a cs) l column end h = children_fit cs l column end true h.1

  children_fit : (cs : Children) (l : Layout) (column : ℕ) (end : List ℕ) (keyed : Bool) → AreValueTrees keyed cs → RowsAreFit (children_rows l column end cs)
  children_fit tree.none l column end keyed h = tt
  children_fit (tree.child label n cs) l column end keyed h =
      let below : ℕ = column_below l column label.key n in
      let last : List ℕ = end_of_line_before l end cs in
      fit_append _ (children_rows l column end cs)
      (entry_fit l column last label.key n (inline_of n) (node_rows l below last n) (heads n h.1) (node_fit n l below last h.1))
      (children_fit cs l column end keyed h.2)

pub keys_fit : (rs : List Row) → RowsAreFit rs → HaveFitKeys rs
keys_fit [] h = tt
keys_fit (r ∷ rs) h = (h.0.0, h.0.1, keys_fit rs h.1)

-- lines without anchors
abbrev Unnamed : List Line → Type 0
Unnamed [] = Unit {0}
Unnamed (l ∷ ls) = (l.anchor ≡ None) × Unnamed ls

unnamed_append : (xs ys : List Line) → Unnamed xs → Unnamed ys → Unnamed (xs ++ ys)
unnamed_append [] ys h k = k
unnamed_append (x ∷ xs) ys h k = (h.0, unnamed_append xs ys h.1 k)

row_unnamed : (above : List (List ℕ)) (column : ℕ) (ns : List ℕ) (mark : rows.RowMark) (c : rows.Content) → content_anchor c ≡ None → Unnamed (lines_from above column ns mark c)
row_unnamed above column [] mark c h = (h, tt)
row_unnamed above column (n ∷ ns) mark c h = (refl, row_unnamed [] _ ns mark c h)

rows_unnamed : (rs : List Row) → RowsAreFit rs → Unnamed (lines_of_rows rs)
rows_unnamed [] h = tt
rows_unnamed (r ∷ rs) h = unnamed_append _ (lines_of_rows rs) (row_unnamed _ r.column r.dashes r.mark r.content h.0.2) (rows_unnamed rs h.1)

one_each : (ls : List Line) → Unnamed ls → HaveOneAnchorEach ls
one_each [] h = tt
one_each (l ∷ ls) h = (rw h.0 tt, one_each ls h.1)

pub anchors_fit : (rs : List Row) → RowsAreFit rs → HaveOneAnchorEach (lines_of_rows rs)
anchors_fit rs h = one_each (lines_of_rows rs) (rows_unnamed rs h)

-- a value names nothing
mutual
  pub no_names : (n : tree.Node) → IsValueTree n → names_of n ≡ []
  no_names (tree.alias name) h = absurd h
  no_names (tree.scalar a kind t) h = rw h.0 refl
  no_names (tree.list a cs) h = rw h.0 (none_named cs false h.1)
  no_names (tree.map a cs) h = rw h.0 (none_named cs true h.1)

  none_named : (cs : Children) (keyed : Bool) → AreValueTrees keyed cs → names_in cs ≡ []
  none_named tree.none keyed h = refl
  none_named (tree.child label n cs) keyed h = λ i. no_names n h.1 i ++ none_named cs keyed h.2 i

pub all_bound : (n : tree.Node) → IsValueTree n → AreBound [] (names_of n)
all_bound n h = subst (AreBound []) (sym (no_names n h)) tt
