-- The rows of one item or entry that is written.
use Rattle.std.proofs.Common.{◌≡◌, ℕ, ◌+◌, ◌*◌, ◌<◌, ◌≤◌, List, [], ◌∷◌, ◌++◌, Option, Some, None, refl, subst, append-nil, rules}
use Rattle.yq_core.{specs.Text.upto, specs.Tree.{Node, Children, none, child, key_label}}
use Rattle.yq_flow_edits.specs.Valued.{IsValueTree}
use Rattle.yq_outline.{specs.LineAnchors.HaveOneAnchorEach, specs.Comments.line_comment}
use Rattle.yq_outline.specs.Outline.{LineMark, Line, level, rank, Outline, end, row, flatten, IsOpen, IsEven, label, outline_node, children}
use Rattle.yq_outline.{specs.Outline.{value, IsLocatedAt}, specs.Places.content_under, proofs.ByRules.rules_give, specs.Lines.lines_of_rows}
use Rattle.yq_row_table.{specs.Gap.IsGap, specs.Grammar.{Limit, limit_after, AreRows}, specs.Rows.Row, specs.Splices.first_gap}
use Rattle.yq_documents.specs.Documents.{HaveFitKeys}
use Rattle.yq_edit_rules.{specs.declared.layout.Layout.Layout, specs.Alone.singleton}
use Rattle.yq_edit_rules.specs.BlockRows.{inline_of, node_rows, children_rows, entry_rows, rows_on_dash, end_of_line_before, column_below}
use Rattle.yq_edit_rules.specs.BlockValues.{IsEnd, IsFilledValue, IsNear, HasNearKeys, IsWritable, level_at}
use Rattle.yq_edit_rules.{proofs.FitLaws.{node_fit, keys_fit, anchors_fit}, proofs.BlockLineLaws.node_is_there, specs.Operands.KeyIsUtf8}
use Rattle.yq_core.specs.Tree as tree
use Rattle.yq_core.specs.Nodes as inline

-- a collection of one item or entry is a value that is written in rows
pub alone_value : (key : Option (List ℕ)) (v : Node) → KeyIsUtf8 key → IsValueTree v → IsFilledValue (singleton key v)
alone_value key v h1 h2 = search rules

pub alone_writable : (key : Option (List ℕ)) (v : Node) (column : ℕ) (last rest : List ℕ) → KeyIsUtf8 key → IsValueTree v → IsNear key → HasNearKeys v → IsEnd column last rest → IsWritable (singleton key v) column last rest
alone_writable key v column last rest u h near keys e = record { rows = alone_value key v u h; near = (search (rules, near, keys)); ends = e }

-- the level of its line
abbrev pub entry_level : Option (List ℕ) → ℕ → ℕ
entry_level None column = 3 * column + 3
entry_level (Some k) column = 3 * column + 2

-- An item or entry, by its line and the lines under it.
pub record IsEntryOf (key : Option (List ℕ)) (v : Node) (column : ℕ) (rs : List Row) : Type 0 where
  pub line : Line
  pub under : Outline
  pub lines : lines_of_rows rs ≡ line ∷ flatten under
  pub level_is : level line ≡ entry_level key column
  pub headless : IsOpen line.head under
  pub deep : (m : ℕ) × (level line < m) × IsEven m under
  pub label_is : label line ≡ key_label key
  pub node_is : content_under line under ≡ v

no_more : (a : Outline) → none ≡ children a → a ≡ end
no_more end e = refl
no_more (row l u a) e = absurd (cc)

children_same : (x y : tree.Label) (n m : Node) (cs ds : Children) → child x n cs ≡ child y m ds → (x ≡ y) × (n ≡ m) × (ds ≡ cs)
children_same x y n m cs ds e = (cc, cc, cc)

-- the line of an outline with one item or entry
abbrev IsOne : Option (List ℕ) → Node → Line → Outline → Outline → Type 0
IsOne k v l u a = (label l ≡ key_label k) × (content_under l u ≡ v) × (a ≡ end)

is_child : (k : Option (List ℕ)) (v : Node) (l : Line) (u a : Outline) → child (label l) (content_under l u) (children a) ≡ child (key_label k) v none → IsOne k v l u a
is_child k v l u a e = let x = children_same (label l) (key_label k) (content_under l u) v (children a) none e in (x.0, x.1, no_more a x.2)

-- its mark, by its level
is_one : (k : Option (List ℕ)) (v : Node) (column : ℕ) (l : Line) (u a : Outline) (m : LineMark) → l.mark ≡ m →
    3 * l.column + rank m ≡ entry_level k column → outline_node m (child (label l) (content_under l u) (children a)) ≡ singleton k v → IsOne k v l u a
is_one k v column l u a m h1 h2 h3 = search (rules, is_child)

-- the outline of a collection of one item or entry
one_row : (key : Option (List ℕ)) (v : Node) (column : ℕ) (o : Outline) (rs : List Row) → IsEven (entry_level key column) o → flatten o ≡ lines_of_rows rs → value o ≡ singleton key v → IsEntryOf key v column rs
unfolding level
one_row key v column o rs h1 h2 h3 = search (rules, is_one, append-nil)

-- nothing is no comment
pub none_uncommented : line_comment [] ≡ None
unfolding upto
none_uncommented = refl

pub entry_of : (key : Option (List ℕ)) (v : Node) (l : Layout) (column : ℕ) (last : List ℕ) → line_comment last ≡ None → 1 ≤ l.mapping → KeyIsUtf8 key → IsValueTree v → IsEntryOf key v column (node_rows l column last (singleton key v))
entry_of key v l column last uncommented step u h =
    let w = alone_value key v u h in
    let rs : List Row = node_rows l column last (singleton key v) in
    let s : IsLocatedAt (lines_of_rows rs) (singleton key v) (level_at column (singleton key v)) =
    rules_give (level_at column (singleton key v)) (lines_of_rows rs) (singleton key v)
    (node_is_there (singleton key v) l column last step w.filled w.value uncommented) in
    one_row key v column s.outline rs (subst (λ n. IsEven n s.outline) (search rules) s.even) s.lines_are s.node_is

-- its keys and anchors
pub entry_keys : (key : Option (List ℕ)) (v : Node) (l : Layout) (column : ℕ) (last : List ℕ) → KeyIsUtf8 key → IsValueTree v → HaveFitKeys (node_rows l column last (singleton key v))
entry_keys key v l column last u h = keys_fit (node_rows l column last (singleton key v)) (node_fit (singleton key v) l column last (alone_value key v u h).value)

pub entry_anchors : (key : Option (List ℕ)) (v : Node) (l : Layout) (column : ℕ) (last : List ℕ) → KeyIsUtf8 key → IsValueTree v → HaveOneAnchorEach (lines_of_rows (node_rows l column last (singleton key v)))
entry_anchors key v l column last u h = anchors_fit (node_rows l column last (singleton key v)) (node_fit (singleton key v) l column last (alone_value key v u h).value)

-- no gap is before it
first_bare : (rs more : List Row) → first_gap rs [] ≡ [] → (rs ≡ [] → first_gap more [] ≡ []) → first_gap (rs ++ more) [] ≡ []
first_bare rs more h1 h2 = search rules

dash_bare : (column : ℕ) (rs : List Row) → first_gap rs [] ≡ [] → first_gap (rows_on_dash column rs) [] ≡ []
dash_bare column rs h1 = search rules

mutual
  unfolding node_rows children_rows

  rows_bare : (l : Layout) (column : ℕ) (last : List ℕ) (v : Node) → first_gap (node_rows l column last v) [] ≡ []
  rows_bare l column last (tree.alias name) = refl
  rows_bare l column last (tree.scalar a kind text) = refl
  rows_bare l column last (tree.list a cs) = each_bare l column last cs
  rows_bare l column last (tree.map a cs) = each_bare l column last cs

  each_bare : (l : Layout) (column : ℕ) (last : List ℕ) (cs : Children) → first_gap (children_rows l column last cs) [] ≡ []
  each_bare l column last tree.none = refl
  each_bare l column last (tree.child own_label n cs) =
      first_bare (entry_rows l column (end_of_line_before l last cs) own_label.key (inline_of n) (node_rows l (column_below l column own_label.key n) (end_of_line_before l last cs) n)) (children_rows l column last cs)
      (by own_label.key (inline_of n) (node_rows l (column_below l column own_label.key n) (end_of_line_before l last cs) n)
      (rows_bare l (column_below l column own_label.key n) (end_of_line_before l last cs) n)) (λ e. each_bare l column last cs)
    where
      by : (key : Option (List ℕ)) (node : Option inline.FlowNode) (rs : List Row) → first_gap rs [] ≡ [] → first_gap (entry_rows l column (end_of_line_before l last cs) key node rs) [] ≡ []
      by (Some k) (Some node) rs e = refl
      by (Some k) None rs e = refl
      by None (Some node) rs e = refl
      by None None rs e = dash_bare column rs e

pub entry_bare : (key : Option (List ℕ)) (v : Node) (l : Layout) (column : ℕ) (last : List ℕ) → first_gap (node_rows l column last (singleton key v)) [] ≡ []
entry_bare key v l column last = rows_bare l column last (singleton key v)

-- they are rows
pub rows_gap : (limit : Limit) (rs : List Row) (gap rest : List ℕ) → AreRows limit rs [] (gap ++ rest) → IsGap gap rest → AreRows limit rs gap rest
rows_gap limit [] gap rest h g = g
rows_gap limit (r ∷ rs) gap rest h g = (h.0, rows_gap (limit_after r) rs gap rest h.1 g)
