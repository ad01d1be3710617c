-- The rows in which values are written in block style (YAML 1.2.2, sections 8.2.1 and 8.2.2).
use Rattle.std.specs.Prelude.{ℕ, ◌+◌, List, [], ◌∷◌, ◌++◌, Option, Some, None}
use Rattle.yq_core.{specs.BlockWritten.break_text, specs.Scalar.string_of, specs.Tree.Children, specs.NodesWritten.scalar_text}
use Rattle.yq_row_table.specs.Rows.{Dash, Key, Content, Nothing, Inline, Row, after_columns}
use Rattle.yq_edit_rules.specs.declared.layout.Layout.{Layout}
use Rattle.yq_core.specs.declared.style.Place.TheVariants as places
use Rattle.yq_core.specs.Tree as tree
use Rattle.yq_core.specs.Nodes as inline

-- the inline node as which a value is written: a scalar, plain if it can be, or an empty collection; others are written in rows (own)
abbrev pub inline_of : tree.Node → Option inline.FlowNode
inline_of (tree.alias name) = Some (inline.alias name)
inline_of (tree.scalar a kind text) = Some (inline.scalar (scalar_text (record { kind = kind; text = text }) places.Block))
inline_of (tree.list a tree.none) = Some (inline.coll 93 [] inline.none)
inline_of (tree.list a (tree.child label n cs)) = None
inline_of (tree.map a tree.none) = Some (inline.coll 125 [] inline.none)
inline_of (tree.map a (tree.child label n cs)) = None

-- a key as it is written: a string, plain if it can be (own)
abbrev pub block_key : List ℕ → List ℕ
block_key k = scalar_text (string_of k) places.BlockKey

-- how much deeper than its key a node is (own)
abbrev pub indent_step : Layout → tree.Node → ℕ
indent_step l (tree.alias name) = 0
indent_step l (tree.scalar a kind text) = 0
indent_step l (tree.list a cs) = l.sequence
indent_step l (tree.map a cs) = l.mapping

-- the column of an item's node: after its dash and a space (YAML 1.2.2, section 8.2.1)
abbrev pub item_column : ℕ → ℕ
item_column column = after_columns column (1 ∷ [])

-- the column of a node's rows: a step deeper than its key, or that of an item (YAML 1.2.2, sections 8.2.1 and 8.2.2; own)
abbrev pub column_below : Layout → ℕ → Option (List ℕ) → tree.Node → ℕ
column_below l column (Some k) n = column + indent_step l n
column_below l column None n = item_column column

-- the end of the line before these items or entries, or, where there are none, of the last line (own)
abbrev pub end_of_line_before : Layout → List ℕ → Children → List ℕ
end_of_line_before l end tree.none = end
end_of_line_before l end (tree.child label n cs) = break_text l.br

-- a row that begins at a column, with a key and what comes after it (YAML 1.2.2, section 8.2.2)
abbrev pub key_row : ℕ → List ℕ → Content → Row
key_row column k content = record { gap = []; column = column; dashes = []; mark = Key (block_key k) (58 ∷ []); content = content }

-- a row that begins at a column, with a dash and what comes after it (YAML 1.2.2, section 8.2.1)
abbrev pub dash_row : ℕ → Content → Row
dash_row column content = record { gap = []; column = column; dashes = []; mark = Dash; content = content }

-- rows of which the first one is on the line of a dash before it (YAML 1.2.2, section 8.2.1)
abbrev pub rows_on_dash : ℕ → List Row → List Row
rows_on_dash column [] = []
rows_on_dash column (r ∷ rs) = record r { column = column; dashes = 1 ∷ r.dashes } ∷ rs

-- the rows of an entry or item: one with an inline node, or one with a key and those below it, or those after a dash (YAML 1.2.2, section 8.2)
abbrev pub entry_rows : Layout → ℕ → (end : List ℕ) → Option (List ℕ) → Option inline.FlowNode → (below : List Row) → List Row
entry_rows l column end (Some k) (Some node) below = key_row column k (Inline (32 ∷ []) node end) ∷ []
entry_rows l column end (Some k) None below = key_row column k (Nothing (break_text l.br)) ∷ below
entry_rows l column end None (Some node) below = dash_row column (Inline (32 ∷ []) node end) ∷ []
entry_rows l column end None None below = rows_on_dash column below

unfoldable mutual
  -- the rows in which a collection is written at a column, of which the last one has that end; none where it is written inline (YAML 1.2.2,
  -- section 8.2; own)
  pub node_rows : Layout → ℕ → List ℕ → tree.Node → List Row
  node_rows l column end (tree.alias name) = []
  node_rows l column end (tree.scalar a kind text) = []
  node_rows l column end (tree.list a cs) = children_rows l column end cs
  node_rows l column end (tree.map a cs) = children_rows l column end cs

  -- the same of its items or entries (YAML 1.2.2, section 8.2; own)
  pub children_rows : Layout → ℕ → List ℕ → Children → List Row
  children_rows l column end tree.none = []
  children_rows l column end (tree.child label n cs) =
      entry_rows l column (end_of_line_before l end cs) label.key (inline_of n)
      (node_rows l (column_below l column label.key n) (end_of_line_before l end cs) n)
      ++ children_rows l column end cs
