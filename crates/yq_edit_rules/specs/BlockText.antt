-- The text of values in block style, without rows (YAML 1.2.2, sections 8.2.1 and 8.2.2).
use Rattle.std.specs.Prelude.{ℕ, List, [], ◌∷◌, ◌++◌, replicate, Option, Some, None}
use Rattle.yq_core.{specs.BlockWritten.break_text, specs.Tree.Children, specs.Nodes.node_text}
use Rattle.yq_edit_rules.{specs.declared.layout.Layout.Layout, specs.BlockRows.{inline_of, block_key, column_below}}
use Rattle.yq_core.specs.Tree as tree
use Rattle.yq_core.specs.Nodes as inline

-- a break, the spaces up to a column, and the text of these items or entries on the lines there; nothing where there are none (own)
abbrev pub then_lines : Layout → ℕ → Children → List ℕ → List ℕ
then_lines l column tree.none text = []
then_lines l column (tree.child label n cs) text = break_text l.br ++ (replicate column 32 ++ text)

-- `k: v` or `- v`, or `k:` with what is below it at a column, or that after a dash (YAML 1.2.2, section 8.2)
abbrev pub block_entry : Layout → ℕ → Option (List ℕ) → Option inline.FlowNode → (below : List ℕ) → List ℕ
block_entry l column (Some k) (Some node) below = block_key k ++ (58 ∷ 32 ∷ node_text node [])
block_entry l column (Some k) None below = block_key k ++ (58 ∷ (break_text l.br ++ (replicate column 32 ++ below)))
block_entry l column None (Some node) below = 45 ∷ 32 ∷ node_text node []
block_entry l column None None below = 45 ∷ 32 ∷ below

unfoldable mutual
  -- a collection, after the spaces before its first line and up to its last break; nothing where it is written inline (YAML 1.2.2, section 8.2)
  pub block_node : Layout → ℕ → tree.Node → List ℕ
  block_node l column (tree.alias name) = []
  block_node l column (tree.scalar a kind text) = []
  block_node l column (tree.list a cs) = block_children l column cs
  block_node l column (tree.map a cs) = block_children l column cs

  -- the same of its items or entries (YAML 1.2.2, section 8.2)
  pub block_children : Layout → ℕ → Children → List ℕ
  block_children l column tree.none = []
  block_children l column (tree.child label n cs) =
      block_entry l (column_below l column label.key n) label.key (inline_of n) (block_node l (column_below l column label.key n) n)
      ++ then_lines l column cs (block_children l column cs)

-- an inline node, or else a text in rows (own)
abbrev pub inline_or : Option inline.FlowNode → List ℕ → List ℕ
inline_or None text = text
inline_or (Some node) text = node_text node []

-- a value after the spaces before its first line: a scalar or an empty collection inline, another collection in block style (YAML 1.2.2, section 8.2)
abbrev pub block_value : Layout → ℕ → tree.Node → List ℕ
block_value l column v = inline_or (inline_of v) (block_node l column v)
