-- The text of rows in block style.
use Rattle.std.proofs.Common.{◌≡◌, ℕ, Bool, true, false, List, ◌++◌, Option, refl, ap, ◌∙◌, append_assoc, append-nil, replicate, rules}
use Rattle.std.proofs.lemmas.List.{append_cancel_left}
use Rattle.yq_core.{specs.Tree.Children, proofs.NodesWrittenLaws.node_then}
use Rattle.yq_flow_edits.specs.Valued.{IsValueTree, AreValueTrees}
use Rattle.yq_row_table.{specs.Rows.{Row, rows_text}, proofs.seams.SeamLaws.rows_text-append}
use Rattle.yq_edit_rules.specs.BlockRows.{children_rows, column_below, end_of_line_before, entry_rows, inline_of, node_rows}
use Rattle.yq_edit_rules.{specs.BlockText.{block_children, block_entry, block_node, then_lines, block_value}, specs.BlockValues.IsFilled}
use Rattle.yq_edit_rules.{specs.declared.layout.Layout.Layout, proofs.BlockLineLaws.{BeginAt, node_begun}, proofs.ScalarLaws.{Heads, heads}}
use Rattle.yq_core.specs.Tree as tree
use Rattle.yq_core.specs.Nodes as inline

-- spaces and a text, before an end
abbrev indented : ℕ → List ℕ → List ℕ → List ℕ
indented column t rest = replicate column 32 ++ (t ++ rest)

-- an entry or item
entry_spelled : (l : Layout) (column below : ℕ) (end : List ℕ) (key : Option (List ℕ)) (n : tree.Node) (node : Option inline.FlowNode) (rs : List Row) (t rest : List ℕ) →
    Heads n node → (IsFilled n → BeginAt below rs × (rows_text rs rest ≡ indented below t (end ++ rest))) →
    rows_text (entry_rows l column end key node rs) rest ≡ indented column (block_entry l below key node t) (end ++ rest)
entry_spelled l column below end key n node rs t rest h1 h2 = search (rules, node_then, append_assoc, append_cancel_left)

-- what comes after an entry or item
abbrev after_text : Layout → ℕ → Children → List ℕ → List ℕ → List ℕ
after_text l column tree.none end rest = rest
after_text l column (tree.child label n cs) end rest = indented column (block_children l column (tree.child label n cs)) (end ++ rest)

then_spelled : (l : Layout) (column : ℕ) (end : List ℕ) (cs : Children) (t rest : List ℕ) →
    indented column t (end_of_line_before l end cs ++ after_text l column cs end rest) ≡ indented column
    (t ++ then_lines l column cs (block_children l column cs)) (end ++ rest)
then_spelled l column end cs t rest = search (rules, append-nil, append_assoc)

mutual
  unfolding node_rows children_rows block_node block_children

  pub node_spelled : (n : tree.Node) (l : Layout) (column : ℕ) (end rest : List ℕ) → IsFilled n → IsValueTree n → rows_text (node_rows l column end n) rest ≡ indented column (block_node l column n) (end ++ rest)
  node_spelled (tree.alias name) l column end rest b h = absurd b
  node_spelled (tree.scalar a kind t) l column end rest b h = absurd b
  node_spelled (tree.list a tree.none) l column end rest b h = absurd b
  node_spelled (tree.list a (tree.child label n cs)) l column end rest b h = children_spelled (tree.child label n cs) l column end rest false h.1
  node_spelled (tree.map a tree.none) l column end rest b h = absurd b
  node_spelled (tree.map a (tree.child label n cs)) l column end rest b h = children_spelled (tree.child label n cs) l column end rest true h.1

  children_spelled : (cs : Children) (l : Layout) (column : ℕ) (end rest : List ℕ) (keyed : Bool) → AreValueTrees keyed cs → rows_text (children_rows l column end cs) rest ≡ after_text l column cs end rest
  children_spelled tree.none l column end rest keyed h = refl
  children_spelled (tree.child label n cs) l column end rest keyed h =
      let below : ℕ = column_below l column label.key n in
      let last : List ℕ = end_of_line_before l end cs in
      let here : List Row = entry_rows l column last label.key (inline_of n) (node_rows l below last n) in
      let after : List ℕ = after_text l column cs end rest in
      rows_text-append here (children_rows l column end cs) rest
      ∙ (ap (rows_text here) (children_spelled cs l column end rest keyed h.2)
      ∙ (entry_spelled l column below last label.key n (inline_of n) (node_rows l below last n) (block_node l below n) after (heads n h.1) (λ b. (node_begun n l below last b h.1, node_spelled n l below last after b h.1))
      ∙ then_spelled l column end cs (block_entry l below label.key (inline_of n) (block_node l below n)) rest))

pub value_spelled : (v : tree.Node) (l : Layout) (column : ℕ) (end rest : List ℕ) → IsFilled v → IsValueTree v → rows_text (node_rows l column end v) rest ≡ indented column (block_value l column v) (end ++ rest)
value_spelled (tree.list a (tree.child label n cs)) l column end rest b h = node_spelled (tree.list a (tree.child label n cs)) l column end rest b h
value_spelled (tree.map a (tree.child label n cs)) l column end rest b h = node_spelled (tree.map a (tree.child label n cs)) l column end rest b h
value_spelled _ l column end rest b h = absurd b
