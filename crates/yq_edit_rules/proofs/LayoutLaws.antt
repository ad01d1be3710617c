-- The steps of a document's layout.
use Rattle.std.proofs.Common.{◌≡◌, ℕ, ◌+◌, ◌≤◌, ◌&&◌, ◌||◌, not, Bool, true, false, List, [], ◌∷◌, ◌++◌, replicate, Option, Some, None}
use Rattle.std.{proofs.Common.{refl, ap, arith, rules}, proofs.lemmas.Bool.{false≢true, ltb-true, and_parts, or_left, or_right}}
use Rattle.std.{specs.List.slice_get, specs.Option.{is_none, is_some}}
use Rattle.yq_core.{specs.BlockWritten.break_text, specs.Text.is_empty, specs.Tree.{Node, alias, scalar, list, map, Children, none, child}}
use Rattle.yq_outline.{specs.Outline.{Line, level}, specs.Lines.lines_of_rows}
use Rattle.yq_row_table.specs.Rows.{Part, Cut}
use Rattle.yq_documents.specs.Documents.{document_parts}
use Rattle.yq_places.specs.Steps.{is_kind, first_step, steps_of_part}
use Rattle.yq_edit_rules.{specs.BlockReading.is_filled, specs.BlockRows.{block_key, column_below, indent_step, inline_of}}
use Rattle.yq_edit_rules.specs.BlockText.{block_children, block_entry, block_node, block_value, inline_or, then_lines}
use Rattle.yq_edit_rules.{specs.declared.layout.Layout.Layout, specs.ClosedTexts.closed_lines_put}
use Rattle.yq_edit_rules.specs.EntryEdits.{entry_lines, more_lines}
use Rattle.yq_edit_rules.specs.Layouts.{LooksLike, children_ask, node_asks, is_filled_as, layout_of, columns_deeper}
use Rattle.yq_core.specs.Nodes as inline

step_least : (ls : List Line) → 1 ≤ first_step (is_kind false) ls
unfolding level
step_least (l ∷ (m ∷ ls)) = search (rules, and_parts, ltb-true, false≢true, step_least (m ∷ ls))
step_least _ = omega arith

pub steps_least : (o : Option Part) → 1 ≤ (steps_of_part o).mapping
steps_least None = omega arith
steps_least (Some p) = step_least (lines_of_rows p.rows)

-- a mapping is deeper than its key
pub mapping_least : (n : ℕ) (c : Cut) → 1 ≤ (layout_of n c).mapping
mapping_least n c = steps_least (slice_get (document_parts c) n)

-- ---- what is written of a value by a look that is like another one as far as the value asks for it

module _ (l k : Layout) where
  -- the steps for which a test asks
  abbrev SameSteps : (Bool → Bool) → Type 0
  SameSteps asks = (dashes : Bool) → asks dashes ≡ true → columns_deeper dashes l ≡ columns_deeper dashes k

  -- by how many columns a collection is deeper than its key
  pub indent_like : (v : Node) → SameSteps (λ dashes. is_filled_as dashes v) → is_filled v ≡ true → indent_step l v ≡ indent_step k v
  indent_like (list a none) h filled = absurd (false≢true filled)
  indent_like (list a (child label n cs)) h filled = h true refl
  indent_like (map a none) h filled = absurd (false≢true filled)
  indent_like (map a (child label n cs)) h filled = h false refl
  indent_like _ h filled = refl

  columns_like : (column : ℕ) (key : Option (List ℕ)) (v : Node) → SameSteps (λ dashes. is_some key && is_filled_as dashes v) → is_filled v ≡ true →
      column_below l column key v ≡ column_below k column key v
  columns_like column None v h filled = refl
  columns_like column (Some x) v h filled = ap (λ d. column + d) (indent_like v h filled)

  module _ (same : l.br ≡ k.br) where
    -- an item or entry by its columns, and lines after it
    entry_by : (a b : ℕ) (key : Option (List ℕ)) (node : Option inline.FlowNode) (t u : List ℕ) → (is_none node ≡ true → a ≡ b) → (is_none node ≡ true → t ≡ u) →
        block_entry l a key node t ≡ block_entry k b key node u
    entry_by a b (Some x) (Some node) t u columns texts = refl
    entry_by a b (Some x) None t u columns texts = λ i. block_key x ++ (58 ∷ (break_text (same i) ++ (replicate (columns refl i) 32 ++ texts refl i)))
    entry_by a b None (Some node) t u columns texts = refl
    entry_by a b None None t u columns texts = ap (λ (x : List ℕ). 45 ∷ 32 ∷ x) (texts refl)

    then_like : (column : ℕ) (cs : Children) (t u : List ℕ) → t ≡ u → then_lines l column cs t ≡ then_lines k column cs u
    then_like column cs t u e = search rules

    one_like : (column : ℕ) (key : Option (List ℕ)) (v : Node) → SameSteps (λ dashes. is_some key && is_filled_as dashes v) → ((at : ℕ) → block_node l at v ≡ block_node k at v) →
        block_entry l (column_below l column key v) key (inline_of v) (block_node l (column_below l column key v) v)
        ≡ block_entry k (column_below k column key v) key (inline_of v) (block_node k (column_below k column key v) v)
    one_like column key v h below = search (rules, entry_by, columns_like)

    mutual
      unfolding block_node block_children node_asks children_ask

      pub node_like : (column : ℕ) (v : Node) → SameSteps (λ dashes. node_asks dashes v) → block_node l column v ≡ block_node k column v
      node_like column (alias name) h = refl
      node_like column (scalar a kind text) h = refl
      node_like column (list a cs) h = children_like column cs h
      node_like column (map a cs) h = children_like column cs h

      children_like : (column : ℕ) (cs : Children) → SameSteps (λ dashes. children_ask dashes cs) → block_children l column cs ≡ block_children k column cs
      children_like column none h = refl
      children_like column (child label n cs) h = λ i.
          one_like column label.key n
          (λ dashes e. h dashes (or_left (is_some label.key && is_filled_as dashes n) (node_asks dashes n || children_ask dashes cs) e))
          (λ at. node_like at n (λ dashes e. h dashes (or_right (is_some label.key && is_filled_as dashes n) _ (or_left (node_asks dashes n) (children_ask dashes cs) e)))) i
          ++ then_like column cs _ _ (children_like column cs (λ dashes e. h dashes (or_right (is_some label.key && is_filled_as dashes n) _ (or_right (node_asks dashes n) (children_ask dashes cs) e)))) i

-- a value
pub value_like : (keyed : Bool) (v : Node) (l k : Layout) (column : ℕ) → LooksLike keyed v l k → block_value l column v ≡ block_value k column v
value_like keyed v l k column h = ap (inline_or (inline_of v)) (node_like l k h.0 column v (λ dashes e. h.1 dashes (or_right (keyed && is_filled_as dashes v) (node_asks dashes v) e)))

-- an item or entry
entry_like : (key : Option (List ℕ)) (v : Node) (l k : Layout) (column : ℕ) → LooksLike (is_some key) v l k → entry_lines l column key v ≡ entry_lines k column key v
unfolding block_node block_children
entry_like None v l k column h =
    ap (λ (t : List ℕ). replicate column 32 ++ (t ++ [])) (one_like l k h.0 column None v (λ dashes e. absurd (false≢true e)) (λ at. node_like l k h.0 at v h.1))
entry_like (Some x) v l k column h =
    let under : SameSteps l k (λ dashes. is_filled_as dashes v) = λ dashes e. h.1 dashes (or_left (is_filled_as dashes v) (node_asks dashes v) e) in
    let inside : SameSteps l k (λ dashes. node_asks dashes v) = λ dashes e. h.1 dashes (or_right (is_filled_as dashes v) (node_asks dashes v) e) in
    ap (λ (t : List ℕ). replicate column 32 ++ (t ++ [])) (one_like l k h.0 column (Some x) v under (λ at. node_like l k h.0 at v inside))

-- one more item or entry
pub more_like : (key : Option (List ℕ)) (v : Node) (l k : Layout) (column : ℕ) (last : List ℕ) → LooksLike (is_some key) v l k → more_lines l key v column last ≡ more_lines k key v column last
more_like key v l k column last h = λ i. closed_lines_put (not (is_empty last)) (break_text (h.0 i)) (entry_like key v l k column h i)
