-- The lines of what is written in block style are those of its value.
use Rattle.std.proofs.Common.{◌≡◌, ℕ, ◌+◌, ◌*◌, ◌<◌, ◌≤◌, Bool, true, false, List, [], ◌∷◌, ◌++◌, Option, Some, None, refl, sym, ap, ◌∙◌}
use Rattle.std.{proofs.Common.{subst, arith, rules}, specs.Str.IsUtf8}
use Rattle.yq_core.{specs.declared.block_types.Break.Break, specs.BlockWritten.break_text, specs.Text.upto}
use Rattle.yq_core.specs.Tree.{Children, key_label}
use Rattle.yq_flow_edits.specs.Valued.{IsLabel, IsValueTree, AreValueTrees}
use Rattle.yq_outline.{proofs.RowLaws.no_comments, specs.Comments.{head_comment, line_comment}}
use Rattle.yq_outline.specs.Grammar.{IsNodeOutline, mapping, sequence, AreEntryLines, no_more, entry, IsUnder, headed, deeper_lines}
use Rattle.yq_outline.specs.Lines.{mark_line, dash_line, lines_of_rows}
use Rattle.yq_outline.{specs.Outline.{LineMark, Bare, Key, Line, rank, level, anchored, label}, proofs.NodeLaws.anchored_none}
use Rattle.yq_row_table.specs.Rows.{Nothing, Inline, Row}
use Rattle.yq_places.proofs.UnderExchange.{lines_append}
use Rattle.yq_edit_rules.specs.BlockRows.{rows_on_dash, block_key, children_rows, column_below, end_of_line_before, entry_rows, indent_step}
use Rattle.yq_edit_rules.{specs.BlockRows.{inline_of, item_column, node_rows}, specs.BlockValues.{IsFilled, entry_level, level_at}}
use Rattle.yq_edit_rules.{specs.declared.layout.Layout.Layout, proofs.ScalarLaws.{Heads, heads, key_content_is}}
use Rattle.yq_core.specs.Tree as tree
use Rattle.yq_core.specs.Nodes as inline
use Rattle.yq_row_table.specs.Rows as rows

pub break_uncommented : (br : Break) → line_comment (break_text br) ≡ None
unfolding upto
break_uncommented br = search rules

-- rows that begin at a column
abbrev pub BeginAt : ℕ → List Row → Type 0
BeginAt column [] = ⊥
BeginAt column (r ∷ rs) = (r.gap ≡ []) × (r.column ≡ column)

begun_append : (column : ℕ) (xs ys : List Row) → BeginAt column xs → BeginAt column (xs ++ ys)
begun_append column xs ys h1 = search rules

entry_begun : (l : Layout) (column : ℕ) (end : List ℕ) (key : Option (List ℕ)) (n : tree.Node) (node : Option inline.FlowNode) (below : List Row) →
    Heads n node → (IsFilled n → BeginAt (column_below l column key n) below) → BeginAt column (entry_rows l column end key node below)
entry_begun l column end key n node below h1 h2 = search rules

abbrev ChildrenBegun : ℕ → Children → List Row → Type 0
ChildrenBegun column tree.none rs = Unit {0}
ChildrenBegun column (tree.child label n cs) rs = BeginAt column rs

mutual
  unfolding node_rows children_rows

  pub node_begun : (n : tree.Node) (l : Layout) (column : ℕ) (end : List ℕ) → IsFilled n → IsValueTree n → BeginAt column (node_rows l column end n)
  node_begun (tree.alias name) l column end b h = absurd b
  node_begun (tree.scalar a kind t) l column end b h = absurd b
  node_begun (tree.list a tree.none) l column end b h = absurd b
  node_begun (tree.list a (tree.child label n cs)) l column end b h = children_begun (tree.child label n cs) l column end false h.1
  node_begun (tree.map a tree.none) l column end b h = absurd b
  node_begun (tree.map a (tree.child label n cs)) l column end b h = children_begun (tree.child label n cs) l column end true h.1

  children_begun : (cs : Children) (l : Layout) (column : ℕ) (end : List ℕ) (keyed : Bool) → AreValueTrees keyed cs → ChildrenBegun column cs (children_rows l column end cs)
  children_begun tree.none l column end keyed h = tt
  children_begun (tree.child label n cs) l column end keyed h =
      begun_append column _ (children_rows l column end cs)
      (entry_begun l column (end_of_line_before l end cs) label.key n (inline_of n) _ (heads n h.1) (λ b. node_begun n l (column_below l column label.key n) (end_of_line_before l end cs) b h.1))

-- a dash before rows is a line more
after_lines : (column : ℕ) (rs : List Row) → BeginAt (item_column column) rs → lines_of_rows (rows_on_dash column rs) ≡ dash_line [] column ∷ lines_of_rows rs
after_lines column rs h1 = search (rules, no_comments)

-- an entry or item
pub unanchored : (a : Option (List ℕ)) (n : tree.Node) → a ≡ None → anchored a n ≡ n
unanchored a n h = ap (λ (b : Option (List ℕ)). anchored b n) h ∙ anchored_none n

one_more : (m : ℕ) (line : Line) (under after : List Line) (v : tree.Node) (l : tree.Label) (cs : Children) → level line ≡ m → (line.mark ≡ Bare → ⊥) → IsUnder line under v → AreEntryLines m after cs →
    label line ≡ l → line.anchor ≡ None → AreEntryLines m (line ∷ (under ++ after)) (tree.child l v cs)
one_more m line under after v l cs lev mark is rest same none =
    subst (λ (c : Children). AreEntryLines m (line ∷ (under ++ after)) c) (λ i. tree.child (same i) (unanchored line.anchor v none i) cs) (entry lev mark is rest refl)

abbrev keyed_level : Bool → ℕ → ℕ
keyed_level true column = 3 * column + 2
keyed_level false column = 3 * column + 3

under_key : (l : Layout) (column : ℕ) (n : tree.Node) → 1 ≤ l.mapping → IsFilled n → keyed_level true column < level_at (column + indent_step l n) n
under_key l column n h1 h2 = search rules

key_line_label : (k : List ℕ) (column : ℕ) (c : rows.Content) → IsUtf8 k → line_comment (Rattle.yq_outline.specs.Lines.tail_of c) ≡ None → label (mark_line (head_comment []) column (rows.Key (block_key k) (58 ∷ [])) c) ≡ key_label (Some k)
key_line_label k column c u uncommented = λ i. record { key = Some (key_content_is k u i); head_comment = no_comments i; line_comment = uncommented i }

dash_line_label : (column : ℕ) (c : rows.Content) → line_comment (Rattle.yq_outline.specs.Lines.tail_of c) ≡ None → label (mark_line (head_comment []) column rows.Dash c) ≡ key_label None
dash_line_label column c uncommented = λ i. record { key = None; head_comment = no_comments i; line_comment = uncommented i }

entry_lines : (l : Layout) (column : ℕ) (end : List ℕ) (keyed : Bool) (own_label : tree.Label) (n : tree.Node) (node : Option inline.FlowNode) (below : List Row) (after : List Line) (cs : Children) → 1 ≤ l.mapping →
    IsLabel keyed own_label → Heads n node → line_comment end ≡ None →
    (IsFilled n → BeginAt (column_below l column own_label.key n) below × IsNodeOutline (level_at (column_below l column own_label.key n) n) (lines_of_rows below) n) →
    AreEntryLines (keyed_level keyed column) after cs → AreEntryLines (keyed_level keyed column) (lines_of_rows (entry_rows l column end own_label.key node below) ++ after) (tree.child own_label n cs)
unfolding level
entry_lines l column end true own_label n (Some node) below after cs step is h uncommented held rest =
    subst (λ (x : tree.Label). AreEntryLines (keyed_level true column) (lines_of_rows (entry_rows l column end x.key (Some node) below) ++ after) (tree.child x n cs)) (sym is.1)
    (one_more _ _ [] after n _ cs (omega arith) (λ e. cc) (headed h.same) rest (key_line_label is.0 column (Inline (32 ∷ []) node end) is.2 uncommented) h.unnamed)
entry_lines l column end true own_label n None below after cs step is h uncommented held rest =
    let under : IsNodeOutline (level_at (column + indent_step l n) n) (lines_of_rows below) n = subst (λ (x : tree.Label). IsNodeOutline (level_at (column_below l column x.key n) n) (lines_of_rows below) n) is.1 (held h).1 in
    subst (λ (x : tree.Label). AreEntryLines (keyed_level true column) (lines_of_rows (entry_rows l column end x.key None below) ++ after) (tree.child x n cs)) (sym is.1)
    (one_more _ _ (lines_of_rows below) after n _ cs (omega arith) (λ e. cc) (deeper_lines refl (under_key l column n step h) under) rest (key_line_label is.0 column (Nothing (break_text l.br)) is.2 (break_uncommented l.br)) refl)
entry_lines l column end false own_label n (Some node) below after cs step is h uncommented held rest =
    subst (λ (x : tree.Label). AreEntryLines (keyed_level false column) (lines_of_rows (entry_rows l column end x.key (Some node) below) ++ after) (tree.child x n cs)) (sym is)
    (one_more _ _ [] after n _ cs (omega arith) (λ e. cc) (headed h.same) rest (dash_line_label column (Inline (32 ∷ []) node end) uncommented) h.unnamed)
entry_lines l column end false own_label n None below after cs step is h uncommented held rest =
    let at : ℕ = item_column column in
    let begun : BeginAt at below = subst (λ (x : tree.Label). BeginAt (column_below l column x.key n) below) is (held h).0 in
    let under : IsNodeOutline (level_at at n) (lines_of_rows below) n = subst (λ (x : tree.Label). IsNodeOutline (level_at (column_below l column x.key n) n) (lines_of_rows below) n) is (held h).1 in
    subst (λ (x : tree.Label). AreEntryLines (keyed_level false column) (lines_of_rows (entry_rows l column end x.key None below) ++ after) (tree.child x n cs)) (sym is)
    (subst (λ (ls : List Line). AreEntryLines (keyed_level false column) (ls ++ after) (tree.child (key_label None) n cs)) (sym (after_lines column below begun))
    (one_more _ (dash_line [] column) (lines_of_rows below) after n _ cs (omega arith) (λ e. cc) (deeper_lines refl (search rules) under) rest refl refl))

-- all of them
end_uncommented : (l : Layout) (end : List ℕ) (cs : Children) → line_comment end ≡ None → line_comment (end_of_line_before l end cs) ≡ None
end_uncommented l end cs h1 = search (rules, break_uncommented)

is_key : (m : LineMark) (c column : ℕ) → 3 * c + rank m ≡ 3 * column + 2 → (k : List ℕ) × (m ≡ Key k)
is_key (Key k) c column h = (k, refl)
is_key _ c column h = absurd (omega (arith, h))

as_map : {n : ℕ} {ls : List Line} {cs : Children} (column : ℕ) → n ≡ 3 * column + 2 → IsFilled (tree.map None cs) → AreEntryLines n ls cs → IsNodeOutline n ls (tree.map None cs)
unfolding level
as_map column e b no_more = absurd b
as_map column e b (entry {l} lev mark under more all) = let k = is_key l.mark l.column column (lev ∙ e) in mapping k.1 (entry lev mark under more all)

as_list : {n : ℕ} {ls : List Line} {cs : Children} (column : ℕ) → n ≡ 3 * column + 3 → IsFilled (tree.list None cs) → AreEntryLines n ls cs → IsNodeOutline n ls (tree.list None cs)
unfolding level
as_list column e b no_more = absurd b
as_list column e b (entry {l} lev mark under more all) = sequence (search (rules, lev ∙ e)) (entry lev mark under more all)

mutual
  unfolding node_rows children_rows

  pub node_is_there : (n : tree.Node) (l : Layout) (column : ℕ) (end : List ℕ) → 1 ≤ l.mapping → IsFilled n → IsValueTree n → line_comment end ≡ None → IsNodeOutline (level_at column n) (lines_of_rows (node_rows l column end n)) n
  node_is_there (tree.alias name) l column end step b h uncommented = absurd b
  node_is_there (tree.scalar a kind t) l column end step b h uncommented = absurd b
  node_is_there (tree.list a tree.none) l column end step b h uncommented = absurd b
  node_is_there (tree.list a (tree.child label n cs)) l column end step b h uncommented =
      rw h.0 (as_list column refl tt (children_are_there (tree.child label n cs) l column end false step h.1 uncommented))
  node_is_there (tree.map a tree.none) l column end step b h uncommented = absurd b
  node_is_there (tree.map a (tree.child label n cs)) l column end step b h uncommented =
      rw h.0 (as_map column refl tt (children_are_there (tree.child label n cs) l column end true step h.1 uncommented))

  children_are_there : (cs : Children) (l : Layout) (column : ℕ) (end : List ℕ) (keyed : Bool) → 1 ≤ l.mapping → AreValueTrees keyed cs →
      line_comment end ≡ None → AreEntryLines (keyed_level keyed column) (lines_of_rows (children_rows l column end cs)) cs
  children_are_there tree.none l column end keyed step h uncommented = no_more
  children_are_there (tree.child label n cs) l column end keyed step h uncommented =
      let below : ℕ = column_below l column label.key n in
      let last : List ℕ = end_of_line_before l end cs in
      let still = end_uncommented l end cs uncommented in
      let here : List Row = entry_rows l column last label.key (inline_of n) (node_rows l below last n) in
      subst (λ (ls : List Line). AreEntryLines (keyed_level keyed column) ls (tree.child label n cs)) (sym (lines_append here (children_rows l column end cs)))
      (entry_lines l column last keyed label n (inline_of n) (node_rows l below last n) (lines_of_rows (children_rows l column end cs)) cs step h.0 (heads n h.1) still
      (λ b. (node_begun n l below last b h.1, node_is_there n l below last step b h.1 still))
      (children_are_there cs l column end keyed step h.2 uncommented))

pub lines_deeper : (v : tree.Node) (l : Layout) (column : ℕ) (key : Option (List ℕ)) → 1 ≤ l.mapping → IsFilled v → entry_level key column < level_at (column_below l column key v) v
lines_deeper v l column key h1 h2 = search (rules, under_key)
