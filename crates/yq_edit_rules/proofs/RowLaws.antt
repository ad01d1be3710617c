-- What is written in block style is rows.
use Rattle.std.proofs.Common.{◌≡◌, ℕ, ◌+◌, ◌≤◌, pos, Bool, true, false, List, [], ◌∷◌, ◌++◌, Option, Some, refl, arith, append-nil, rules}
use Rattle.std.{proofs.Common.{None, ap, subst}, proofs.Math.Bool.and-false, proofs.lemmas.Bool.lt-ltb, specs.Str.IsUtf8}
use Rattle.yq_core.{specs.declared.block_types.Break.Break, specs.BlockWritten.break_text, specs.Text.{is_marker, separates}}
use Rattle.yq_core.{specs.Tree.Children, specs.Nodes.node_text, proofs.Alikes.sep_first}
use Rattle.yq_flow_edits.specs.Valued.{IsLabel, IsValueTree, AreValueTrees}
use Rattle.yq_row_table.specs.Grammar.{allows, Limit, is_entry, IsMark, IsContent, IsRow, unlimited}
use Rattle.yq_row_table.specs.Rows.{Nothing, Inline, Row, rows_text, RowMark, Dash, Key, Content, content_text, mark_text, parent_of}
use Rattle.yq_edit_rules.specs.BlockRows.{block_key, children_rows, column_below, end_of_line_before, entry_rows, inline_of, key_row}
use Rattle.yq_edit_rules.specs.BlockRows.{node_rows, indent_step}
use Rattle.yq_edit_rules.specs.BlockValues.{EachHasNearKeys, HasNearKeys, IsEnd, IsFilled, IsNear, IsWritable}
use Rattle.yq_edit_rules.{specs.declared.layout.Layout.Layout, proofs.BlockEndLaws.{break_tail, deeper_end, line_ends}}
use Rattle.yq_edit_rules.{proofs.KeyLaws.key_unmarked, proofs.LaidRows.{AreLaid, laid_append, laid_after, laid_line, no_gap_here}}
use Rattle.yq_edit_rules.{proofs.ScalarLaws.{Heads, heads, key_is}, specs.BlockLaws.IsHead}
use Rattle.yq_core.specs.Tree as tree
use Rattle.yq_core.specs.Nodes as inline

-- a row that begins at a column with a mark
abbrev front_row : ℕ → RowMark → Content → Row
front_row column mark content = record { gap = []; column = column; dashes = []; mark = mark; content = content }

-- A key or dash before what comes after it.
record IsFront (column : ℕ) (m : RowMark) (content : Content) (rest : List ℕ) : Type 0 where
  entry : is_entry m ≡ true
  unmarked : is_marker (mark_text m (content_text content rest)) ≡ false
  mark : IsMark m content rest
  indent : parent_of m column ≡ pos column

key_front : (column : ℕ) (k : List ℕ) (content : Content) (rest : List ℕ) → IsUtf8 k → IsNear (Some k) → separates (content_text content rest) ≡ true → IsFront column (Key (block_key k) (58 ∷ [])) content rest
key_front column k content rest u near apart = search (rules, key_unmarked, key_is)

dash_front : (column : ℕ) (node : inline.FlowNode) (end rest : List ℕ) → IsFront column Dash (Inline (32 ∷ []) node end) rest
dash_front column node end rest = record { entry = refl; unmarked = sep_first 45 (32 ∷ node_text node (end ++ rest)) refl; mark = refl; indent = refl }

front_is : (limit : Limit) (column : ℕ) (m : RowMark) (content : Content) (rest : List ℕ) → allows limit column ≡ true → IsFront column m content rest → IsContent (pos column) content rest → IsRow limit (front_row column m content) rest
front_is limit column m content rest allowed f c = search (rules, no_gap_here, and-false)

inline_laid : (column : ℕ) (m : RowMark) (end : List ℕ) (n : tree.Node) (node : inline.FlowNode) (rest : List ℕ) →
    IsFront column m (Inline (32 ∷ []) node end) rest → IsHead n node → IsEnd column end rest →
    AreLaid column (front_row column m (Inline (32 ∷ []) node end) ∷ []) rest
inline_laid column m end n node rest f h e = search (rules, front_is, pos, no_gap_here, arith, lt-ltb)

above_laid : (column below : ℕ) (br : Break) (k : List ℕ) (rs : List Row) (rest : List ℕ) → IsUtf8 k → IsNear (Some k) → column ≤ below → AreLaid below rs rest → AreLaid column (key_row column k (Nothing (break_text br)) ∷ rs) rest
above_laid column below br k [] rest u near deep h = absurd h
above_laid column below br k (r ∷ rs) rest u near deep h =
    let t : List ℕ = rows_text (r ∷ rs) rest in
    let f = key_front column k (Nothing (break_text br)) t u near (search rules) in
    record {
      gap = refl;
      at = refl;
      entry = refl;
      laid = λ limit allowed. (front_is limit column (Key (block_key k) (58 ∷ [])) (Nothing (break_text br)) t allowed f (break_tail br t), h.laid unlimited refl);
      follows = λ c within. h.follows c (omega (arith, within, deep));
    }

-- an entry or item
entry_laid : (l : Layout) (column : ℕ) (end : List ℕ) (keyed : Bool) (label : tree.Label) (n : tree.Node) (node : Option inline.FlowNode) (below : List Row) (rest : List ℕ) →
    IsLabel keyed label → IsNear label.key → Heads n node → IsEnd column end rest → (IsFilled n → AreLaid (column_below l column label.key n) below rest) →
    AreLaid column (entry_rows l column end label.key node below) rest
entry_laid l column end true label n (Some node) below rest is near h e inner =
    rw is.1 (inline_laid column _ end n node rest (key_front column is.0 (Inline (32 ∷ []) node end) rest is.2 (subst IsNear (ap (λ (x : tree.Label). x.key) is.1) near) refl) h e)
entry_laid l column end true label n None below rest is near h e inner =
    rw is.1 (above_laid column (column + indent_step l n) l.br is.0 below rest is.2 (subst IsNear (ap (λ (x : tree.Label). x.key) is.1) near) (omega arith)
    (subst (λ (x : tree.Label). AreLaid (column_below l column x.key n) below rest) is.1 (inner h)))
entry_laid l column end false label n (Some node) below rest is near h e inner = rw is (inline_laid column Dash end n node rest (dash_front column node end rest) h e)
entry_laid l column end false label n None below rest is near h e inner = search (rules, laid_after)

below_deeper : (l : Layout) (column : ℕ) (key : Option (List ℕ)) (n : tree.Node) → column ≤ column_below l column key n
below_deeper l column (Some k) n = omega arith
below_deeper l column None n = omega arith

-- items or entries, of which there may be none
abbrev ChildrenLaid : ℕ → Children → List Row → List ℕ → Type 0
ChildrenLaid column tree.none rs rest = Unit {0}
ChildrenLaid column (tree.child label n cs) rs rest = AreLaid column rs rest

join : (l : Layout) (column : ℕ) (end : List ℕ) (cs : Children) (xs : List Row) (rest : List ℕ) →
    AreLaid column xs (rows_text (children_rows l column end cs) rest) → ChildrenLaid column cs (children_rows l column end cs) rest →
    AreLaid column (xs ++ children_rows l column end cs) rest
unfolding children_rows
join l column end cs xs rest h1 h2 = search (rules, append-nil, laid_append)

end_laid : (l : Layout) (column : ℕ) (end : List ℕ) (cs : Children) (rest : List ℕ) → IsEnd column end rest →
    ChildrenLaid column cs (children_rows l column end cs) rest →
    IsEnd column (end_of_line_before l end cs) (rows_text (children_rows l column end cs) rest)
unfolding children_rows
end_laid l column end tree.none rest e k = e
end_laid l column end (tree.child label n cs) rest e k = line_ends l.br column _ (laid_line column _ rest k)

mutual
  unfolding node_rows children_rows

  pub node_laid : (n : tree.Node) (l : Layout) (column : ℕ) (end rest : List ℕ) → IsFilled n → IsValueTree n → HasNearKeys n → IsEnd column end rest → AreLaid column (node_rows l column end n) rest
  node_laid (tree.alias name) l column end rest b h k e = absurd b
  node_laid (tree.scalar a kind t) l column end rest b h k e = absurd b
  node_laid (tree.list a tree.none) l column end rest b h k e = absurd b
  node_laid (tree.list a (tree.child label n cs)) l column end rest b h k e = children_laid (tree.child label n cs) l column end rest false h.1 k e
  node_laid (tree.map a tree.none) l column end rest b h k e = absurd b
  node_laid (tree.map a (tree.child label n cs)) l column end rest b h k e = children_laid (tree.child label n cs) l column end rest true h.1 k e

  children_laid : (cs : Children) (l : Layout) (column : ℕ) (end rest : List ℕ) (keyed : Bool) → AreValueTrees keyed cs → EachHasNearKeys cs → IsEnd column end rest → ChildrenLaid column cs (children_rows l column end cs) rest
  children_laid tree.none l column end rest keyed h k e = tt
  children_laid (tree.child label n cs) l column end rest keyed h k e =
      let later = children_laid cs l column end rest keyed h.2 k.2 e in
      let after : List ℕ = rows_text (children_rows l column end cs) rest in
      let ends = end_laid l column end cs rest e later in
      let below : ℕ = column_below l column label.key n in
      let deep : column ≤ below = below_deeper l column label.key n in
      join l column end cs _ rest
      (entry_laid l column (end_of_line_before l end cs) keyed label n (inline_of n) (node_rows l below (end_of_line_before l end cs) n) after h.0 k.0 (heads n h.1) ends
      (λ b. node_laid n l below (end_of_line_before l end cs) after b h.1 k.1 (deeper_end column below (end_of_line_before l end cs) after deep ends)))
      later

pub value_laid : (v : tree.Node) (l : Layout) (column : ℕ) (end rest : List ℕ) → IsWritable v column end rest → AreLaid column (node_rows l column end v) rest
value_laid v l column end rest h = node_laid v l column end rest h.rows.filled h.rows.value h.near h.ends

pub deeper_laid : (v : tree.Node) (l : Layout) (column below : ℕ) (end rest : List ℕ) → column ≤ below → IsWritable v column end rest → AreLaid below (node_rows l below end v) rest
deeper_laid v l column below end rest deep h = node_laid v l below end rest h.rows.filled h.rows.value h.near (deeper_end column below end rest deep h.ends)
