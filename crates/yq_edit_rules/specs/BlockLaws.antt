-- What is promised of the nodes and rows in which values are written in block style (own).
use Rattle.std.specs.Prelude.{◌≡◌, ℕ, ◌<◌, ◌≤◌, ℤ, Option, Some, List, [], ◌∷◌, ◌++◌, replicate, None, true, false, length}
use Rattle.std.specs.Str.{IsUtf8, chars}
use Rattle.yq_core.{specs.declared.style.Place.TheVariants.{Block, FlowKey}, specs.BlockWritten.break_text, specs.Characters.is_text}
use Rattle.yq_core.{specs.Piece.deeper, specs.Plain.ends_plain, specs.Scalar.string_of, specs.Inline.IsInline}
use Rattle.yq_core.{specs.NodesWritten.scalar_text, specs.Trees.{node_anchor, node_head}, specs.FitKeys.key_limit}
use Rattle.yq_text.specs.Limit.{text_limit}
use Rattle.yq_flow_edits.specs.Valued.{IsValueTree}
use Rattle.yq_outline.{specs.Comments.line_comment, specs.LineAnchors.HaveOneAnchorEach, specs.Lines.lines_of_rows}
use Rattle.yq_outline.specs.Outline.{IsLocatedAt}
use Rattle.yq_row_table.{specs.Exchange.asked_after, specs.Grammar.{is_more, Limit, allows, AreRows}, specs.Rows.rows_text}
use Rattle.yq_documents.specs.Documents.{HasFitKeys, HaveFitKeys, ReadsDocuments}
use Rattle.yq_edit_rules.{specs.declared.layout.Layout.Layout, specs.BlockRows.{inline_of, column_below, node_rows}}
use Rattle.yq_edit_rules.specs.BlockText.{block_value}
use Rattle.yq_edit_rules.specs.BlockValues.{IsFilled, IsFilledValue, IsNear, IsWritable, MayBeRoot, entry_level, level_at}
use Rattle.yq_core.specs.Tree as tree
use Rattle.yq_core.specs.Nodes as inline

-- An inline node is a value's: it is one below any parent, before any rest at which a plain scalar ends; it means the value and has no anchor; it may
-- be alone on its line; and its keys are fit (own).
pub record IsHead (v : tree.Node) (node : inline.FlowNode) : Type 0 where
  pub is_located : (n : ℤ) (rest : List ℕ) → ends_plain false (Some (deeper n)) rest ≡ true → IsInline Block n 0 node rest
  pub same : node_head node ≡ Some v
  pub unnamed : node_anchor node ≡ None
  pub more : is_more node ≡ true
  pub keys : HasFitKeys node

-- The inline node in which a value is written is the value's (own).
abbrev pub InlineWritten : Type 0
InlineWritten = (v : tree.Node) (node : inline.FlowNode) → IsValueTree v → inline_of v ≡ Some node → IsHead v node

-- The rows in which a value is written have its text, after the spaces before the first of them (own).
abbrev pub TextWritten : Type 0
TextWritten = (v : tree.Node) (l : Layout) (column : ℕ) (end rest : List ℕ) → IsFilledValue v →
    rows_text (node_rows l column end v) rest ≡ replicate column 32 ++ (block_value l column v ++ (end ++ rest))

-- They are rows, after any row that allows their column, where no plain scalar goes on after them (own).
abbrev pub RowsWritten : Type 0
RowsWritten = (v : tree.Node) (l : Layout) (column : ℕ) (end rest : List ℕ) (limit : Limit) → IsWritable v column end rest →
    allows limit column ≡ true → AreRows limit (node_rows l column end v) [] rest

-- After them a row may begin at any column up to theirs (own).
abbrev pub RowsFollow : Type 0
RowsFollow = (v : tree.Node) (l : Layout) (column c : ℕ) (end rest : List ℕ) (limit : Limit) → IsWritable v column end rest →
    c ≤ column → allows (asked_after limit (node_rows l column end v)) c ≡ true

-- Their lines mean the value, at the level of their column, where a mapping is deeper than its key and no comment is in the last line (own).
abbrev pub LinesWritten : Type 0
LinesWritten = (v : tree.Node) (l : Layout) (column : ℕ) (end : List ℕ) → 1 ≤ l.mapping → IsFilledValue v → line_comment end ≡ None →
    IsLocatedAt (lines_of_rows (node_rows l column end v)) v (level_at column v)

-- They are deeper than the line of the key or dash under which they are (own).
abbrev pub LinesDeeper : Type 0
LinesDeeper = (v : tree.Node) (l : Layout) (column : ℕ) (key : Option (List ℕ)) → 1 ≤ l.mapping → IsFilled v →
    entry_level key column < level_at (column_below l column key v) v

-- They hold no anchors, and no keys that would merge mappings or are too long (own).
abbrev pub RowsFitDocuments : Type 0
RowsFitDocuments = (v : tree.Node) (l : Layout) (column : ℕ) (end : List ℕ) → IsValueTree v →
    HaveFitKeys (node_rows l column end v) × HaveOneAnchorEach (lines_of_rows (node_rows l column end v))

-- A key that isn't too long as it is written in a flow collection isn't too long in block style (own).
abbrev pub KeysNear : Type 0
KeysNear = (k : List ℕ) → IsUtf8 k → length (chars (scalar_text (string_of k) FlowKey)) ≤ key_limit → IsNear (Some k)

-- What is written is made of the characters of a text (own).
abbrev pub CharactersWritten : Type 0
CharactersWritten = (v : tree.Node) (l : Layout) (column : ℕ) → IsValueTree v → IsUtf8 (block_value l column v) × (is_text (block_value l column v) ≡ true)

-- A text reads as one document of a collection, where this can be a root and the text isn't too long (own).
abbrev pub ReadsAlone : tree.Node → List ℕ → Type 0
ReadsAlone v text = MayBeRoot v → length text ≤ text_limit → ReadsDocuments text (record { lead = []; root = v } ∷ [])

-- A value that is written in column 0, with a break after it, where a mapping is deeper than its key, reads alone (own).
abbrev pub ValueRead : Type 0
ValueRead = (v : tree.Node) (l : Layout) → 1 ≤ l.mapping → IsValueTree v → ReadsAlone v (block_value l 0 v ++ break_text l.br)
