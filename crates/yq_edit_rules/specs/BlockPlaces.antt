-- Rows that are put in the place of others, and values that are written there (own).
use Rattle.std.specs.Prelude.{◌≡◌, ℕ, ◌≤◌, List, [], ◌∷◌, ◌++◌, true, false, Some}
use Rattle.yq_core.{specs.Text.separates, specs.Alike.Alike}
use Rattle.yq_row_table.{specs.Alone.holds_nothing, specs.Exchange.{asked_after, with_content}}
use Rattle.yq_row_table.{specs.Grammar.{IsContent, is_entry, Limit, allows, IsRow, AreRows}, specs.Joined.{dashed_row, compact_row}}
use Rattle.yq_row_table.specs.Rows.{Dash, Content, Nothing, content_text, Row, parent_indent, mark_column, print_row, rows_text}
use Rattle.yq_outline.specs.Lines.{row_lines, lines_of_rows}
use Rattle.yq_edit_rules.{specs.declared.layout.Layout.Layout, specs.BlockRows.{item_column, node_rows}}
use Rattle.yq_edit_rules.specs.BlockValues.{IsFilledValue, IsWritable}
use Rattle.yq_core.specs.Tree as tree

-- rows of which the first one is on the line of a row's dash, after a space (YAML 1.2.2, section 8.2.1)
abbrev pub compact_rows : Row → List Row → List Row
compact_rows r [] = []
compact_rows r (q ∷ qs) = compact_row 1 r q ∷ qs

-- A row up to its key or last dash, which is itself, or up to a dash before others (YAML 1.2.2, section 8.2.1; own).
pub data IsUpto : Row → Row → Type 0 where
  at_mark : {r : Row} → is_entry r.mark ≡ true → IsUpto r r
  at_dash : {r : Row} {ns : List ℕ} (n : ℕ) (ms : List ℕ) → r.dashes ≡ ns ++ (n ∷ ms) → IsUpto (dashed_row ns (Nothing []) r) r

-- Rows in the place of a row before a rest: they are rows after any row that allows it, its text begins as theirs, and after them a row may begin at
-- any column up to this one (own).
pub record Replaces (limit : Limit) (column : ℕ) (r : Row) (old : List ℕ) (new : List Row) (rest : List ℕ) : Type 0 where
  pub rows : AreRows limit new [] rest
  pub alike : Alike (Some false) (print_row r old) (rows_text new rest)
  pub follow : (c : ℕ) → c ≤ column → allows (asked_after limit new) c ≡ true

-- A row, cut after a key or dash where nothing but an anchor and the end of the line is, is above rows at a column: it is no deeper (own).
pub record IsAbove (limit : Limit) (r : Row) (old : List ℕ) (s : Row) (x : Content) (below : ℕ) (rest : List ℕ) : Type 0 where
  pub row : IsRow limit r old
  pub upto : IsUpto s r
  pub deep : mark_column s ≤ below
  pub nothing : holds_nothing x ≡ true
  pub content : IsContent (parent_indent s) x rest
  pub apart : separates (content_text x rest) ≡ true

-- A value may be written on the lines after a row's key, or after any of its dashes, no less deep, in the place of what comes after it (own).
abbrev pub UnderWritten : Type 0
UnderWritten = (v : tree.Node) (l : Layout) (limit : Limit) (r s : Row) (old : List ℕ) (x : Content) (below : ℕ) (end rest : List ℕ) →
    IsWritable v (mark_column s) end rest → IsAbove limit r old s x below (rows_text (node_rows l below end v) rest) →
    Replaces limit (mark_column s) r old (with_content x s ∷ node_rows l below end v) rest

-- a value in rows on the line of a row's last dash (YAML 1.2.2, section 8.2.1; own)
abbrev pub compact_node : Layout → List ℕ → Row → tree.Node → List Row
compact_node l end s v = compact_rows s (node_rows l (item_column (mark_column s)) end v)

-- A value may be written on the line of any dash of a row, after a space, in the place of what comes after it (own).
abbrev pub AfterWritten : Type 0
AfterWritten = (v : tree.Node) (l : Layout) (limit : Limit) (r s : Row) (old end rest : List ℕ) → IsWritable v (mark_column s) end rest →
    IsRow limit r old → IsUpto s r → s.mark ≡ Dash → Replaces limit (mark_column s) r old (compact_node l end s v) rest

-- The lines of these rows are those of the row up to its dash, and those of the value (own).
abbrev pub AfterLines : Type 0
AfterLines = (v : tree.Node) (l : Layout) (s : Row) (end : List ℕ) → IsFilledValue v →
    lines_of_rows (compact_node l end s v) ≡ row_lines (dashed_row s.dashes (Nothing []) s) ++ lines_of_rows (node_rows l (item_column (mark_column s)) end v)

-- the first of these rows, if there is one, begins at a column up to this one (own)
abbrev pub BeginsUpto : ℕ → List Row → Type 0
BeginsUpto column [] = Unit {0}
BeginsUpto column (r ∷ rs) = r.column ≤ column

-- Where a row of a part and those under it are replaced by rows that replace it, the part's rows are rows (own).
abbrev pub RowsReplaced : Type 0
RowsReplaced = (limit : Limit) (column : ℕ) (before under after new : List Row) (r : Row) (end rest : List ℕ) →
    AreRows limit (before ++ (r ∷ (under ++ after))) end rest → BeginsUpto column after →
    Replaces (asked_after limit before) column r (rows_text (under ++ after) (end ++ rest)) new (rows_text after (end ++ rest)) →
    AreRows limit (before ++ (new ++ after)) end rest
