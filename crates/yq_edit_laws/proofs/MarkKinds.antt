-- Keys and dashes, and collections with items or entries.
use Rattle.std.{proofs.Common.{◌≡◌, ℕ, ◌+◌, not, true, false, cond, List, rules}, proofs.lemmas.Bool.false≢true}
use Rattle.yq_core.{specs.Text.is_empty, specs.Tree.Node}
use Rattle.yq_row_table.{proofs.NothingLaws.some_after, specs.Grammar.{IsMark, is_entry}, specs.Rows.Content, specs.View.colon_of}
use Rattle.yq_edit_rules.{specs.declared.layout.Layout.Layout, specs.BlockReading.is_filled}
use Rattle.yq_edit_rules.{specs.BlockRows.{column_below, indent_step, item_column}, specs.BlockValues.IsFilled}
use Rattle.yq_edit_laws.proofs.NodeValueLaws.{mark_key}
use Rattle.yq_row_table.specs.Rows as rows

-- a collection with items or entries
pub filled_is : (v : Node) → is_filled v ≡ true → IsFilled v
filled_is v h1 = search (rules, false≢true)

-- the column of a value below a key or dash
pub column_is : (m : rows.RowMark) (x : Content) (rest : List ℕ) (l : Layout) (v : Node) (n : ℕ) → is_entry m ≡ true → IsMark m x rest →
    cond (not (is_empty (colon_of m))) (n + indent_step l v) (item_column n) ≡ column_below l n (mark_key m) v
column_is m x rest l v n h1 h2 = search (rules, false≢true, some_after)

-- what is no key is a dash
pub dash_is : (m : rows.RowMark) (x : Content) (rest : List ℕ) → is_entry m ≡ true → IsMark m x rest → not (is_empty (colon_of m)) ≡ false → m ≡ rows.Dash
dash_is m x rest h1 h2 h3 = search (rules, false≢true, some_after)
