-- What laws say of a cut whose row has another content, node or tail (own).
use Rattle.std.specs.Prelude.{◌≡◌, ℕ, true, false, List, [], ◌++◌, Some}
use Rattle.yq_core.{specs.Characters.is_text, specs.Nodes.{FlowNode, node_text}, specs.Plain.ends_plain}
use Rattle.yq_row_table.{specs.Grammar.{AreRows, Limit, limit_after}, specs.Rows.{Content, Cut, Row, content_text, cut_text, rows_text}}
use Rattle.yq_row_table.{specs.Seams.retail, specs.Splices.CutsItsText}
use Rattle.yq_rows.specs.RowSplices.{RowSplice, after_splice, before_splice, cut_spliced, old_gap, old_rows}
use Rattle.yq_rows.specs.RowsBetween.{AppendedRows, RowBetween, closed_rows, cut_appended, cut_with_row}
use Rattle.yq_rows.specs.RowsInCuts.{NodeInRow, RowInCut, after_node, before_node, before_row_content, cut_with_content, text_after}
use Rattle.yq_rows.specs.RowsInCuts.{text_with}

-- the text of a cut is that before the row's content, this content, and that after the row
abbrev pub IsTextAround : Content → RowInCut → Cut → Type 0
IsTextAround new x c = cut_text c ≡ before_row_content x ++ content_text new (text_after x)

-- so is the text of the cut with this content in that row
abbrev pub HasContent : Content → RowInCut → Type 0
HasContent new x = IsTextAround new x (cut_with_content new x)

-- the cut with this content in that row is one of its text
abbrev pub IsTaken : Content → RowInCut → Type 0
IsTaken new x = CutsItsText (cut_with_content new x)

-- a plain scalar ends before a tail after the row, where it could go on from this column
abbrev pub EndsPlain : ℕ → List ℕ → RowInCut → Type 0
EndsPlain d tail x = ends_plain false (Some d) (tail ++ text_after x) ≡ true

-- a text is that before the node, the node, and that after it
abbrev pub IsAroundNode : List ℕ → NodeInRow → Type 0
IsAroundNode t x = t ≡ before_node x ++ (node_text x.node [] ++ after_node x)

-- with another node the text has the characters of a text
abbrev pub MakesText : FlowNode → NodeInRow → Type 0
MakesText new x = is_text (text_with new x) ≡ true

-- the cut with this row in the place of that one is one of its text
abbrev pub RowIsTaken : Row → RowBetween → Type 0
RowIsTaken new x = CutsItsText (cut_with_row new x)

-- so is the cut with this tail after that row
abbrev pub TailIsTaken : List ℕ → RowBetween → Type 0
TailIsTaken new x = RowIsTaken (retail new x.row) x

-- rows, of which the last one gets a break, and those that come after them are rows of a part
abbrev pub AreAppended : Limit → AppendedRows → Type 0
AreAppended limit x = AreRows limit (x.front ++ closed_rows x) x.end []

-- the text of a cut is that before the splice, the rows that it takes out with the gap after them, and the rest
abbrev pub HasOldRows : RowSplice → Type 0
HasOldRows x = cut_text x.cut ≡ before_splice x ++ rows_text (old_rows x) (old_gap x ++ after_splice x)

-- the text of the spliced cut is the same with its new rows and their gap
abbrev pub HasNewRows : RowSplice → Type 0
HasNewRows x = cut_text (cut_spliced x) ≡ before_splice x ++ rows_text x.new (x.gap ++ after_splice x)

-- the cut with rows after the last one of a part is one of its text
abbrev pub IsClosedCut : ℕ → Cut → AppendedRows → Type 0
IsClosedCut k c x = CutsItsText (cut_appended k c x)

-- two rows ask the same of the next one
abbrev pub AskAlike : Row → Row → Type 0
AskAlike r q = limit_after r ≡ limit_after q
