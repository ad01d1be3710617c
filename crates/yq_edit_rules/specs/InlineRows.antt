-- Rows that are alone on their lines, and the inline nodes of values (own).
use Rattle.std.specs.Prelude.{◌≡◌, ℕ, ℤ, suc, ◌+◌, List, [], ◌∷◌, length, Some, None, true, false}
use Rattle.yq_core.{specs.Paths.Step, specs.Piece.deeper, specs.Plain.{ends_plain, holds_break}, specs.Text.{is_marker, separates}}
use Rattle.yq_core.{specs.Tree.Node, specs.declared.style.Place.TheVariants.Block, specs.Inline.IsInline}
use Rattle.yq_core.{specs.Nodes.{node_text, takes_anchor}, specs.Trees.{node_anchor, node_head}}
use Rattle.yq_outline.{specs.Outline.flatten, specs.Places.{lines_before, FoundLine, find}, specs.Lines.lines_of_rows}
use Rattle.yq_row_table.{specs.Grammar.{is_more, is_plain_content}, specs.Rows.{Bare, Row, Part}}
use Rattle.yq_documents.{specs.Documents.HasFitKeys, specs.Reading.part_outline}
use Rattle.yq_core.specs.Nodes as inline

-- Steps lead to an entry or item without a head, under whose line a row alone is, which comes after these.
pub record LeadsBelow (p : Part) (s : Step) (ss : List Step) (front : List Row) (r : Row) : Type 0 where
  pub found : FoundLine
  pub is : find s ss (part_outline p) ≡ Some (found, [])
  pub open' : found.line.head ≡ None
  pub count : length (flatten found.under) ≡ 1
  pub mark : r.mark ≡ Bare
  pub number : length (lines_of_rows front) + length r.dashes ≡ suc (length (lines_before found.place))

-- a row is the root alone
pub record IsRootRow (p : Part) (r : Row) : Type 0 where
  pub count : length (lines_of_rows p.rows) ≡ 1
  pub mark : r.mark ≡ Bare

-- steps lead to a row that is alone on its line: a root, or the node of an entry or item
abbrev pub LeadsToLone : Part → List Step → List Row → Row → Type 0
LeadsToLone p [] front r = IsRootRow p r
LeadsToLone p (s ∷ ss) front r = LeadsBelow p s ss front r

-- An inline node is that of a value: below any parent it is one before any rest at which a plain scalar ends; it means the value and has no anchor; its
-- keys are fit; it is more than an anchor, and no marker; and if it is plain, it is on one line.
pub record IsValueNode (v : Node) (node : inline.FlowNode) : Type 0 where
  pub is_located : (n : ℤ) (rest : List ℕ) → ends_plain false (Some (deeper n)) rest ≡ true → IsInline Block n 0 node rest
  pub head : node_head node ≡ Some v
  pub unnamed : node_anchor node ≡ None
  pub takes : takes_anchor node ≡ true
  pub more : is_more node ≡ true
  pub keys : HasFitKeys node
  pub unmarked : (rest : List ℕ) → separates rest ≡ true → is_marker (node_text node rest) ≡ false
  pub line : is_plain_content node ≡ true → holds_break (node_text node []) ≡ false
