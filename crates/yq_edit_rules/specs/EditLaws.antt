-- What must hold of the segments that an operation replaces, by what is at its place (own).
use Rattle.std.specs.Prelude.{◌≡◌, ◌⊎◌, ℕ, ◌≤◌, List, [], ◌∷◌, length, Option, Some, true, false}
use Rattle.yq_core.{specs.Answers.◌>>=◌, specs.BlockWritten.break_text, specs.Paths.Step, specs.Tree.Node, specs.Collections.CollPieces}
use Rattle.yq_text.{specs.Limit.text_limit, specs.Script.{Segment, AllStay, keep, new_text, old_text}}
use Rattle.yq_row_table.specs.Rows.{Cut, cut_text}
use Rattle.yq_documents.specs.Reading.{documents, read_at}
use Rattle.yq_places.{specs.FirstBreak.first_break, specs.FlowNodes.flow_collection, specs.NodesAt.node_in}
use Rattle.yq_places.specs.RemovalPlaces.{has_others_at}
use Rattle.yq_places.specs.Placements.{FlowPart, RowsOfEntry, Placement, flow_placement, last_step, rows_of_entry, placement_at}
use Rattle.yq_semantics.{specs.Fits.Fits, specs.Operations.{Operation, replace, append, remove, line_comment, head_comment}}
use Rattle.yq_semantics.specs.Rooms.{room_of}
use Rattle.yq_edit_rules.{specs.CommentEdits.{head_comment_put, line_comment_put}, specs.Edits.{appended, op_edits, empty_collection}}
use Rattle.yq_edit_rules.{specs.EntryEdits.{block_more, one_removed}, specs.FlowParts.{flow_more, flow_put, flow_removed}}
use Rattle.yq_edit_rules.{specs.Layouts.layout_of, specs.Local.IsLocalTo, specs.Operands.HasOperand}
use Rattle.yq_edit_rules.{specs.ReplaceEdits.{has_text, value_put}, specs.Replacing.keeps_scalar, specs.ReadsAfter.ReadsAfter}

-- Segments make a text that reads as the documents after an operation, and exchange only the items that they touch; or all bytes stay.
pub record CarriedOut (op : Operation) (c : Cut) (ss : List Segment) : Type 0 where
  pub reads : ReadsAfter op c (new_text ss)
  pub local : IsLocalTo ss c ⊎ AllStay ss

-- Segments for an operation are of the text; and where the operation fits, and what they make of the text isn't too large, they carry it out.
pub record IsEdit (op : Operation) (c : Cut) (ss : List Segment) : Type 0 where
  pub old : old_text ss ≡ cut_text c
  pub carried : HasOperand op → Fits (room_of (cut_text c)) op (documents c) → length (new_text ss) ≤ text_limit → CarriedOut op c ss

-- Replace: a value put where something is.
abbrev pub ValuesArePut : Type 0
ValuesArePut =
    (n : ℕ) (steps : List Step) (v : Node) (c : Cut) (t : Placement) →
    read_at (cut_text c) ≡ Some c → placement_at n steps c ≡ Some t → keeps_scalar (node_in n steps c) v ≡ false →
    IsEdit (replace n steps v) c (value_put (has_text (node_in n steps c)) (layout_of n c) v t)

-- Replace in a flow collection.
abbrev pub FlowValuesArePut : Type 0
FlowValuesArePut =
    (n : ℕ) (steps : List Step) (v : Node) (c : Cut) (x : FlowPart) →
    read_at (cut_text c) ≡ Some c → flow_placement n c (last_step steps) ≡ Some x → keeps_scalar (node_in n steps c) v ≡ false →
    IsEdit (replace n steps v) c (flow_put (cut_text c) v x)

-- An equal scalar leaves all bytes.
abbrev pub EqualScalarsStay : Type 0
EqualScalarsStay =
    (n : ℕ) (steps : List Step) (v : Node) (c : Cut) →
    read_at (cut_text c) ≡ Some c → keeps_scalar (node_in n steps c) v ≡ true → IsEdit (replace n steps v) c (keep (cut_text c) ∷ [])

-- Append: one more item or entry at the end of a block collection.
abbrev pub MoreIsPut : Type 0
MoreIsPut =
    (n : ℕ) (steps : List Step) (key : Option (List ℕ)) (v : Node) (c : Cut) (t : Placement) (ss : List Segment) →
    read_at (cut_text c) ≡ Some c → placement_at n steps c ≡ Some t →
    block_more (layout_of n c) key v t ≡ Some ss → IsEdit (append n steps key v) c ss

-- Append: one more part at the end of a flow collection.
abbrev pub FlowMoreIsPut : Type 0
FlowMoreIsPut =
    (n : ℕ) (steps : List Step) (key : Option (List ℕ)) (v : Node) (c : Cut) (w : CollPieces) (ss : List Segment) →
    read_at (cut_text c) ≡ Some c → flow_collection n steps c ≡ Some w →
    flow_more (cut_text c) key v w ≡ Some ss → IsEdit (append n steps key v) c ss

-- Remove: one of several items or entries of a block collection.
abbrev pub OneIsRemoved : Type 0
OneIsRemoved =
    (n : ℕ) (steps : List Step) (c : Cut) (ss : List Segment) →
    read_at (cut_text c) ≡ Some c → has_others_at n steps c ≡ true → one_removed n steps c ≡ Some ss → IsEdit (remove n steps) c ss

-- Remove: one of several parts of a flow collection.
abbrev pub FlowPartIsRemoved : Type 0
FlowPartIsRemoved =
    (n : ℕ) (steps init : List Step) (s : Step) (c : Cut) (w : CollPieces) (ss : List Segment) →
    read_at (cut_text c) ≡ Some c → last_step steps ≡ Some (init, s) → flow_collection n init c ≡ Some w →
    flow_removed (cut_text c) s w ≡ Some ss → IsEdit (remove n steps) c ss

-- A sole item or entry: to replace its collection by an empty one removes it.
abbrev pub SoleIsRemoved : Type 0
SoleIsRemoved =
    (n : ℕ) (steps init : List Step) (s : Step) (v : Node) (c : Cut) (ss : List Segment) →
    read_at (cut_text c) ≡ Some c → last_step steps ≡ Some (init, s) → has_others_at n steps c ≡ false →
    (node_in n init c >>= empty_collection) ≡ Some v → IsEdit (replace n init v) c ss → IsEdit (remove n steps) c ss

-- LineComment.
abbrev pub LineCommentIsPut : Type 0
LineCommentIsPut =
    (n : ℕ) (steps : List Step) (text : List ℕ) (c : Cut) (e : RowsOfEntry) (ss : List Segment) →
    read_at (cut_text c) ≡ Some c → rows_of_entry n steps c ≡ Some e → line_comment_put text e ≡ Some ss →
    IsEdit (line_comment n steps text) c ss

-- HeadComment.
abbrev pub HeadCommentIsPut : Type 0
HeadCommentIsPut =
    (n : ℕ) (steps : List Step) (text : List ℕ) (c : Cut) (e : RowsOfEntry) (ss : List Segment) →
    read_at (cut_text c) ≡ Some c → rows_of_entry n steps c ≡ Some e →
    head_comment_put (break_text (first_break (cut_text c))) text e ≡ Some ss → IsEdit (head_comment n steps text) c ss

-- Each operation: what it exchanges carries it out.
abbrev pub EditsCarryOut : Type 0
EditsCarryOut = (op : Operation) (c : Cut) (ss : List Segment) → read_at (cut_text c) ≡ Some c → op_edits op c ≡ Some ss → IsEdit op c ss

-- For an operation that fits, there is something to replace.
abbrev pub FittingHasEdit : Type 0
FittingHasEdit =
    (op : Operation) (c : Cut) →
    read_at (cut_text c) ≡ Some c → HasOperand op → Fits (room_of (cut_text c)) op (documents c) → (ss : List Segment) × (op_edits op c ≡ Some ss)

-- The laws of each kind of edit together.
pub record KindsCarryOut : Type 0 where
  pub values : ValuesArePut
  pub flow_values : FlowValuesArePut
  pub equal : EqualScalarsStay
  pub more : MoreIsPut
  pub flow_more : FlowMoreIsPut
  pub one : OneIsRemoved
  pub flow_part : FlowPartIsRemoved
  pub sole : SoleIsRemoved
  pub line_comment : LineCommentIsPut
  pub head_comment : HeadCommentIsPut

-- A node to which an item or entry can be added is a block collection or a flow collection that gets one more.
abbrev pub AppendHasEdit : Type 0
AppendHasEdit =
    (n : ℕ) (steps : List Step) (key : Option (List ℕ)) (v : Node) (c : Cut) →
    read_at (cut_text c) ≡ Some c → Fits (room_of (cut_text c)) (append n steps key v) (documents c) →
    (ss : List Segment) × (appended n steps key v c ≡ Some ss)
