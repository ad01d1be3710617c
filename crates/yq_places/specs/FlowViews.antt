-- Reading (own; you may skip it): flow collections at paths, as the code finds them. The clauses `found` and `only` show that it agrees with the grammar.
use Rattle.std.specs.Prelude.{◌≡◌, ℕ, List, ◌++◌, length, slice_get, map, Option, Some, None}
use Rattle.yq_core.{specs.Answers.◌>>=◌, specs.Paths.Step, specs.Collections.{CollAt, CollPieces, IsCollAt}}
use Rattle.yq_core.{specs.Entries.{placed_entry_at, tree_step}, specs.Nodes.{coll, node_text}, specs.View.inline_view}
use Rattle.yq_core.specs.Places.{Placed, placed, CoreNode, nothing, name, text, sequence, mapping, locate}
use Rattle.yq_row_table.specs.Rows.{Part, Cut}
use Rattle.yq_outline.specs.Lines.{lines_of_rows}
use Rattle.yq_documents.specs.Documents.{document_parts}
use Rattle.yq_places.{specs.FlowNodes.flow_collection, specs.NodeReading.head_line_of, specs.declared.places.flow_node.FlowHead.FlowHead}

-- a collection with its places in a text so long (7.4)
abbrev pub placed_collection : ℕ → CollPieces → Placed
placed_collection total w = locate total (coll w.close w.gap w.items) w.rest

-- what comes after the anchor of a node, with its places
abbrev pub following_anchor : Placed → Placed
following_anchor (placed a s c e f) = placed None c c e f

-- a node, if its content is a collection (7.4)
abbrev pub if_collection : Placed → CoreNode → Option Placed
if_collection p nothing = None
if_collection p (name n) = None
if_collection p (text s piece) = None
if_collection p (sequence parts) = Some p
if_collection p (mapping parts) = Some p

-- the collection that a node is, without its anchor
abbrev pub collection_of : Placed → Option Placed
collection_of (placed a s c e f) = if_collection (following_anchor (placed a s c e f)) f

-- the collection to which steps lead in a node
abbrev pub collection_along : List Step → Placed → Option Placed
collection_along steps p = placed_entry_at steps (None, p) >>= λ e. collection_of e.1

-- the collection to which the steps lead that the code reports with a node
abbrev pub collection_view : FlowHead → Option Placed
collection_view x = collection_along (map tree_step x.left.now) (inline_view x.node.value)

-- The collection to which the steps lead is this one of a text: the node is in a piece of that text, where it could be alone, and
-- has its places in this piece (7.4; own).
pub record IsHeadOfSteps (t : List ℕ) (w : CollPieces) (x : FlowHead) : Type 0 where
  pub front : List ℕ
  pub after : List ℕ
  pub rest : List ℕ
  pub text : t ≡ front ++ (x.text.now ++ after)
  pub before : x.before ≡ length front
  pub rest_is : w.rest ≡ rest ++ after
  pub at : CollAt
  pub is_located : IsCollAt at
  pub node_is : x.text.now ≡ node_text at.node at.rest
  pub coll_is : at.coll ≡ record w { rest = rest }
  pub found : collection_view x ≡ Some (placed_collection (length x.text.now) (record w { rest = rest }))

-- What the code reports is the flow collection at a path of a text; nothing, where there is none (7.4; own).
abbrev pub FlowAgrees : List ℕ → Option CollPieces → Option FlowHead → Type 0
FlowAgrees t None None = Unit {0}
FlowAgrees t (Some w) None = ⊥
FlowAgrees t None (Some x) = collection_view x ≡ None
FlowAgrees t (Some w) (Some x) = IsHeadOfSteps t w x

-- The first steps of a path lead to the head of a line of document n, whichever steps go on there (8.2).
pub record LeadsToHead (c : Cut) (n : ℕ) (stem : List Step) : Type 0 where
  pub part : Part
  pub there : slice_get (document_parts c) n ≡ Some part
  pub number : ℕ
  pub leads : (left : List Step) → head_line_of (stem ++ left) (lines_of_rows part.rows) ≡ Some (number, left)

-- The code tells with a node all flow collections of the head to which steps lead in document n of a text with its cut: with other steps in the node it
-- tells the one to which these lead (7.4; own).
pub record ReportsHead (t : List ℕ) (c : Cut) (n : ℕ) (stem : List Step) (x : FlowHead) : Type 0 where
  pub leads : LeadsToHead c n stem
  pub reports : (y : FlowHead) → y.node ≡ x.node → y.text ≡ x.text → y.before ≡ x.before → FlowAgrees t (flow_collection n (stem ++ map tree_step y.left.now) c) (Some y)

-- the same of the head that was found for a path: the steps that the code reports go on in it (own)
abbrev pub IsHeadFor : List ℕ → Cut → ℕ → List Step → FlowHead → Type 0
IsHeadFor t c n steps x = (stem : List Step) × (steps ≡ stem ++ map tree_step x.left.now) × ReportsHead t c n stem x
