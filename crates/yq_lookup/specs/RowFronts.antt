-- The node in the head of a row that begins with a bracket, in front of a text (YAML 1.2.2, 7.4; own).
use Rattle.std.specs.Prelude.{◌≡◌, ℕ, ℤ, ◌≤◌, false, List, [], ◌++◌, length, map, option_map, slice_get, take, Option, Some, None}
use denote.Bor.{Bor}
use Rattle.yq_core.{specs.Places.Placed, specs.Collections.coll_along, specs.Entries.tree_step, specs.Inline.depth_limit, specs.Paths.Step}
use Rattle.yq_core.{specs.Piece.deeper, specs.Nodes.{FlowNode, IsFlowNode, node_text}, specs.Trees.{placed_tree, tree_of}}
use Rattle.yq_text.specs.Limit.{text_limit}
use Rattle.yq_row_table.{specs.Exchange.after_row, specs.Rows.{Content, Row, parent_indent}, specs.View.rows_of}
use Rattle.yq_inline.{specs.Along.{front_read, located_along}, specs.declared.before_offset.LeadingNode.LeadingNode}
use Rattle.yq_documents.specs.Reading.{cut_of}
use Rattle.yq_places.{specs.FlowNodes.{content_flow, flow_collection}, specs.NodesAt.{NodeAt, node_in, node_summary, node_view}}
use Rattle.yq_lookup.{specs.declared.node_at.FoundNode.FoundNode, specs.declared.node_at.FoundNode.TheVariants.{InFlow, Outside}}
use Rattle.yq_outline.specs.Lines.{head_of}
use Rattle.yq_core.specs.declared.path.Step as declared
use Rattle.yq_places.specs.declared.places.node_at.NodeAt as found

-- The node of a content after its anchor, below a parent of this indentation, and what comes after it in the row: the tree and the flow collections of
-- the content are those of the node.
pub record HeadNode (n : ℤ) (x : Content) : Type 0 where
  pub node : FlowNode
  pub rest : List ℕ
  pub valid : IsFlowNode false (Some (deeper n)) depth_limit node rest
  pub tree : head_of x ≡ Some (tree_of node)
  pub flow : (ss : List Step) → content_flow ss x [] ≡ coll_along ss node rest

-- The node in front of a text is that in the head of a row; the text is a piece of another one, before so much and after so many bytes of it.
pub record IsRowFront (t after : List ℕ) (r : Row) (x : LeadingNode × ℕ) : Type 0 where
  pub head : HeadNode (parent_indent r) r.content
  pub read : front_read x.0 ≡ Some (head.node, head.rest)
  pub text : x.0.text.now ≡ node_text head.node head.rest
  pub is_located : t ≡ take x.1 t ++ (x.0.text.now ++ after)
  pub begins : x.1 ≡ length (take x.1 t)
  pub size : length t ≤ text_limit

-- the same of what the code finds; nothing, only where no flow collection is in the head
abbrev pub FrontAgrees : List ℕ → List ℕ → Row → Option (LeadingNode × ℕ) → Type 0
FrontAgrees t after r None = (ss : List Step) → content_flow ss r.content after ≡ None
FrontAgrees t after r (Some x) = IsRowFront t after r x

-- the same of row i of a text
abbrev pub FindsFront : List ℕ → ℕ → Option (LeadingNode × ℕ) → Type 0
FindsFront t i o = (r : Row) → slice_get (rows_of (cut_of t)) i ≡ Some r → FrontAgrees t (after_row i (cut_of t)) r o

-- Steps lead to the flow collection at a path of document n in the node in the head of a row.
pub record IsFlowFront (t : List ℕ) (n : ℕ) (steps : List Step) (x : LeadingNode × ℕ × Bor (List declared.Step)) : Type 0 where
  pub row : Row
  pub after : List ℕ
  pub front : IsRowFront t after row (x.0, x.1)
  pub found : flow_collection n steps (cut_of t) ≡ content_flow (map tree_step x.2.now) row.content after

-- the same of what the code finds; nothing, only where no flow collection is at the path
abbrev pub LeadsToFront : List ℕ → ℕ → List Step → Option (LeadingNode × ℕ × Bor (List declared.Step)) → Type 0
LeadsToFront t n steps None = flow_collection n steps (cut_of t) ≡ None
LeadsToFront t n steps (Some x) = IsFlowFront t n steps x

-- what is known of the node to which steps lead in the node in front
abbrev pub summary_along : List Step → LeadingNode → Option NodeAt
summary_along ss n = option_map (λ (x : List ℕ × Placed). node_summary (placed_tree x.1)) (located_along ss (front_read n))

-- what the code finds is that node
abbrev pub IsNodeAlong : List Step → LeadingNode → Option found.NodeAt → Type 0
IsNodeAlong ss n o = option_map node_view o ≡ summary_along ss n

-- where the code finds the node at a path in the node in front of a text; nothing outside flow collections
abbrev pub flow_found : FoundNode → Option (LeadingNode × ℕ × Bor (List declared.Step))
flow_found (InFlow front before left) = Some (front, before, left)
flow_found (Outside o) = None

-- what is known of the node that the code finds
abbrev pub found_summary : FoundNode → Option NodeAt
found_summary (InFlow front before left) = summary_along (map tree_step left.now) front
found_summary (Outside o) = option_map node_view o

-- What the code finds at a path of document n is the node there: the flow collection at the path is in the node in front of a text, or there is
-- none.
pub record IsFoundNode (t : List ℕ) (n : ℕ) (steps : List Step) (x : FoundNode) : Type 0 where
  pub flow : LeadsToFront t n steps (flow_found x)
  pub node : found_summary x ≡ option_map node_summary (node_in n steps (cut_of t))
