-- The nodes of items and entries of flow collections, in front of a piece of a text (YAML 1.2.2, 7.4; own).
use Rattle.std.specs.Prelude.{◌≡◌, ℕ, true, List, ◌++◌, length, Option, Some, None}
use Rattle.yq_core.{specs.Answers.◌>>=◌, specs.Collections.CollPieces, specs.Entries.{EntryPieces, item_at}, specs.Paths.Step}
use Rattle.yq_core.{specs.Nodes.{IsFlowNode, node_text}, specs.Places.locate, specs.View.inline_view}
use Rattle.yq_row_table.specs.Rows.{Cut}
use Rattle.yq_documents.specs.Reading.{cut_of}
use Rattle.yq_places.specs.FlowNodes.{flow_collection}
use Rattle.yq_inline.specs.declared.along.NodeAlong.{NodeAlong}

-- the item or entry of a collection to which a step leads
abbrev pub coll_part : Step → CollPieces → Option EntryPieces
coll_part s w = item_at w.close s w.items w.rest

-- the same of the collection to which steps lead in document n
abbrev pub part_at : ℕ → List Step → Step → Cut → Option EntryPieces
part_at n steps s c = flow_collection n steps c >>= coll_part s

-- The node of an item or entry is in front of a piece of a text, after so many bytes of it, and has its places in this piece.
pub record IsPartNode (t : List ℕ) (y : EntryPieces) (x : NodeAlong × ℕ) : Type 0 where
  pub front : List ℕ
  pub after : List ℕ
  pub rest : List ℕ
  pub depth : ℕ
  pub text : t ≡ front ++ (x.0.text.now ++ after)
  pub before : x.1 ≡ length front
  pub rest_is : y.rest ≡ rest ++ after
  pub valid : IsFlowNode true (Some 0) depth y.node rest
  pub node_is : x.0.text.now ≡ node_text y.node rest
  pub view : inline_view x.0.node ≡ locate (length x.0.text.now) y.node rest

-- what the code finds is the node of an item or entry; nothing, where there is none
abbrev pub PartAgrees : List ℕ → Option EntryPieces → Option (NodeAlong × ℕ) → Type 0
PartAgrees t None None = Unit {0}
PartAgrees t None (Some x) = ⊥
PartAgrees t (Some y) None = ⊥
PartAgrees t (Some y) (Some x) = IsPartNode t y x

-- what the code finds is the item or entry to which a step leads in the flow collection at a path of document n
abbrev pub FindsPart : List ℕ → ℕ → List Step → Step → Option (NodeAlong × ℕ) → Type 0
FindsPart t n steps s o = PartAgrees t (part_at n steps s (cut_of t)) o
