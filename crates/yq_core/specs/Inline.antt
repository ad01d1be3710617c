-- The inline node at an offset of a text.
use Rattle.std.specs.Prelude.{◌≡◌, ℕ, ◌-◌, true, not, List, Option, Some, None, length, drop, ℤ, if◌then◌else◌}
use Rattle.yq_core.{specs.declared.style.Place.Place, specs.Answers.◌>>=◌, specs.Piece.further_spaces, specs.Writable.in_flow}
use Rattle.yq_core.{specs.Nodes.{FlowNode, node_text, IsFlowNode, is_empty_node}, specs.Places.{Placed, locate, bare_placed}}
use Rattle.yq_core.specs.PlacedReading.{placed_node}

-- how many collections may be nested (own)
abbrev pub depth_limit : ℕ
depth_limit = 64

-- An inline node before a rest, below a parent of that indentation, with so many collections around it; it is something, if only an anchor
-- (YAML 1.2.2, sections 6.9.2, 7.1 and 7.4; own).
pub record IsInline (place : Place) (n : ℤ) (depth : ℕ) (node : FlowNode) (rest : List ℕ) : Type 0 where
  pub valid : IsFlowNode (in_flow place) (further_spaces place n) (depth_limit - depth) node rest
  pub something : not (is_empty_node node) ≡ true

-- the inline node, with its places, that begins at this offset of the text (own)
pub record IsInlineAt (place : Place) (n : ℤ) (depth at : ℕ) (text : List ℕ) (p : Placed) : Type 0 where
  pub node : FlowNode
  pub rest : List ℕ
  pub is_located : drop at text ≡ node_text node rest
  pub inline : IsInline place n depth node rest
  pub places : p ≡ locate (length text) node rest

-- the node, if it is something (own)
abbrev pub if_something : Placed × List ℕ → Option Placed
if_something x = if not (bare_placed x.0) then Some x.0 else None

-- the inline node that begins at this offset, if one does (own)
abbrev pub inline_at : Place → ℤ → ℕ → ℕ → List ℕ → Option Placed
inline_at place n depth at text =
    placed_node (in_flow place) (further_spaces place n) (length text) (depth_limit - depth) (drop at text) >>= if_something
