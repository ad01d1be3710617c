-- Nodes to which steps lead in the node in front of a text (own; you may skip it).
use Rattle.std.specs.Prelude.{◌≡◌, ℕ, Bool, List, [], ◌∷◌, ◌++◌, drop, length, None, Option, Some, option_map, if◌then◌else◌}
use Rattle.yq_core.{specs.Answers.◌>>=◌, specs.Entries.{EntryPieces, entry_pieces_at, path_inside}}
use Rattle.yq_core.{specs.Nodes.{FlowNode, Items, bare, begins_content, begins_with, node_text}, specs.Paths.Step}
use Rattle.yq_core.{specs.Places.{Placed, locate}, specs.Reading.{all_items, all_node, lead_at, name_at}, specs.View.inline_view}
use Rattle.yq_inline.{specs.Measured.closing_byte, specs.declared.before_offset.LeadingNode.LeadingNode}
use Rattle.yq_inline.{specs.declared.along.NodeAlong.NodeAlong, specs.declared.before_offset.LeadingParts.LeadingParts}

-- the text from the node of an item or entry on (own)
abbrev pub node_from : EntryPieces → List ℕ
node_from y = node_text y.node y.rest

-- a node that was read, as an item (own)
abbrev pub as_item : FlowNode × List ℕ → EntryPieces
as_item x = record { key = bare; node = x.0; rest = x.1 }

-- the node in front is read so (own)
abbrev pub front_read : LeadingNode → Option (FlowNode × List ℕ)
front_read n = all_node n.flow n.spaces n.depth n.text.now

-- the same, if there is one (own)
abbrev pub read_in : Option LeadingNode → Option (FlowNode × List ℕ)
read_in None = None
read_in (Some n) = front_read n

-- the node of an item or entry, with what comes after it (own)
abbrev pub node_and_rest : EntryPieces → FlowNode × List ℕ
node_and_rest y = (y.node, y.rest)

-- the node to which a step leads in one that was read (own)
abbrev pub one_in : Step → Option (FlowNode × List ℕ) → Option (FlowNode × List ℕ)
one_in s o = o >>= λ x. option_map node_and_rest (path_inside s x.0 x.1)

-- the node to which steps lead in one that was read (own)
abbrev pub all_in : List Step → Option (FlowNode × List ℕ) → Option (FlowNode × List ℕ)
all_in [] o = o
all_in (s ∷ ss) o = all_in ss (one_in s o)

-- steps lead in the node in front to another one in front, if there is one (own)
abbrev pub LeadsAlong : List Step → LeadingNode → Option LeadingNode → Type 0
LeadsAlong ss n o = read_in o ≡ all_in ss (front_read n)

-- the items or entries in front are read so (own)
abbrev pub parts_read : LeadingParts → Option (Items × List ℕ)
parts_read p = all_items p.depth (closing_byte p.keyed) p.text.now

-- an item or entry with its places in the text from its node on (own)
abbrev pub located_from : EntryPieces → List ℕ × Placed
located_from y = (node_from y, locate (length (node_from y)) y.node y.rest)

-- the item or entry to which steps lead in a node that was read (own)
abbrev pub located_along : List Step → Option (FlowNode × List ℕ) → Option (List ℕ × Placed)
located_along ss o = o >>= λ x. option_map located_from (entry_pieces_at ss (as_item x))

-- the node that one of the code shows, with the text that begins with it (own)
abbrev pub along_view : NodeAlong → List ℕ × Placed
along_view n = (n.text.now, inline_view n.node)

-- what the code answers is the node to which steps lead in the node in front, if there is one (own)
abbrev pub ReadsAlong : List Step → LeadingNode → Option NodeAlong → Type 0
ReadsAlong ss n o = option_map along_view o ≡ located_along ss (front_read n)

-- the same at one step more (own)
abbrev pub ReadsPart : List Step → Step → LeadingNode → Option NodeAlong → Type 0
ReadsPart ss s n o = ReadsAlong (ss ++ (s ∷ [])) n o

-- what follows the anchor of the node in front and the gap after it, if it has one (own)
abbrev pub after_anchor : Bool → List ℕ → Option (List ℕ)
after_anchor flow t = if begins_with 38 t then (name_at (drop 1 t) >>= λ n. lead_at flow (begins_content flow) n.1 >>= λ g. Some g.1) else Some t
