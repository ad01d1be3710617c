-- Where nodes, items and entries begin and end.
use Rattle.std.proofs.Common.{◌≡◌, ℕ, ◌-◌, List, length, refl, rules}
use Rattle.yq_core.specs.Entries.{EntryPieces, start_of, end_of, entry_start, locate_entry, pieces_text}
use Rattle.yq_core.{specs.Nodes.{FlowNode, anchored, node_text}, specs.Places.locate}

pub start_placed : (total : ℕ) (n : FlowNode) (rest : List ℕ) → start_of (locate total n rest) ≡ total - length (node_text n rest)
unfolding locate
start_placed total (anchored n g node) rest = search rules
start_placed total _ rest = refl

pub end_placed : (total : ℕ) (n : FlowNode) (rest : List ℕ) → end_of (locate total n rest) ≡ total - length rest
unfolding locate
end_placed total (anchored n g node) rest = search (rules, end_placed total node rest)
end_placed total _ rest = refl

-- where an item or entry begins
pub entry_placed : (total : ℕ) (x : EntryPieces) → entry_start (locate_entry total x) ≡ total - length (pieces_text x)
entry_placed total x = search (rules, start_placed)
