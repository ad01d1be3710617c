-- The items and entries of an inline node to which paths lead.
use Rattle.std.specs.Prelude.{◌≡◌, ℕ, List, [], ◌∷◌, ◌++◌, Option, Some, None, option_map, option_and_then, if◌then◌else◌, string_bytes}
use Rattle.yq_core.{specs.declared.piece.Piece.Piece, specs.Paths.{Step, To, Nth, is_here, further}, specs.declared.path.Entry.Entry}
use Rattle.yq_core.specs.Nodes.{Key, FlowNode, empty, alias, scalar, coll, anchored, Items, none, item, key_text, sep_text, node_text}
use Rattle.yq_core.specs.Nodes.{flow_items_text}
use Rattle.yq_core.specs.Places.{Placed, placed, CoreNode, nothing, name, text, sequence, mapping, Parts, end, part, key_placed, locate}
use Rattle.yq_core.{specs.Trees.{key_content, unplaced_key}, specs.View.inline_view, specs.Tree.key_label}
use Rattle.yq_core.specs.declared.path.Step as declared

-- the step that one of the code means (own)
abbrev pub tree_step : declared.Step → Step
tree_step (declared.TheVariants.Key k) = To (string_bytes k)
tree_step (declared.TheVariants.Index n) = Nth n

-- an item or entry with places: its key with its piece, if it has one, and its node (own)
abbrev pub PlacedEntry : Type 0
PlacedEntry = Option (List ℕ × Piece) × Placed

-- the item or entry that one of the code shows (own)
abbrev pub entry_view : Entry → PlacedEntry
entry_view e = (option_map (λ k. (k.0.now, k.1)) e.key, inline_view e.node.now)

-- the items or entries in a content (own)
abbrev pub parts_in : CoreNode → Parts
parts_in nothing = end
parts_in (name n) = end
parts_in (text s piece) = end
parts_in (sequence parts) = parts
parts_in (mapping parts) = parts

-- the items or entries of a node (own)
abbrev pub parts_of : Placed → Parts
parts_of (placed a s c e f) = parts_in f

-- the item or entry to which a step leads (own)
abbrev pub flow_part_at : Step → Parts → Option PlacedEntry
flow_part_at s end = None
flow_part_at s (part key n parts) = if is_here s (key_label (unplaced_key key)) then Some (key, n) else flow_part_at (further s) parts

-- the item or entry to which steps lead from one (own)
abbrev pub placed_entry_at : List Step → PlacedEntry → Option PlacedEntry
placed_entry_at [] slot = Some slot
placed_entry_at (s ∷ ss) slot = option_and_then (placed_entry_at ss) (flow_part_at s (parts_of slot.1))

-- the place of a content that goes from c to e, if it is anything (own)
abbrev pub place_in : CoreNode → ℕ → ℕ → Option (ℕ × ℕ)
place_in nothing c e = None
place_in (name n) c e = Some (c, e)
place_in (text s piece) c e = Some (c, e)
place_in (sequence parts) c e = Some (c, e)
place_in (mapping parts) c e = Some (c, e)

-- the place of a node without its anchor, if anything but that is written (own)
abbrev pub content_place : Placed → Option (ℕ × ℕ)
content_place (placed a s c e f) = place_in f c e

-- where a node begins, with its anchor (own)
abbrev pub start_of : Placed → ℕ
start_of (placed a s c e f) = s

-- where a node ends (own)
abbrev pub end_of : Placed → ℕ
end_of (placed a s c e f) = e

-- where an item or entry begins: its key, or without one its node (own)
abbrev pub entry_start : PlacedEntry → ℕ
entry_start (None, n) = start_of n
entry_start (Some k, n) = k.1.start

-- the place of an item or entry, with its key and anchor (own)
abbrev pub entry_place : PlacedEntry → ℕ × ℕ
entry_place slot = (entry_start slot, end_of slot.1)

-- an item or entry by its pieces, and the rest that follows it (own)
pub record EntryPieces : Type 0 where
  pub key : Key
  pub node : FlowNode
  pub rest : List ℕ

-- the text of an item or entry, with the rest that follows it (own)
abbrev pub pieces_text : EntryPieces → List ℕ
pieces_text x = key_text x.key (node_text x.node x.rest)

-- the item or entry with its places in a text so long (own)
abbrev pub locate_entry : ℕ → EntryPieces → PlacedEntry
locate_entry total x = (key_placed total (pieces_text x) x.key, locate total x.node x.rest)

-- the item or entry to which a step leads, among items with their closing bracket before a rest (own)
abbrev pub item_at : ℕ → Step → Items → List ℕ → Option EntryPieces
item_at k s none rest = None
item_at k s (item key n sep is) rest =
    if is_here s (key_label (key_content key)) then Some (record { key = key; node = n; rest = sep_text sep (flow_items_text k is rest) })
    else item_at k (further s) is rest

-- the same in a node (own)
abbrev pub path_inside : Step → FlowNode → List ℕ → Option EntryPieces
path_inside s empty rest = None
path_inside s (alias n) rest = None
path_inside s (scalar p) rest = None
path_inside s (coll k gap is) rest = item_at k s is rest
path_inside s (anchored n gap node) rest = path_inside s node rest

-- the item or entry to which steps lead from one (own)
abbrev pub entry_pieces_at : List Step → EntryPieces → Option EntryPieces
entry_pieces_at [] x = Some x
entry_pieces_at (s ∷ ss) x = option_and_then (entry_pieces_at ss) (path_inside s x.node x.rest)

-- an item or entry is in a text, after some of it (own)
pub record IsEntryInText (t : List ℕ) (x : EntryPieces) : Type 0 where
  pub before : List ℕ
  pub text : t ≡ before ++ pieces_text x
