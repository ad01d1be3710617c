-- The items and entries of flow collections by their index, where no mapping has a key twice (YAML 1.2.2, 3.2.1.3 and 7.4; own).
use Rattle.std.specs.Prelude.{◌≡◌, ℕ, zero, suc, ◌<◌, true, false, List, length, get_or, is_some, map, Bool, [], Option, option_map, Some}
use Rattle.std.{specs.Prelude.{String, string_bytes}, specs.Borrow.Bor, specs.Str.bytes_eq, specs.declared.alloc.Global.Global}
use Rattle.yq_core.{specs.declared.piece.Piece.Piece, specs.declared.inline.Inline.Inline, specs.declared.path.Entry.Entry}
use Rattle.yq_core.{specs.Entries.{entry_view, flow_part_at, parts_of, tree_step}, specs.Keys.{AreDistinct, HasUniqueKeys, keys_of}}
use Rattle.yq_core.{specs.Paths.{Step, is_here, further}, specs.Places.{Parts, Placed, end, part}, specs.Tree.key_label}
use Rattle.yq_core.{specs.Trees.{parts_tree, placed_tree, unplaced_key}, specs.View.{entries_end, inline_view}}
use Rattle.yq_places.specs.FlowViews.{following_anchor, collection_along, collection_view}
use Rattle.yq_places.specs.declared.places.flow_node.FlowHead.{FlowHead}
use Rattle.yq_core.specs.declared.path.Step as declared

-- an entry of the code: its key, where that is written, and its node (own)
abbrev pub Field : Type 0
Field = String Global × Piece × Inline

-- a step leads to the item or entry of an index, and to none before it (own)
abbrev pub LeadsToPart : Step → ℕ → Parts → Type 0
LeadsToPart s i end = ⊥
LeadsToPart s zero (part key n parts) = is_here s (key_label (unplaced_key key)) ≡ true
LeadsToPart s (suc i) (part key n parts) = (is_here s (key_label (unplaced_key key)) ≡ false) × LeadsToPart (further s) i parts

-- no two entries have the same key (3.2.1.3)
abbrev pub HaveDistinctKeys : List Field → Type 0
HaveDistinctKeys es = AreDistinct (keys_of (parts_tree (entries_end es)))

-- The entry of an index is there, and has this key (own).
pub record HasKeyAt (i : ℕ) (key : List ℕ) (es : List Field) : Type 0 where
  pub entry : Field
  pub within : i < length es
  pub at : entry ≡ get_or es i entry
  pub key_is : bytes_eq (string_bytes entry.0) key ≡ true

-- the collection to which the steps lead that the code reports with a node has no key twice (3.2.1.3)
abbrev pub HasUniqueCollection : FlowHead → Type 0
HasUniqueCollection x = (q : Placed) → Some (following_anchor q) ≡ collection_view x → HasUniqueKeys (placed_tree q)

-- whether a node is a collection (7.4)
abbrev pub is_collection : Placed → Bool
is_collection p = is_some (collection_along [] p)

-- a node has no key twice, if it is a collection (3.2.1.3)
abbrev pub IsUniqueNode : Placed → Type 0
IsUniqueNode p = is_collection p ≡ true → HasUniqueKeys (placed_tree p)

-- what the code found among the items or entries of a node is the one to which a step leads (own)
abbrev pub IsPartAt : Option Entry → declared.Step → Inline → Type 0
IsPartAt found s node = option_map entry_view found ≡ flow_part_at (tree_step s) (parts_of (inline_view node))

-- what it found from a node on is the collection to which steps lead (own)
abbrev pub IsCollectionFrom : Option (Bor Inline) → List declared.Step → Inline → Type 0
IsCollectionFrom found steps node = option_map (λ n. following_anchor (inline_view n.now)) found ≡ collection_along (map tree_step steps) (inline_view node)

-- a head with the steps that lead on in it to another collection (own)
abbrev pub head_with : FlowHead → Bor (List declared.Step) → FlowHead
head_with x left = record x { left = left }
