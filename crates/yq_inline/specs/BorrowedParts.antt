-- The items and entries of nodes that a text lends (own).
use Rattle.std.specs.Prelude.{◌≡◌, ℕ, ◌==◌, List, Option, Some, None, option_map, if◌then◌else◌}
use Rattle.yq_core.{specs.Borrowed.leading_items, specs.Entries.PlacedEntry, specs.Nodes.{Key, bare}}
use Rattle.yq_core.{specs.Places.{Parts, end, part, key_placed}, specs.Reading.read_flow_key, specs.View.borrowed_view}
use Rattle.yq_inline.{specs.Measured.closing_byte, specs.declared.parts.BorrowedEntry.BorrowedEntry}
use Rattle.yq_inline.specs.declared.parts.BorrowedParts.{BorrowedParts}

-- the item or entry that one of the code shows (own)
abbrev pub borrowed_entry : BorrowedEntry → PlacedEntry
borrowed_entry e = (option_map (λ k. (k.0.now, k.1)) e.key, borrowed_view e.node)

-- the items or entries that those of the code show (own)
abbrev pub parts_view : BorrowedParts → Parts
parts_view p = leading_items p.total p.depth (closing_byte p.keyed) p.text.now

-- the first item or entry, if there is one, before the others (own)
abbrev pub first_and_others : Option (BorrowedEntry × BorrowedParts) → Parts
first_and_others None = end
first_and_others (Some x) = part (borrowed_entry x.0).0 (borrowed_entry x.0).1 (parts_view x.1)

-- the items or entries, if there are any (own)
abbrev pub parts_or_end : Option BorrowedParts → Parts
parts_or_end None = end
parts_or_end (Some p) = parts_view p

-- the key in front, if entries have one, and what follows its `:` (own)
abbrev pub key_before : ℕ → List ℕ → Option (Key × List ℕ)
key_before k t = if k == 125 then read_flow_key t else Some (bare, t)

-- The entry in front: its key with the piece of that, and its node, which begins after the key (own).
pub record IsFirstEntry (p : BorrowedParts) (e : BorrowedEntry) : Type 0 where
  pub key : Key
  pub is_located : key_before (closing_byte p.keyed) p.text.now ≡ Some (key, e.node.text.now)
  pub view : (borrowed_entry e).0 ≡ key_placed p.total p.text.now key
  pub total : e.node.total ≡ p.total
  pub depth : e.node.depth ≡ p.depth
