-- Items and entries of flow collections, as the code has them (own).
use Rattle.yq_core.specs.Entries.{PlacedEntry, entry_view}
use Rattle.yq_inline.specs.BorrowedParts.{borrowed_entry}
use Rattle.yq_tree.specs.declared.flow_place.FlowEntry as entries

-- the item or entry that one of the code shows (own)
abbrev pub flow_entry_view : entries.FlowEntry → PlacedEntry
flow_entry_view (entries.TheVariants.Owned entry) = entry_view entry
flow_entry_view (entries.TheVariants.Borrowed entry) = borrowed_entry entry
