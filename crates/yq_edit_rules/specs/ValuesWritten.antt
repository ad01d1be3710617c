-- How values of the code are written in block style (YAML 1.2.2, 8.2; own).
use Rattle.std.{specs.Prelude.{ℕ, ◌∷◌, List, Vec, map, String}, specs.declared.alloc.Global.Global}
use Rattle.yq_core.{specs.Values.{field_of, value_node}, specs.declared.value.Value.Value}
use Rattle.yq_flow_edits.specs.Valued.{IsValueTree}
use Rattle.yq_outline.specs.Bodies.{borrowed}
use Rattle.yq_places.{specs.PlacementViews.held_mark_view, specs.declared.places.held.EntryMark.EntryMark}
use Rattle.yq_edit_rules.{specs.declared.entry.Child.Child, specs.declared.layout.Layout.Layout, specs.Alone.singleton}
use Rattle.yq_edit_rules.{specs.BlockReading.{block_item, block_list, block_map, block_pair}, specs.BlockRows.item_column}
use Rattle.yq_edit_rules.{specs.BlockText.block_value, specs.BlockValues.IsCollection, specs.WrittenValues.{column_under, lines_in}}

-- a value at a column
abbrev pub value_block : Layout → ℕ → Value → List ℕ
value_block l column v = block_value l column (value_node v)

-- an item of a sequence at a column
abbrev pub item_block : Layout → ℕ → Value → List ℕ
item_block l column v = block_item l column (value_node v)

-- an entry of a mapping at a column
abbrev pub entry_block : Layout → ℕ → List ℕ → Value → List ℕ
entry_block l column key v = block_pair l column (key, value_node v)

-- an item, or an entry with its key, at a column
abbrev pub block_child : Layout → ℕ → Child → List ℕ
block_child l column c = block_value l column (singleton (borrowed c.key) (value_node c.value.now))

-- the items of a sequence at a column
abbrev pub block_items : Layout → ℕ → Vec Value Global → List ℕ
block_items l column vs = block_list l column (map value_node vs.items)

-- the entries of a mapping at a column
abbrev pub block_fields : Layout → ℕ → Vec (String Global × Value) Global → List ℕ
block_fields l column es = block_map l column (map field_of es.items)

-- the column of a value below a key or dash
abbrev pub value_column : Layout → EntryMark → Value → ℕ
value_column l m v = column_under l (held_mark_view m) (value_node v)

-- a value on lines below a key or dash, up to its last break
abbrev pub lines_at_mark : Layout → EntryMark → Value → List ℕ
lines_at_mark l m v = lines_in l (column_under l (held_mark_view m) (value_node v)) (value_node v)

-- a value on the line of a dash, after a space
abbrev pub compact_block : Layout → EntryMark → Value → List ℕ
compact_block l m v = 32 ∷ block_value l (item_column m.column) (value_node v)

-- a value that is a collection has a tree without anchors and comments
abbrev pub IsTreeIfFilled : Value → Type 0
IsTreeIfFilled v = IsCollection (value_node v) → IsValueTree (value_node v)
