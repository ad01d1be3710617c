-- How a value is written at a place (YAML 1.2.2, 7 and 8; own).
use Rattle.std.specs.Prelude.{ℕ, ◌+◌, ◌||◌, not, List, [], ◌++◌, replicate, Bool, if◌then◌else◌}
use Rattle.yq_core.{specs.Tree.{Node, alias, scalar, list, map}, specs.Written.written_scalar, specs.declared.style.Place.Place}
use Rattle.yq_core.{specs.declared.style.Place.TheVariants.Block as InBlock, specs.Scalars.scalar_style, specs.NodesWritten.flow_text}
use Rattle.yq_places.specs.Placements.{MarkPieces}
use Rattle.yq_edit_rules.{specs.declared.layout.Layout.Layout, specs.BlockReading.is_filled, specs.BlockRows.{indent_step, item_column}}
use Rattle.yq_edit_rules.{specs.BlockText.block_value, specs.Style.style_in}

-- a value on one line, in the place of a text: a scalar in the style of that, if this can write it, else plain if it can be, else in double quotes; a
-- collection in flow style (7)
abbrev pub value_text : Place → List ℕ → Node → List ℕ
value_text place old (alias name) = flow_text (alias name)
value_text place old (scalar anchor kind text) = written_scalar (style_in place (record { kind = kind; text = text }) (scalar_style old)) text
value_text place old (list anchor cs) = flow_text (list anchor cs)
value_text place old (map anchor cs) = flow_text (map anchor cs)

-- A value as it is written at a place, without its last break: on one line; on the line of a dash and the lines below it, from its first key or dash on; or on
-- lines of its own, with the spaces of the first one (8.2).
pub data Written : Type 0 where
  inline : List ℕ → Written
  compact_text : List ℕ → Written
  lines : List ℕ → Written

-- whether a collection may begin on the line of a key or dash: that of a dash, with neither an anchor nor a comment (8.2.1; own)
abbrev pub takes_compact : MarkPieces → Bool
takes_compact m = not (m.keyed || m.noted)

-- the column of a collection below a key or dash: a step deeper than a key, two columns after a dash (8.2.1, 8.2.2)
abbrev pub column_under : Layout → MarkPieces → Node → ℕ
column_under l m v = if m.keyed then m.column + indent_step l v else item_column m.column

-- a value on lines in a column, up to its last break (8.2)
abbrev pub lines_in : Layout → ℕ → Node → List ℕ
lines_in l column v = replicate column 32 ++ block_value l column v

-- a collection with items or entries: on the line of a dash, if it is compact, else below (8.2)
abbrev pub collection_by : (is_compact : Bool) → Layout → MarkPieces → Node → Written
collection_by is_compact l m v =
    if is_compact then compact_text (block_value l (item_column m.column) v) else lines (lines_in l (column_under l m v) v)

-- the same: on the line of a dash that takes it, else below (8.2)
abbrev pub collection_at : Layout → MarkPieces → Node → Written
collection_at l m v = collection_by (takes_compact m) l m v

-- how a value is written after a key or dash, in the place of a text there: such a collection so, another value on one line
abbrev pub written_at : Layout → MarkPieces → List ℕ → Node → Written
written_at l m old v = if is_filled v then collection_at l m v else inline (value_text InBlock old v)

-- the same in the place of lines under a key or dash: a collection comes below in any case
abbrev pub written_under : Layout → MarkPieces → Node → Written
written_under l m v = if is_filled v then lines (lines_in l (column_under l m v) v) else inline (value_text InBlock [] v)
