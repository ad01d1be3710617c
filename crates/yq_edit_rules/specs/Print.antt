-- How values are printed (own).
use Rattle.std.specs.Prelude.{List, [], ◌∷◌, ◌++◌, ℕ}
use Rattle.yq_edit_rules.{specs.declared.layout.Layout.Layout, specs.BlockText.block_value}
use Rattle.yq_core.specs.declared.block_types.Break.TheVariants as breaks
use Rattle.yq_core.specs.Tree as tree

-- steps of 2, and LF (own)
abbrev pub print_layout : Layout
print_layout = record { br = breaks.Lf; mapping = 2; sequence = 2 }

-- a value as it is printed, but for its last break: a scalar's content, or a collection in block style from column 0 (own)
abbrev pub printed_value : tree.Node → List ℕ
printed_value (tree.alias name) = []
printed_value (tree.scalar a kind text) = text
printed_value (tree.list a cs) = block_value print_layout 0 (tree.list a cs)
printed_value (tree.map a cs) = block_value print_layout 0 (tree.map a cs)

-- a value as it is printed: with LF after it (own)
unfoldable pub print_text : tree.Node → List ℕ
print_text v = printed_value v ++ 10 ∷ []
