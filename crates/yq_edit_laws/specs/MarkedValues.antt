-- Replace at an item or entry, or of a node alone on its line: what must hold of what is put there (own).
use Rattle.std.specs.Prelude.{◌≡◌, ℕ, List, Some, Bool, true, false}
use Rattle.yq_core.{specs.Paths.Step, specs.Tree.Node}
use Rattle.yq_row_table.specs.Rows.{Cut, cut_text}
use Rattle.yq_documents.specs.Reading.{read_at}
use Rattle.yq_places.specs.NodesAt.{node_in}
use Rattle.yq_places.specs.Placements.{Placement, alone, beside, under, compact, block, root, no_rows, placement_at}
use Rattle.yq_semantics.specs.Operations.{replace}
use Rattle.yq_edit_rules.{specs.EditLaws.IsEdit, specs.Layouts.layout_of, specs.ReplaceEdits.{has_text, value_put}}
use Rattle.yq_edit_rules.specs.Replacing.{keeps_scalar}

-- whether something is at an item or entry, or is a node alone on its line
abbrev pub is_marked : Placement → Bool
is_marked (alone w) = true
is_marked (beside h) = true
is_marked (under h column) = true
is_marked (compact mark column w) = true
is_marked (block h indent) = true
is_marked (root column w) = false
is_marked (no_rows w) = false

-- A value put there carries out Replace.
abbrev pub MarkedValuesArePut : Type 0
MarkedValuesArePut =
    (n : ℕ) (steps : List Step) (v : Node) (c : Cut) (t : Placement) →
    read_at (cut_text c) ≡ Some c → placement_at n steps c ≡ Some t → is_marked t ≡ true → keeps_scalar (node_in n steps c) v ≡ false →
    IsEdit (replace n steps v) c (value_put (has_text (node_in n steps c)) (layout_of n c) v t)
