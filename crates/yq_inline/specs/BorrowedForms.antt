-- What nodes are that a text lends (own).
use Rattle.std.specs.Prelude.{◌≡◌, Bool, false, List, None, Option, Some, ℕ, map}
use Rattle.yq_core.{specs.Entries.{PlacedEntry, flow_part_at, parts_of, placed_entry_at, tree_step}, specs.Borrowed.borrows_text}
use Rattle.yq_core.{specs.Places.{Parts, end}, specs.Scalars.scalar_of, specs.Tree.{Node, scalar, list}}
use Rattle.yq_core.{specs.Trees.{parts_tree, placed_tree, scalar_node, tree_collection}, specs.View.borrowed_view}
use Rattle.yq_core.{specs.declared.borrowed.BorrowedNode.BorrowedNode, specs.declared.path.Step.Step}
use Rattle.yq_inline.{specs.BorrowedParts.parts_view, specs.Measured.closing_byte, specs.declared.parts.BorrowedParts.BorrowedParts}
use Rattle.yq_core.specs.Tree as tree
use Rattle.yq_inline.specs.declared.forms.BorrowedForm as forms

-- the node that one of the code is (own)
abbrev pub form_node : forms.BorrowedForm → Node
form_node (forms.TheVariants.Scalar kind text) = scalar None kind text.now
form_node (forms.TheVariants.List parts) = list None (parts_tree (parts_view parts))
form_node (forms.TheVariants.Map parts) = tree.map None (parts_tree (parts_view parts))

-- the items or entries of a node of the code (own)
abbrev pub form_parts : forms.BorrowedForm → Parts
form_parts (forms.TheVariants.Scalar kind text) = end
form_parts (forms.TheVariants.List parts) = parts_view parts
form_parts (forms.TheVariants.Map parts) = parts_view parts

-- the text lends the scalar in front, if one is read (own)
abbrev pub borrows_front : Option (List ℕ × List ℕ) → Bool
borrows_front None = false
borrows_front (Some x) = borrows_text x.0

-- the node that the scalar in front is, if one is read (own)
abbrev pub front_node : Option (List ℕ × List ℕ) → Option Node
front_node None = None
front_node (Some x) = Some (scalar_node (scalar_of x.0))

-- The items or entries of a node that is a collection (own).
pub record AreInside (node : BorrowedNode) (inside : BorrowedParts) : Type 0 where
  pub tree : placed_tree (borrowed_view node) ≡ tree_collection (closing_byte inside.keyed) (parts_tree (parts_view inside))
  pub parts : parts_of (borrowed_view node) ≡ parts_view inside

-- the item or entry of a node to which a step leads (own)
abbrev pub borrowed_part_at : Step → BorrowedNode → Option PlacedEntry
borrowed_part_at step node = flow_part_at (tree_step step) (parts_of (borrowed_view node))

-- the item or entry at a path from a node (own)
abbrev pub borrowed_entry_at : List Step → BorrowedNode → Option PlacedEntry
borrowed_entry_at steps node = placed_entry_at (map tree_step steps) (None, borrowed_view node)
