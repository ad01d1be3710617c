-- What must hold of the segments that a value replaces as the root of a document (own).
use Rattle.std.specs.Prelude.{◌≡◌, ℕ, List, Some}
use Rattle.yq_core.{specs.Paths.Step, specs.Tree.Node}
use Rattle.yq_row_table.specs.Rows.{Cut, cut_text}
use Rattle.yq_documents.{specs.Pieces.TextPiece, specs.Reading.read_at}
use Rattle.yq_places.specs.Placements.{LinesIn, root, no_rows, placement_at}
use Rattle.yq_semantics.specs.Operations.{replace}
use Rattle.yq_edit_rules.{specs.EditLaws.IsEdit, specs.Layouts.layout_of, specs.ReplaceEdits.{no_rows_put, root_put}}

-- Replace: a value put in the place of a root that is a block collection.
abbrev pub RootsArePut : Type 0
RootsArePut =
    (n : ℕ) (steps : List Step) (v : Node) (c : Cut) (column : ℕ) (w : LinesIn) →
    read_at (cut_text c) ≡ Some c → placement_at n steps c ≡ Some (root column w) → IsEdit (replace n steps v) c (root_put (layout_of n c) v column w)

-- Replace: a value put as the root of a document without rows.
abbrev pub NoRowsArePut : Type 0
NoRowsArePut =
    (n : ℕ) (steps : List Step) (v : Node) (c : Cut) (w : TextPiece) →
    read_at (cut_text c) ≡ Some c → placement_at n steps c ≡ Some (no_rows w) → IsEdit (replace n steps v) c (no_rows_put (layout_of n c) v w)
