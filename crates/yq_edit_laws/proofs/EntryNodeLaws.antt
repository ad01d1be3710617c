-- The node of an item or entry is what its row spells after the key or dash, with the lines under that.
use Rattle.std.{proofs.Common.{rules, ◌≡◌, ℕ, List, ◌∷◌, length, Some}, proofs.lemmas.Option.slice_get-map}
use Rattle.yq_core.specs.Paths.{Step}
use Rattle.yq_outline.{specs.Group.{group, level_or}, specs.Lines.lines_of_rows, specs.Places.content_under, proofs.Finding.path_node}
use Rattle.yq_outline.proofs.Unique.{group_even}
use Rattle.yq_row_table.specs.Rows.{Cut}
use Rattle.yq_documents.specs.Reading.{part_outline}
use Rattle.yq_places.{specs.NodesAt.node_in, specs.Placements.RowsOfEntry}
use Rattle.yq_edit_rules.{specs.PlacementLaws.HasItsRows, proofs.NodeLineLaws.under_even, proofs.PlacementMarks.{even_there, under_it}}
use Rattle.yq_edit_rules.proofs.UnderLaws.{line_is, line_with, under_is}

pub entry_node : (n : ℕ) (s : Step) (ss : List Step) (c : Cut) (e : RowsOfEntry) → HasItsRows n s ss c e → e.line ≡ length e.row.dashes →
    node_in n (s ∷ ss) c ≡ Some (content_under (line_with e.row e.row.content) (group (lines_of_rows e.under)))
entry_node n s ss c e there mark =
    let row = under_it n s ss c e there mark in
    let even = even_there n s ss c e there mark in
    let line = line_is there.part s ss e.front e.row e.under e.back row even in
    let lines = under_is there.part s ss e.front e.row e.under e.back row even in
    let below = (under_even (level_or 0 (part_outline there.part)) (part_outline there.part) s ss there.found even there.is).1 in
    search (rules, group_even, slice_get-map, path_node)
