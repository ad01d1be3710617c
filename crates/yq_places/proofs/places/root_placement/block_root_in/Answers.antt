use Rattle.std.{proofs.Common.{◌∙◌, sym, ap}, proofs.lemmas.Option.same_Some}
use Rattle.yq_text.specs.Halves.{whole}
use Rattle.yq_row_table.specs.View.{Slices}
use Rattle.yq_places.{specs.Placements.root, specs.PlacementReading.root_entry, proofs.EntryRowLaws.{pieces_at, row_within, is_view}}
use Rattle.yq_places.proofs.RootPlacementLaws.{root_ends}
use Rattle.yq_places.proofs.places.root_placement.block_root_in.Goals as goal

pub row-requires : goal.row-requires
row-requires c = let h = c.requires in row_within (whole c.args.text) c.args.rows.now (root_entry h.part h.row h.under) c.args.document.first c.args.document.end h.is

pub line_start-start-requires-clause-within : goal.line_start-start-requires-clause-within
line_start-start-requires-clause-within c = let h = c.requires in row_within (whole c.args.text) c.args.rows.now (root_entry h.part h.row h.under) c.args.document.first c.args.document.end h.is

pub lines_from-requires : goal.lines_from-requires
lines_from-requires c = root_ends (whole c.args.text) c.args.rows.now c.args.document c.requires c.is_text.ensures c.line_start-start.result c.line_start-start.ensures

pub returns : goal.returns
returns c = λ h.
    let t = whole c.args.text in
    let s = c.args.rows.now in
    let e = root_entry h.part h.row h.under in
    let row = same_Some _ _ (sym (pieces_at t s e c.args.document.first c.args.document.end h.is) ∙ c.row.ensures) in
    let lower = c.lines_from.ensures (root_ends t s c.args.document h c.is_text.ensures c.line_start-start.result c.line_start-start.ensures) in
    let column = c.column-column.ensures ∙ ap (λ (y : Slices). y.column) (sym row) in
    λ i. root (column i) (lower i)

pub line_start-start-requires-clause-rows_view : goal.line_start-start-requires-clause-rows_view
line_start-start-requires-clause-rows_view c = let h = c.requires in is_view (whole c.args.text) c.args.rows.now (root_entry h.part h.row h.under) c.args.document.first c.args.document.end h.is
