use Rattle.std.{proofs.Common.{SFits, ap, option_map, rules, slice_get, sym, true, w64, ◌∙◌}, proofs.lemmas.Int.to_z-of_z}
use Rattle.std.proofs.lemmas.Option.{same_Some, slice_get-map}
use Rattle.yq_row_table.{specs.BlockNumbers.block_numbers_of, specs.Exchange.after_row, specs.Rows.parent_indent}
use Rattle.yq_row_table.{specs.View.{RowsView, Slices, rows_of, slices}, proofs.BlockNumberLaws.block_by_pieces, proofs.PlaceLaws.row_in}
use Rattle.yq_row_table.proofs.rows.Rows.block.Goals as goal

pub returns : goal.returns
returns c = λ t d r cut is at.
    let pieces = same_Some _ _ (sym c.row-row.ensures ∙ (ap (λ (v : RowsView). slice_get v.rows c.args.i) is ∙ (slice_get-map slices (rows_of d) c.args.i ∙ ap (option_map slices) at))) in
    let fits : SFits w64 c.row-row.result.parent = search rules in
    (rw (c.parent_indent.ensures, to_z-of_z w64 c.row-row.result.parent fits, c.head.ensures, c.raw.ensures) at c.block_numbers_of.ensures)
    ∙ (ap (λ (s : Slices). block_numbers_of s.parent s.head s.raw) pieces ∙ block_by_pieces (parent_indent r) r.content (after_row c.args.i d) (row_in d c.args.i true r cut.parts at).row.content)
