use Rattle.std.{proofs.Common.{List, ℕ, [], ◌≡◌, ◌∙◌, ◌+◌, ◌<◌, suc, not, ◌||◌, length, sym, ap, arith}, proofs.lemmas.Option.same_Some}
use Rattle.yq_text.specs.Halves.{whole}
use Rattle.yq_core.specs.Text.{is_empty}
use Rattle.yq_row_table.specs.View.{Slices, row_view}
use Rattle.yq_places.{specs.CommentPlaces.end_in_line, specs.Placements.compact}
use Rattle.yq_places.{proofs.EntryRowLaws.{column_fits, pieces_at, row_within, is_view}, proofs.HeldTexts.column_is}
use Rattle.yq_places.proofs.LoneLaws.{dash_ends, dash_fits}
use Rattle.yq_outline.specs.RowWalk.{line_column}
use Rattle.yq_places.proofs.places.entry_placement.compact_in.Goals as goal

pub row-row-requires : goal.row-row-requires
row-row-requires c = let h = c.requires.entry in row_within (whole c.args.text) c.args.rows.now h.entry c.args.at.row c.args.at.end h.is.rows

pub line_start-requires-clause-within : goal.line_start-requires-clause-within
line_start-requires-clause-within c = let h = c.requires.entry in row_within (whole c.args.text) c.args.rows.now h.entry c.args.at.row c.args.at.end h.is.rows

pub lines_from-lower-requires : goal.lines_from-lower-requires
lines_from-lower-requires c =
    let h = c.requires.entry in
    let less : h.entry.line < length h.entry.row.dashes = omega (arith, c.requires.dash, h.is.line, h.is.dashes) in
    dash_ends (whole c.args.text) c.args.rows.now h.entry c.args.at.row c.args.at.end h.is.rows c.is_text.ensures c.args.at.line h.is.line less
    (row_view c.row-row.result) c.row-row.ensures c.line_start.result c.line_start.ensures

pub returns : goal.returns
returns c = λ e h.
    let t = whole c.args.text in
    let s = c.args.rows.now in
    let less : e.line < length e.row.dashes = omega (arith, c.requires.dash, h.line, h.dashes) in
    let row = same_Some _ _ (sym (pieces_at t s e c.args.at.row c.args.at.end h.rows) ∙ c.row-row.ensures) in
    let lower = c.lines_from-lower.ensures (dash_ends t s e c.args.at.row c.args.at.end h.rows c.is_text.ensures c.args.at.line h.line less (row_view c.row-row.result)
    c.row-row.ensures c.line_start.result c.line_start.ensures) in
    let first = c.mark_of-mark.ensures.column ∙ ((λ i. line_column (h.line i) (sym row i)) ∙ column_is e.row e.line (omega (arith, less))) in
    let next : c.args.at.line + 1 ≡ suc e.line = omega (arith, h.line) in
    let second = c.line_column.ensures.value ∙ ((λ i. line_column (next i) (sym row i)) ∙ column_is e.row (suc e.line) (omega (arith, less))) in
    let noted = c.mark_of-mark.ensures.noted
    ∙ (λ i. not (is_empty (sym row i).anchor) || not
    (is_empty ((c.line_end.ensures.comment
    ∙ ap (λ (t : List ℕ). (end_in_line [] t).comment) (c.tail.ensures ∙ ap (λ (y : Slices). y.tail) (sym row))) i))) in
    λ i. compact (record { column = first i; keyed = c.mark_of-mark.ensures.keyed i; noted = noted i }) (second i) (lower i)

pub overflow_add-line_start : goal.overflow_add-line_start
overflow_add-line_start c =
    let h = c.requires.entry in
    let less : h.entry.line < length h.entry.row.dashes = omega (arith, c.requires.dash, h.is.line, h.is.dashes) in
    omega (
      arith,
      dash_fits (whole c.args.text) c.args.rows.now h.entry c.args.at.row c.args.at.end h.is.rows c.is_text.ensures c.args.at.line
          h.is.line less (row_view c.row-row.result) c.row-row.ensures c.line_start.result c.line_start.ensures,
    )

pub mark_of-mark-requires : goal.mark_of-mark-requires
mark_of-mark-requires c = let h = c.requires.entry in column_fits (whole c.args.text) c.args.rows.now h.entry c.args.at.row c.args.at.end h.is.rows (row_view c.row-row.result) c.row-row.ensures

pub line_column-requires : goal.line_column-requires
line_column-requires c = let h = c.requires.entry in column_fits (whole c.args.text) c.args.rows.now h.entry c.args.at.row c.args.at.end h.is.rows (row_view c.row-row.result) c.row-row.ensures

pub line_start-requires-clause-rows_view : goal.line_start-requires-clause-rows_view
line_start-requires-clause-rows_view c = let h = c.requires.entry in is_view (whole c.args.text) c.args.rows.now h.entry c.args.at.row c.args.at.end h.is.rows
