use Rattle.std.{proofs.Common.{ℕ, List, [], ◌≡◌, ap, ◌∙◌, arith}, specs.Str.IsUtf8}
use Rattle.yq_text.specs.Halves.{whole}
use Rattle.yq_row_table.specs.View.{row_view}
use Rattle.yq_places.{specs.CommentPlaces.{LineEnd, end_in_line}, specs.Placements.LinesIn, specs.PlacementViews.lines_view}
use Rattle.yq_places.proofs.EntryRowLaws.{column_fits, row_within, is_view}
use Rattle.yq_places.proofs.HeldTexts.{before_boundary, held_is, lower_ends, space_fits, tail_fits}
use Rattle.yq_places.proofs.places.held.held_in.Goals as goal

pub row-row-requires : goal.row-row-requires
row-row-requires c = let h = c.requires in row_within (whole c.args.text) c.args.rows.now h.entry c.args.at.row c.args.at.end h.is.rows

pub head_place-end-requires-clause-within : goal.head_place-end-requires-clause-within
head_place-end-requires-clause-within c = let h = c.requires in row_within (whole c.args.text) c.args.rows.now h.entry c.args.at.row c.args.at.end h.is.rows

pub lines_from-lower-requires : goal.lines_from-lower-requires
lines_from-lower-requires c =
    let h = c.requires in
    lower_ends (whole c.args.text) c.args.rows.now h.entry c.args.at.row c.args.at.end h.is.rows c.is_text.ensures (c.head_place-end.result.0, c.head_place-end.result.1) c.head_place-end.ensures
    (row_view c.row-row.result) c.row-row.ensures c.tail.result.now c.tail.ensures

pub overflow_add-end : goal.overflow_add-end
overflow_add-end c =
    let h = c.requires in
    omega (
      arith,
      tail_fits (whole c.args.text) c.args.rows.now h.entry c.args.at.row c.args.at.end h.is.rows c.is_text.ensures (c.head_place-end.result.0, c.head_place-end.result.1) c.head_place-end.ensures
          (row_view c.row-row.result) c.row-row.ensures c.tail.result.now c.tail.ensures,
    )

pub overflow_sub-end : goal.overflow_sub-end
overflow_sub-end c =
    let h = c.requires in
    space_fits (whole c.args.text) c.args.rows.now h.entry c.args.at.row c.args.at.end h.is.rows c.is_text.ensures (c.head_place-end.result.0, c.head_place-end.result.1) c.head_place-end.ensures
    (row_view c.row-row.result) c.row-row.ensures c.space_before-space.result.now c.head-head.result.now c.space_before-space.ensures c.head-head.ensures

pub split_at-requires : goal.split_at-requires
split_at-requires c =
    let h = c.requires in
    let t = whole c.args.text in
    let s = c.args.rows.now in
    let u : IsUtf8 t = c.is_text.ensures in
    let place : ℕ × ℕ = (c.head_place-end.result.0, c.head_place-end.result.1) in
    let lower = c.lines_from-lower.ensures (lower_ends t s h.entry c.args.at.row c.args.at.end h.is.rows u place c.head_place-end.ensures
    (row_view c.row-row.result) c.row-row.ensures c.tail.result.now c.tail.ensures) in
    before_boundary t s h.entry c.args.at.row c.args.at.end h.is.rows u place c.head_place-end.ensures (row_view c.row-row.result) c.row-row.ensures
    (whole c.lines_from-lower.result.before) c.space_before-space.result.now c.head-head.result.now
    c.tail.result.now
    (ap (λ (z : LinesIn). z.before) lower) c.space_before-space.ensures c.head-head.ensures c.tail.ensures c.space_before-space.utf8 c.head-head.utf8 c.tail.utf8

pub mark_of-requires : goal.mark_of-requires
mark_of-requires c = let h = c.requires in column_fits (whole c.args.text) c.args.rows.now h.entry c.args.at.row c.args.at.end h.is.rows (row_view c.row-row.result) c.row-row.ensures

pub returns : goal.returns
returns c = λ e h.
    let t = whole c.args.text in
    let s = c.args.rows.now in
    let u : IsUtf8 t = c.is_text.ensures in
    let place : ℕ × ℕ = (c.head_place-end.result.0, c.head_place-end.result.1) in
    let lower = c.lines_from-lower.ensures (lower_ends t s e c.args.at.row c.args.at.end h.rows u place c.head_place-end.ensures
    (row_view c.row-row.result) c.row-row.ensures c.tail.result.now c.tail.ensures) in
    let end : (f : LineEnd → List ℕ) → f (end_in_line [] c.tail-2.result.now) ≡ f (end_in_line [] (row_view c.row-row.result).tail) = λ f i. f (end_in_line [] (c.tail-2.ensures i)) in
    held_is t s e c.args.at.row c.args.at.end h.rows u place c.head_place-end.ensures (row_view c.row-row.result) c.row-row.ensures
    c.mark_of.result.column c.args.at.dashes c.mark_of.result.keyed c.mark_of.result.noted _ (whole c.split_at.result.0)
    c.space_before-space.result.now c.head-head.result.now c.either.result.now c.either-2.result.now
    (record { before = []; white = c.line_end.result.0.now; comment = c.line_end.result.1.now; after = c.line_end.result.2.now })
    (lines_view c.lines_from-lower.result)
    c.mark_of.ensures.column h.dashes (c.mark_of.ensures.keyed ∙ c.has_key.ensures)
    (λ i. record {
      before = [];
      white = (c.line_end.ensures.white ∙ end (λ e. e.white)) i;
      comment =
          (c.line_end.ensures.comment ∙ end (λ e. e.comment)) i;
      after = (c.line_end.ensures.line_break ∙ end (λ e. e.after)) i;
    })
    c.mark_of.ensures.noted lower
    c.space_before-space.ensures c.head-head.ensures c.split_at.ensures.front c.is_empty-none.ensures c.either.ensures c.either-2.ensures

pub head_place-end-requires-clause-rows_view : goal.head_place-end-requires-clause-rows_view
head_place-end-requires-clause-rows_view c = let h = c.requires in is_view (whole c.args.text) c.args.rows.now h.entry c.args.at.row c.args.at.end h.is.rows
