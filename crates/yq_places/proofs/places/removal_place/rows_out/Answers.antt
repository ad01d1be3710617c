use Rattle.std.proofs.Common.{◌+◌, ◌-◌, ℕ, length, length-append, take, drop, option_map, ap, ◌∙◌, rules}
use Rattle.yq_text.specs.Halves.{whole}
use Rattle.yq_core.specs.Text.{joined, text_lines}
use Rattle.yq_row_table.{specs.Removal.{block_numbers, last_block}, specs.View.row_view}
use Rattle.yq_documents.{specs.Pieces.before_run, specs.Reading.cut_of}
use Rattle.yq_places.{specs.RemovalPlaces.seam_after, proofs.RemovalViewLaws.{code_agrees, out_agrees, own_view}}
use Rattle.yq_places.proofs.places.removal_place.rows_out.Goals as goal

pub row-requires : goal.row-requires
row-requires c = (out_agrees (whole c.args.text) c.args.rows.now c.requires.part c.requires.rows _ c.requires.is).at_within

pub row_start-requires-clause-within : goal.row_start-requires-clause-within
row_start-requires-clause-within c = (out_agrees (whole c.args.text) c.args.rows.now c.requires.part c.requires.rows _ c.requires.is).at_within

pub overflow_add-start : goal.overflow_add-start
overflow_add-start c =
    let o = out_agrees (whole c.args.text) c.args.rows.now c.requires.part c.requires.rows _ c.requires.is in
    search (rules, length-append, o.kept)

pub row_stop-stop-requires-clause-within : goal.row_stop-stop-requires-clause-within
row_stop-stop-requires-clause-within c = (out_agrees (whole c.args.text) c.args.rows.now c.requires.part c.requires.rows _ c.requires.is).last_within

pub block_before-block-requires-clause-within : goal.block_before-block-requires-clause-within
block_before-block-requires-clause-within c = (out_agrees (whole c.args.text) c.args.rows.now c.requires.part c.requires.rows _ c.requires.is).at_within

pub split_at-requires : goal.split_at-requires
split_at-requires c =
    let o = out_agrees (whole c.args.text) c.args.rows.now c.requires.part c.requires.rows _ c.requires.is in
    let kept = c.split_run.ensures.kept ∙ ap (λ g. joined (before_run (text_lines g))) c.gap.ensures in
    let agrees = code_agrees (whole c.args.text) c.args.rows.now c.requires.part c.requires.rows c.args.marks.0 c.args.marks.1 c.args.marks.2
    (row_view c.row.result) c.split_run.result.0.now c.gap_before-column.result.0.now c.row_start.result c.row_stop-stop.result
    c.gap_before-column.result.1
    c.is_text.ensures o c.row.ensures kept c.row_start.ensures (c.row_stop-stop.ensures o.final o.final_is) c.gap_before-column.ensures in
    agrees.cuts.begins

pub overflow_sub-stop : goal.overflow_sub-stop
overflow_sub-stop c =
    let o = out_agrees (whole c.args.text) c.args.rows.now c.requires.part c.requires.rows _ c.requires.is in
    let kept = c.split_run.ensures.kept ∙ ap (λ g. joined (before_run (text_lines g))) c.gap.ensures in
    let agrees = code_agrees (whole c.args.text) c.args.rows.now c.requires.part c.requires.rows c.args.marks.0 c.args.marks.1 c.args.marks.2
    (row_view c.row.result) c.split_run.result.0.now c.gap_before-column.result.0.now c.row_start.result c.row_stop-stop.result
    c.gap_before-column.result.1
    c.is_text.ensures o c.row.ensures kept c.row_start.ensures (c.row_stop-stop.ensures o.final o.final_is) c.gap_before-column.ensures in
    agrees.order

pub split_at-requires-2 : goal.split_at-requires-2
split_at-requires-2 c =
    let o = out_agrees (whole c.args.text) c.args.rows.now c.requires.part c.requires.rows _ c.requires.is in
    let kept = c.split_run.ensures.kept ∙ ap (λ g. joined (before_run (text_lines g))) c.gap.ensures in
    let agrees = code_agrees (whole c.args.text) c.args.rows.now c.requires.part c.requires.rows c.args.marks.0 c.args.marks.1 c.args.marks.2
    (row_view c.row.result) c.split_run.result.0.now c.gap_before-column.result.0.now c.row_start.result c.row_stop-stop.result
    c.gap_before-column.result.1
    c.is_text.ensures o c.row.ensures kept c.row_start.ensures (c.row_stop-stop.ensures o.final o.final_is) c.gap_before-column.ensures in
    rw c.split_at.ensures.back agrees.cuts.stops

pub split_at-requires-3 : goal.split_at-requires-3
split_at-requires-3 c =
    let o = out_agrees (whole c.args.text) c.args.rows.now c.requires.part c.requires.rows _ c.requires.is in
    let kept = c.split_run.ensures.kept ∙ ap (λ g. joined (before_run (text_lines g))) c.gap.ensures in
    let agrees = code_agrees (whole c.args.text) c.args.rows.now c.requires.part c.requires.rows c.args.marks.0 c.args.marks.1 c.args.marks.2
    (row_view c.row.result) c.split_run.result.0.now c.gap_before-column.result.0.now c.row_start.result c.row_stop-stop.result
    c.gap_before-column.result.1
    c.is_text.ensures o c.row.ensures kept c.row_start.ensures (c.row_stop-stop.ensures o.final o.final_is) c.gap_before-column.ensures in
    rw (c.split_at-2.ensures.back, c.split_at.ensures.back) agrees.cuts.ends

pub returns : goal.returns
returns c = λ d x h.
    let o = out_agrees (whole c.args.text) c.args.rows.now d x _ h in
    let kept = c.split_run.ensures.kept ∙ ap (λ g. joined (before_run (text_lines g))) c.gap.ensures in
    let agrees = code_agrees (whole c.args.text) c.args.rows.now d x c.args.marks.0 c.args.marks.1 c.args.marks.2 (row_view c.row.result)
    c.split_run.result.0.now c.gap_before-column.result.0.now c.row_start.result c.row_stop-stop.result c.gap_before-column.result.1
    c.is_text.ensures o c.row.ensures kept c.row_start.ensures (c.row_stop-stop.ensures o.final o.final_is) c.gap_before-column.ensures in
    let start : ℕ = c.row_start.result + length c.split_run.result.0.now in
    let size : ℕ = c.row_stop-stop.result - start in
    let gap : ℕ = length c.gap_before-column.result.0.now in
    let rest = ap (drop size) c.split_at.ensures.back in
    let block = c.block_before-block.ensures
    (record { text = whole c.args.text; cut = cut_of (whole c.args.text); is_cut = h.cut; rows_view_is = h.rows_view_is; part = d.part; more = o.more; rows = o.rows; within = o.front_size })
    ∙ ap (λ rs. option_map block_numbers (last_block rs)) o.front_is in
    let before = c.split_at.ensures.front ∙ agrees.cuts.before_is in
    let gone = c.split_at-2.ensures.front ∙ (ap (take size) c.split_at.ensures.back ∙ agrees.cuts.gone_is) in
    let after = c.split_at-3.ensures.back ∙ (ap (drop gap) (c.split_at-2.ensures.back ∙ rest) ∙ agrees.cuts.following_is) in
    let seam = c.seam_of.ensures (last_block x.front) block ∙ (λ i. seam_after (last_block x.front) (agrees.column_is i) (agrees.kept_is i)) in
    λ i. record { before = before i; gone = gone i; gap = agrees.gap_is i; after = after i; seam = seam i }

pub row_stop-stop-requires-clause-rows_view : goal.row_stop-stop-requires-clause-rows_view
row_stop-stop-requires-clause-rows_view c = own_view (whole c.args.text) c.args.rows.now c.requires.part c.requires.rows (c.args.marks.0, c.args.marks.1, c.args.marks.2) c.requires.is

pub row_start-requires-clause-rows_view : goal.row_start-requires-clause-rows_view
row_start-requires-clause-rows_view c = own_view (whole c.args.text) c.args.rows.now c.requires.part c.requires.rows (c.args.marks.0, c.args.marks.1, c.args.marks.2) c.requires.is
