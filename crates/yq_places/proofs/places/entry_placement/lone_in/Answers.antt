use Rattle.std.proofs.Common.{refl}
use Rattle.yq_text.specs.Halves.{whole}
use Rattle.yq_row_table.specs.View.{row_view}
use Rattle.yq_places.{proofs.EntryRowLaws.{row_within, is_view}, proofs.LoneLaws.{end_boundary, lone_is, start_boundary}}
use Rattle.yq_places.proofs.places.entry_placement.lone_in.Goals as goal

pub row-row-requires : goal.row-row-requires
row-row-requires c = let h = c.requires in row_within (whole c.args.text) c.args.rows.now h.entry c.args.i h.end h.is

pub head_place-start-requires-clause-within : goal.head_place-start-requires-clause-within
head_place-start-requires-clause-within c = let h = c.requires in row_within (whole c.args.text) c.args.rows.now h.entry c.args.i h.end h.is

pub split_at-requires : goal.split_at-requires
split_at-requires c =
    let h = c.requires in
    end_boundary (whole c.args.text) c.args.rows.now h.entry c.args.i h.end h.is (c.head_place-start.result.0, c.head_place-start.result.1) c.head_place-start.ensures (row_view c.row-row.result) c.row-row.ensures (whole c.args.text) refl

pub split_at-requires-2 : goal.split_at-requires-2
split_at-requires-2 c =
    let h = c.requires in
    start_boundary (whole c.args.text) c.args.rows.now h.entry c.args.i h.end h.is (c.head_place-start.result.0, c.head_place-start.result.1)
    c.head_place-start.ensures (row_view c.row-row.result) c.row-row.ensures (whole c.args.text) (whole c.split_at.result.0) refl
    c.split_at.ensures.front
    c.head-head.result.now c.head-head.ensures c.head-head.utf8

pub returns : goal.returns
returns c = λ e end h a.
    lone_is (whole c.args.text) c.args.rows.now e c.args.i end h (c.head_place-start.result.0, c.head_place-start.result.1)
    c.head_place-start.ensures (row_view c.row-row.result) c.row-row.ensures (whole c.args.text) (whole c.split_at.result.0)
    (whole c.split_at-2.result.0) (whole c.split_at.result.1) c.head-head.result.now
    refl c.split_at.ensures.front c.split_at.ensures.back c.split_at-2.ensures.front c.head-head.ensures a

pub head_place-start-requires-clause-rows_view : goal.head_place-start-requires-clause-rows_view
head_place-start-requires-clause-rows_view c = let h = c.requires in is_view (whole c.args.text) c.args.rows.now h.entry c.args.i h.end h.is
